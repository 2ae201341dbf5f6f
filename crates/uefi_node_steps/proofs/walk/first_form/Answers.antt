use Rattle.std.proofs.Common.{◌||◌, map, not, sym, ◌∙◌}
use Rattle.uefi_device_nodes.proofs.Lists.{all_at}
use Rattle.uefi_node_steps.specs.Heads.{is_small}
use Rattle.uefi_node_steps.specs.Printing.{form_by, step_by}
use Rattle.uefi_node_steps.specs.Table.{Form, is_read, is_sound_form}
use Rattle.uefi_node_steps.proofs.TableLaws.{unless}
use Rattle.uefi_node_steps.proofs.walk.first_form.Goals as goal

pub attempt-requires-clause-sound : goal.attempt-requires-clause-sound
attempt-requires-clause-sound g c = unless _ _ (all_at (form_by (λ s. map (step_by (λ l. l.now)) s.now) (λ b. b.now)) (λ (f : Form). not
    (is_read f.mode) || is_sound_form f) c.args.forms.now c.loop-form.form-index _ c.loop-form-test.true c.requires.sound)
    (sym c.is_read.ensures ∙ c.if-is_read.true)

pub attempt-requires-clause-small : goal.attempt-requires-clause-small
attempt-requires-clause-small g c = all_at (form_by (λ s. map (step_by (λ l. l.now)) s.now) (λ b. b.now)) is_small c.args.forms.now c.loop-form.form-index _ c.loop-form-test.true c.requires.small
