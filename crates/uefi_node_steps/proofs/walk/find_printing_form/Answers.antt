use Rattle.std.proofs.Common.{map}
use Rattle.uefi_device_nodes.proofs.Lists.{all_at}
use Rattle.uefi_node_steps.specs.Heads.{is_small}
use Rattle.uefi_node_steps.specs.Printing.{form_by, step_by}
use Rattle.uefi_node_steps.proofs.walk.find_printing_form.Goals as goal

pub prints-requires-clause-small : goal.prints-requires-clause-small
prints-requires-clause-small g c = all_at (form_by (λ s. map (step_by (λ t. t.now)) s.now) (λ b. b.now)) is_small c.args.forms.now c.loop-form.form-index _ c.loop-form-test.true c.requires.small
