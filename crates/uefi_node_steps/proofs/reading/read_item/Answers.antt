use Rattle.std.proofs.Common.{◌≡◌, ℕ, length, map, subst, sym, true}
use Rattle.std.specs.List.{list_all}
use Rattle.uefi_node_steps.specs.Steps.{is_flat, is_sound_step}
use Rattle.uefi_node_steps.specs.Printing.{step_by}
use Rattle.uefi_device_nodes.proofs.Lists.{all_at}
use Rattle.uefi_node_steps.proofs.reading.read_item.Goals as goal

pub read_item_step-requires-clause-sound : goal.read_item_step-requires-clause-sound
read_item_step-requires-clause-sound g c = all_at (step_by (λ l. l.now)) (is_sound_step (length c.loop-step.fixed)) c.args.steps.now c.loop-step.step-index _ c.loop-step-test.true
    (subst (λ (n : ℕ). list_all (is_sound_step n) (map (step_by (λ l. l.now)) c.args.steps.now) ≡ true) (sym c.loop-step.auto.fixed) c.requires.sound)

pub read_item_step-requires-clause-flat : goal.read_item_step-requires-clause-flat
read_item_step-requires-clause-flat g c = all_at (step_by (λ l. l.now)) is_flat c.args.steps.now c.loop-step.step-index _ c.loop-step-test.true c.requires.flat
