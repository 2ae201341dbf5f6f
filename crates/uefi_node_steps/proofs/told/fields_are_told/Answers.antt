use Rattle.std.proofs.Common.{length}
use Rattle.uefi_device_nodes.proofs.Lists.{all_at}
use Rattle.uefi_node_steps.specs.Printing.{step_by}
use Rattle.uefi_node_steps.specs.Steps.{is_sound_step}
use Rattle.uefi_node_steps.proofs.told.fields_are_told.Goals as goal

pub is_told_step-requires : goal.is_told_step-requires
is_told_step-requires c = all_at (step_by (λ l. l.now)) (is_sound_step (length c.args.fixed.now)) c.args.steps.now c.loop-step.step-index _ c.loop-step-test.true c.requires
