use Rattle.std.proofs.Common.{length, []}
use Rattle.uefi_text.proofs.Puts.{puts_two}
use Rattle.uefi_node_steps.specs.Printing.{is_item_step, step_by, step_text}
use Rattle.uefi_node_steps.specs.Steps.{no_list}
use Rattle.uefi_device_nodes.proofs.Lists.{all_at, text_more}
use Rattle.uefi_node_steps.proofs.printing.put_item.Goals as goal

pub put_item_step-requires : goal.put_item_step-requires
put_item_step-requires g c = all_at (step_by (λ l. l.now)) (is_item_step (length c.args.fixed.now)) c.args.steps.now c.loop-step.step-index _ c.loop-step-test.true c.requires

pub loop-step-preserved : goal.loop-step-preserved
loop-step-preserved g c = puts_two _ _ _ _ _ _ _ c.loop-step.invariant c.put_item_step.ensures
    (text_more (step_by (λ l. l.now)) (step_text no_list (c.args.fixed.now, [])) c.args.steps.now c.loop-step.step-index _ c.loop-step-test.true)
