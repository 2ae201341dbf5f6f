use Rattle.std.proofs.Common.{◌∙◌, map}
use Rattle.uefi_text.proofs.Puts.{puts_two}
use Rattle.uefi_node_steps.specs.Printing.{step_by}
use Rattle.uefi_node_steps.proofs.Printed.{item_left, items_more, rest_more}
use Rattle.uefi_node_steps.proofs.printing.put_list.Goals as goal

pub split_at-requires : goal.split_at-requires
split_at-requires g c = item_left c.args.item.now.size c.items.counter c.args.bytes.now c.items.rest.now c.requires.some c.items-test.true c.items.invariant.left

pub items-preserved : goal.items-preserved
items-preserved g c = record {
  text = puts_two _ _ _ _ _ _ _ c.items.invariant.text c.put_item.ensures
      (items_more (map (step_by
      (λ t. t.now)) c.args.item.now.steps.now) c.args.item.now.size c.items.counter c.args.bytes.now c.items.rest.now c.split_at.result.0.now c.items.invariant.left c.split_at.ensures.front);
  left = c.split_at.ensures.back ∙ rest_more c.args.item.now.size c.items.counter c.args.bytes.now c.items.rest.now c.items.invariant.left;
}
