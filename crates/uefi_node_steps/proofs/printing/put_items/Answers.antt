use Rattle.std.proofs.Common.{◌∙◌}
use Rattle.uefi_text.proofs.Puts.{puts_as}
use Rattle.uefi_node_steps.specs.Printing.{items_text}
use Rattle.uefi_node_steps.specs.Steps.{chunks, item_of}
use Rattle.uefi_node_steps.proofs.Printed.{items_are}
use Rattle.uefi_node_steps.proofs.printing.put_items.Goals as goal

pub returns : goal.returns
returns g c = puts_as _ _ _ _ _ c.put_list.ensures
    ((λ i. items_text (c.item_of.ensures.steps i) (chunks (c.item_of.ensures.size i) c.args.bytes.now)) ∙ items_are (item_of c.args.items) (chunks (item_of c.args.items).size c.args.bytes.now))
