use Rattle.std.proofs.Common.{◌≡◌, ◌-◌, length}
use Rattle.uefi_node_steps.specs.Leaves.{has_comma, many_read}
use Rattle.uefi_node_steps.specs.Steps.{item_leaf, item_of}
use Rattle.uefi_node_steps.proofs.Fills.{listed}
use Rattle.uefi_node_steps.proofs.reading.read_items.Given as goal

abbrev pub invariant-items : goal.invariant-items
invariant-items g l =
    listed has_comma (item_leaf (item_of l.items)) (g.S.Sink.content l.tail) (many_read has_comma (item_leaf (item_of l.items)) (length (g.T.Text.codes l.fn.text) - l.counter) (g.T.Text.codes l.rest))
    ≡ listed has_comma (item_leaf (item_of l.items)) (g.S.Sink.content l.initial.tail)
    (many_read has_comma (item_leaf (item_of l.items)) (length (g.T.Text.codes l.fn.text)) (g.T.Text.codes l.fn.text))
