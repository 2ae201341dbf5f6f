use Rattle.std.proofs.Common.{◌≡◌, ◌-◌, length}
use Rattle.std.specs.Prelude.{option_and_then}
use Rattle.uefi_device_nodes.specs.Rows.{as_item}
use Rattle.uefi_node_reader.specs.CountedBytes.{put_on}
use Rattle.uefi_node_reader.specs.TableReading.{items_read}
use Rattle.uefi_node_reader.proofs.exact.node_tails.push_items.Given as goal

abbrev pub invariant-items : goal.invariant-items
invariant-items g l =
    option_and_then (put_on (l.places, l.count)) (items_read (length (g.T.Text.bytes l.fn.text) - l.counter) (as_item l.item) (g.T.Text.bytes l.rest))
    ≡ option_and_then (put_on (l.initial.places, l.fn.len)) (items_read (length (g.T.Text.bytes l.fn.text)) (as_item l.item) (g.T.Text.bytes l.fn.text))
