use Rattle.std.proofs.Common.{◌≡◌, ◌*◌, drop}
use Rattle.std.specs.Fmt.{WritesInCalls}
use Rattle.std.specs.List.{flat_map}
use Rattle.std.specs.Simd.{first_chunks}
use Rattle.uefi_device_nodes.specs.Rows.{as_item, item_text}
use Rattle.uefi_device_nodes.proofs.node_table.printing.put_list.Given as goal

abbrev pub invariant-items : goal.invariant-items
invariant-items g l = record {
  text : WritesInCalls g.S.TextSink.puts l.fn.sink (flat_map (item_text (as_item l.item)) (first_chunks l.item.size l.counter l.bytes)) l.sink;
  left : l.rest ≡ drop (l.counter * l.item.size) l.bytes;
}
