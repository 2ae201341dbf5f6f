use Rattle.std.proofs.Common.{◌≡◌, ◌*◌, drop, map}
use Rattle.std.specs.Fmt.{WritesInCalls}
use Rattle.std.specs.Simd.{first_chunks}
use Rattle.uefi_node_steps.specs.Printing.{items_text, step_by}
use Rattle.uefi_node_steps.proofs.printing.put_list.Given as goal

abbrev pub invariant-items : goal.invariant-items
invariant-items g l = record {
  text : WritesInCalls g.S.TextSink.puts l.fn.sink (items_text (map (step_by (λ t. t.now)) l.item.steps.now) (first_chunks l.item.size l.counter l.bytes)) l.sink;
  left : l.rest ≡ drop (l.counter * l.item.size) l.bytes;
}
