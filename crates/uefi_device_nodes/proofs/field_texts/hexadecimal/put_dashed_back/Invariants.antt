use Rattle.std.proofs.Common.{codes, reverse, take}
use Rattle.std.specs.Fmt.{WritesInCalls}
use Rattle.std.specs.List.{join_by}
use Rattle.uefi_device_nodes.specs.FieldTexts.{hex_two}
use Rattle.uefi_device_nodes.proofs.field_texts.hexadecimal.put_dashed_back.Given as goal

-- the last bytes were put, as many as were seen
abbrev pub invariant-loop-place : goal.invariant-loop-place
invariant-loop-place g l = WritesInCalls g.S.TextSink.puts l.fn.sink (join_by hex_two (codes "-") (take l.place (reverse l.bytes))) l.sink
