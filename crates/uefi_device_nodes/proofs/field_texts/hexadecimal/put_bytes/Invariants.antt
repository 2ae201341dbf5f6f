use Rattle.std.proofs.Common.{◌≡◌, List, ℕ, ◌++◌, length}
use Rattle.std.specs.Fmt.{WritesInCalls}
use Rattle.uefi_device_nodes.specs.FieldTexts.{hex_bytes}
use Rattle.uefi_device_nodes.proofs.field_texts.hexadecimal.put_bytes.Given as goal

-- the bytes before the rest were put
abbrev pub invariant-loop-rest : goal.invariant-loop-rest
invariant-loop-rest g l = (before : List ℕ) × (before ++ l.rest ≡ l.bytes)
    × WritesInCalls g.S.TextSink.puts l.fn.sink (l.text ++ hex_bytes before) l.sink

abbrev pub decreases-loop-rest : goal.decreases-loop-rest
decreases-loop-rest g l = length l.rest
