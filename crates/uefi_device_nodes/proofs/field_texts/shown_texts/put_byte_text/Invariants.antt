use Rattle.std.proofs.Common.{◌≡◌, List, ℕ, ◌++◌, length}
use Rattle.std.specs.Fmt.{WritesInCalls}
use Rattle.uefi_device_nodes.specs.FieldTexts.{shown_bytes}
use Rattle.uefi_device_nodes.proofs.field_texts.shown_texts.put_byte_text.Given as goal

-- the bytes before the rest were put
abbrev pub invariant-rest : goal.invariant-rest
invariant-rest g l = (before : List ℕ) × (before ++ l.rest ≡ l.bytes)
    × WritesInCalls g.S.TextSink.puts l.fn.sink (l.text ++ shown_bytes before) l.sink

abbrev pub decreases-rest : goal.decreases-rest
decreases-rest g l = length l.rest
