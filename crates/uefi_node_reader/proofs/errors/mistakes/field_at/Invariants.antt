use Rattle.std.proofs.Common.{◌≡◌, drop, filter, length, take}
use Rattle.std.specs.Prelude.{◌==◌}
use Rattle.uefi_node_reader.proofs.errors.mistakes.field_at.Given as goal

abbrev pub invariant-bytes : goal.invariant-bytes
invariant-bytes g l =
    (g.T.Text.bytes l.rest ≡ drop l.counter (g.T.Text.bytes l.fn.call))
    × (l.field ≡ length (filter (λ c. c == 44) (take l.counter (g.T.Text.bytes l.fn.call))))
