use Rattle.std.proofs.Common.{◌≡◌, ◌+◌, drop}
use Rattle.uefi_node_reader.specs.LenientCalls.{place_at}
use Rattle.uefi_node_reader.proofs.lenient.tidied.place_at.Given as goal

abbrev pub invariant-loop-place : goal.invariant-loop-place
invariant-loop-place g l =
    (g.T.Text.bytes l.rest ≡ drop l.place (g.T.Text.bytes l.fn.text))
    × (l.place + place_at l.left (g.T.Text.bytes l.rest) ≡ place_at l.fn.count (g.T.Text.bytes l.fn.text))
