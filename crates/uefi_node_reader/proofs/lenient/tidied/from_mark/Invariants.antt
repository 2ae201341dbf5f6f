use Rattle.std.proofs.Common.{◌≡◌, length}
use Rattle.uefi_node_reader.specs.LenientCalls.{from_mark}
use Rattle.uefi_node_reader.proofs.lenient.tidied.from_mark.Given as goal

abbrev pub invariant-bytes : goal.invariant-bytes
invariant-bytes g l = from_mark l.fn.mark (g.T.Text.bytes l.rest) ≡ from_mark l.fn.mark (g.T.Text.bytes l.fn.text)

abbrev pub decreases-bytes : goal.decreases-bytes
decreases-bytes g l = length (g.T.Text.bytes l.rest)
