use Rattle.std.proofs.Common.{◌≡◌, length}
use Rattle.uefi_node_reader.specs.Ambiguous.{left_after}
use Rattle.uefi_node_reader.proofs.lenient.ambiguous.left_after.Given as goal

abbrev pub invariant-bytes : goal.invariant-bytes
invariant-bytes g l = left_after l.fn.mark (g.T.Text.bytes l.rest) ≡ left_after l.fn.mark (g.T.Text.bytes l.fn.text)

abbrev pub decreases-bytes : goal.decreases-bytes
decreases-bytes g l = length (g.T.Text.bytes l.rest)
