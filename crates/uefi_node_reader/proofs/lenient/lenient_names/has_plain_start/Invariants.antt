use Rattle.std.proofs.Common.{◌≡◌, length}
use Rattle.uefi_node_reader.specs.LenientNodes.{has_plain_start}
use Rattle.uefi_node_reader.proofs.lenient.lenient_names.has_plain_start.Given as goal

abbrev pub invariant-bytes : goal.invariant-bytes
invariant-bytes g l = has_plain_start (g.T.Text.bytes l.rest) ≡ has_plain_start (g.T.Text.bytes l.fn.name)

abbrev pub decreases-bytes : goal.decreases-bytes
decreases-bytes g l = length (g.T.Text.bytes l.rest)
