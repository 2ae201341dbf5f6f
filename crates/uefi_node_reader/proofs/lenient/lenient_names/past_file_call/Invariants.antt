use Rattle.std.proofs.Common.{◌≡◌, length}
use Rattle.uefi_node_reader.specs.LenientNodes.{past_file_call}
use Rattle.uefi_node_reader.proofs.lenient.lenient_names.past_file_call.Given as goal

abbrev pub invariant-bytes : goal.invariant-bytes
invariant-bytes g l = past_file_call (g.T.Text.bytes l.rest) ≡ past_file_call (g.T.Text.bytes l.fn.text)

abbrev pub decreases-bytes : goal.decreases-bytes
decreases-bytes g l = length (g.T.Text.bytes l.rest)
