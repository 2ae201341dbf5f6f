use Rattle.std.proofs.Common.{◌≡◌, length}
use Rattle.uefi_node_reader.specs.WordReading.{after}
use Rattle.uefi_node_reader.proofs.exact.fields.after.Given as goal

abbrev pub invariant-bytes : goal.invariant-bytes
invariant-bytes g l = after l.left (g.T.Text.bytes l.rest) ≡ after l.fn.literal (g.T.Text.bytes l.fn.text)

abbrev pub decreases-bytes : goal.decreases-bytes
decreases-bytes g l = length l.left
