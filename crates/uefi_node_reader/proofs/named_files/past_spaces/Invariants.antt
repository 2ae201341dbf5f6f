use Rattle.std.proofs.Common.{◌≡◌, ◌≤◌, length}
use Rattle.uefi_node_reader.specs.NamedFiles.{past_spaces}
use Rattle.uefi_node_reader.proofs.named_files.past_spaces.Given as goal

abbrev pub invariant-bytes : goal.invariant-bytes
invariant-bytes g l =
    (past_spaces (g.T.Text.bytes l.rest) ≡ past_spaces (g.T.Text.bytes l.fn.text))
    × (length (g.T.Text.bytes l.rest) ≤ length (g.T.Text.bytes l.fn.text))

abbrev pub decreases-bytes : goal.decreases-bytes
decreases-bytes g l = length (g.T.Text.bytes l.rest)
