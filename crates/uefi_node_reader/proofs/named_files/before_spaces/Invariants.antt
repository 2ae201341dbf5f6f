use Rattle.std.proofs.Common.{◌≡◌, drop}
use Rattle.uefi_node_reader.proofs.Spaces.{LastSeen}
use Rattle.uefi_node_reader.proofs.named_files.before_spaces.Given as goal

abbrev pub invariant-loop-place : goal.invariant-loop-place
invariant-loop-place g l =
    (g.T.Text.bytes l.rest ≡ drop l.place (g.T.Text.bytes l.fn.text))
    × LastSeen (g.T.Text.bytes l.fn.text) l.place l.end
