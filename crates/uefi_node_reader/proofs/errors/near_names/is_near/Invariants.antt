use Rattle.std.proofs.Common.{◌≡◌, length}
use Rattle.uefi_node_reader.specs.NearNames.{is_near}
use Rattle.uefi_node_reader.proofs.errors.near_names.is_near.Given as goal

abbrev pub invariant-letters : goal.invariant-letters
invariant-letters g l = is_near l.left (g.T.Text.bytes l.rest) ≡ is_near l.start (g.T.Text.bytes l.fn.text)

abbrev pub decreases-letters : goal.decreases-letters
decreases-letters g l = length l.left
