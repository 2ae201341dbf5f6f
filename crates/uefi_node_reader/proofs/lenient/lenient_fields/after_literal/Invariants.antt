use Rattle.std.proofs.Common.{◌≡◌, length}
use Rattle.uefi_node_reader.specs.LenientFields.{after_literal, literal_left}
use Rattle.uefi_node_reader.proofs.lenient.lenient_fields.after_literal.Given as goal

abbrev pub invariant-letters : goal.invariant-letters
invariant-letters g l = literal_left l.left l.at_x (g.T.Text.bytes l.rest) ≡ after_literal l.literal (g.T.Text.bytes l.fn.text)

abbrev pub decreases-letters : goal.decreases-letters
decreases-letters g l = length l.left
