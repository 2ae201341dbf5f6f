use Rattle.std.proofs.Common.{◌≡◌, drop, map}
use Rattle.uefi_device_nodes.specs.Rows.{as_piece}
use Rattle.uefi_node_reader.specs.Notations.{pieces_in}
use Rattle.uefi_node_reader.proofs.exact.form_fields.read_pieces.Given as goal

abbrev pub invariant-loop-piece : goal.invariant-loop-piece
invariant-loop-piece g l =
    pieces_in g.S.Notation.rules (map as_piece (drop l.piece-index l.pieces)) l.content (g.T.Text.bytes l.rest)
    ≡ pieces_in g.S.Notation.rules (map as_piece l.pieces) l.initial.content (g.T.Text.bytes l.fn.text)
