use Rattle.std.proofs.Common.{map, ◌∙◌}
use Rattle.uefi_device_nodes.specs.Rows.{as_piece}
use Rattle.uefi_node_reader.proofs.Literals.{read_ok}
use Rattle.uefi_node_reader.proofs.PieceReads.{pieces_exact}
use Rattle.uefi_node_reader.proofs.exact.form_fields.exact_pieces.Goals as goal

pub returns : goal.returns
returns g c =
    rw c.ok.ensures.value (read_ok (λ x. (c.read_pieces.new.content, g.T.Text.bytes x)) c.read_pieces.result _ c.read_pieces.ensures
    ∙ pieces_exact (map as_piece c.args.pieces.now) c.args.content.now (g.T.Text.bytes c.args.text))
