use Rattle.uefi_device_nodes.specs.Rows.{as_piece}
use Rattle.uefi_node_reader.proofs.PieceReads.{read_in_place}
use Rattle.uefi_node_reader.proofs.exact.form_fields.read_piece.Goals as goal

pub returns : goal.returns
returns g c = read_in_place g.T.Text.bytes g.S.Notation.rules (as_piece c.args.piece.now) c.args.content.now c.value.new.found
    _ c.value.result c.in_ok-rest.rest c.ending.result c.as_bytes.result.now
    c.value.ensures c.in_ok-rest.was c.as_bytes.ensures.value c.ending.ensures
