use Rattle.std.proofs.Common.{length}
use Rattle.uefi_device_nodes.specs.Rows.{as_piece, is_within}
use Rattle.uefi_device_nodes.proofs.Lists.{all_at_same}
use Rattle.uefi_node_reader.proofs.exact.form_fields.read_pieces.Goals as goal

pub read_piece-requires : goal.read_piece-requires
read_piece-requires g c =
    all_at_same as_piece is_within (length c.args.content.now) (length c.loop-piece.content) c.loop-piece.auto.content
    c.args.pieces.now c.loop-piece.piece-index _ c.loop-piece-test.true c.requires
