use Rattle.std.proofs.Common.{length}
use Rattle.uefi_device_nodes.specs.Rows.{as_piece, is_within, piece_text}
use Rattle.uefi_device_nodes.proofs.Lists.{all_at, text_more}
use Rattle.uefi_text.proofs.Puts.{puts_two}
use Rattle.uefi_device_nodes.proofs.node_table.printing.put_pieces.Goals as goal

pub put_piece-requires : goal.put_piece-requires
put_piece-requires g c = all_at as_piece (is_within (length c.args.content.now)) c.args.pieces.now c.loop-piece.piece-index _ c.loop-piece-test.true c.requires

pub loop-piece-preserved : goal.loop-piece-preserved
loop-piece-preserved g c = puts_two _ _ _ _ _ _ _ c.loop-piece.invariant c.put_piece.ensures
    (text_more as_piece (piece_text c.args.content.now) c.args.pieces.now c.loop-piece.piece-index _ c.loop-piece-test.true)
