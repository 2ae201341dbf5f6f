use Rattle.uefi_device_nodes.specs.Rows.{as_piece, is_within}
use Rattle.std.proofs.Common.{length}
use Rattle.uefi_device_nodes.proofs.Lists.{all_at}
use Rattle.uefi_node_reader.proofs.lenient.complete_texts.put_all_kept.Goals as goal

pub put_kept-requires-clause-within : goal.put_kept-requires-clause-within
put_kept-requires-clause-within c =
    all_at as_piece (is_within (length c.args.fixed.now)) c.args.pieces.now c.loop-piece.piece-index _ c.loop-piece-test.true c.requires.within
