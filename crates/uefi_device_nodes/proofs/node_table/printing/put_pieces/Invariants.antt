use Rattle.std.proofs.Common.{take, map}
use Rattle.std.specs.Fmt.{WritesInCalls}
use Rattle.uefi_device_nodes.specs.Rows.{as_piece, pieces_text}
use Rattle.uefi_device_nodes.proofs.node_table.printing.put_pieces.Given as goal

abbrev pub invariant-loop-piece : goal.invariant-loop-piece
invariant-loop-piece g l = WritesInCalls g.S.TextSink.puts l.fn.sink (pieces_text (map as_piece (take l.piece-index l.pieces)) l.content) l.sink
