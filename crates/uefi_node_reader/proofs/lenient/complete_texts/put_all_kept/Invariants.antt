use Rattle.std.proofs.Common.{◌≡◌, drop, map}
use Rattle.uefi_device_nodes.specs.Rows.{as_piece}
use Rattle.uefi_node_reader.specs.TableReading.{overlay}
use Rattle.uefi_node_reader.proofs.lenient.complete_texts.put_all_kept.Given as goal

abbrev pub invariant-loop-piece : goal.invariant-loop-piece
invariant-loop-piece l =
    overlay (map as_piece (drop l.piece-index l.pieces)) l.fixed l.content ≡ overlay (map as_piece l.pieces) l.fixed l.initial.content
