use Rattle.uefi_node_reader.proofs.NodeLaws.{node_again, node_fits, node_starts, node_takes}
use Rattle.uefi_node_reader.proofs.node_texts.nodes_are_read.Goals as goal

pub returns : goal.returns
returns c = record { takes = node_takes; again = node_again; starts = node_starts; fits = node_fits }
