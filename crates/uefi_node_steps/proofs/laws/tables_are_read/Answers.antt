use Rattle.uefi_node_steps.proofs.NodeLaws.{reads_nodes}
use Rattle.uefi_node_steps.proofs.laws.tables_are_read.Goals as goal

pub returns : goal.returns
returns c = reads_nodes
