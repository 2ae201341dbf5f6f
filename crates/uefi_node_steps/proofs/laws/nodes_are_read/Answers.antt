use Rattle.std.proofs.Common.{refl}
use Rattle.uefi_node_steps.specs.NodeForms.{group_forms, node_forms}
use Rattle.uefi_node_steps.proofs.NodeLaws.{reads_nodes}
use Rattle.uefi_node_steps.proofs.laws.nodes_are_read.Goals as goal

-- the forms are sound and differ: computed
pub returns : goal.returns
unfolding group_forms
returns c = reads_nodes node_forms refl refl
