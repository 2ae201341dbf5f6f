use Rattle.std.proofs.Common.{refl}
use Rattle.uefi_node_steps.specs.NodeForms.{group_forms}
use Rattle.uefi_node_steps.proofs.laws.nodes_tell.Goals as goal

-- by computation
pub returns : goal.returns
unfolding group_forms
returns c = (refl, refl)
