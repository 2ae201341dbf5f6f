use Rattle.std.proofs.Common.{◌≡◌, ◌++◌, List, length}
use Rattle.uefi_device_nodes.specs.Nodes.{Node}
use Rattle.uefi_device_path.specs.Views.{nodes_of}
use Rattle.uefi_device_path.proofs.ShortForms.{NotBefore}
use Rattle.uefi_device_path.proofs.device_path.DevicePath.is_expansion_of.Given as goal

-- some nodes were passed, at none of which the others of the short form stand
abbrev pub invariant-nodes : goal.invariant-nodes
invariant-nodes l = (passed : List Node) × (nodes_of l.self ≡ passed ++ nodes_of l.rest)
    × NotBefore (nodes_of l.self) (nodes_of l.fn.short) passed

abbrev pub decreases-nodes : goal.decreases-nodes
decreases-nodes l = length (nodes_of l.rest)
