-- Nodes of any type.
use Rattle.uefi_device_nodes.specs.Nodes.{Node, node_with}
use Rattle.uefi_device_nodes.specs.declared.build_node.RawNode.{RawNode}

-- the node of a type, a sub-type and data
abbrev pub raw_node : RawNode → Node
raw_node n = node_with n.device_type.0 n.sub_type.0 n.content.now
