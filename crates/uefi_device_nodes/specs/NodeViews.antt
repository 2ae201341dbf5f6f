-- What contracts see of borrowed nodes. Other crates use only these words, and no field.
use Rattle.std.specs.Prelude.{ℕ, List}
use Rattle.uefi_device_nodes.specs.Nodes.{Node, first_node}
use Rattle.uefi_device_nodes.specs.NodeTexts.{node_text}
use Rattle.uefi_device_nodes.specs.declared.node.DevicePathNode.{DevicePathNode}
use Rattle.uefi_device_nodes.specs.declared.node_text.NodeText.{NodeText}
use Rattle.uefi_device_nodes.specs.declared.typed_node.TypedNode.{TypedNode}
use Rattle.uefi_device_nodes.specs.declared.media.FilePath.{FilePath}

-- the node that a view shows
unfoldable pub node_of : DevicePathNode → Node
node_of node = first_node node.bytes.now

-- the text of a node, in the requested form
unfoldable pub printed_node : NodeText → List ℕ
printed_node text = node_text text.display_only text.allow_shortcuts (node_of text.node)

-- the node of a file
unfoldable pub file_node : FilePath → Node
file_node path = node_of path.node

module _ {kind sub_kind least : ℕ} where
  -- the data of a node of a kind
  unfoldable pub data_of : TypedNode kind sub_kind least → List ℕ
  data_of node = node.data.now
