-- What contracts see of a node that was read.
use Rattle.std.specs.Prelude.{ℕ, List}
use Rattle.uefi_device_nodes.specs.Nodes.{Node, node_with}

-- a node that was read, and how many of its bytes are fixed
pub record TextNode : Type 0 where
  pub device_type : ℕ
  pub sub_type : ℕ
  pub fixed : ℕ
  pub content : List ℕ

-- the data of a node that was read
abbrev pub text_node_data : TextNode → List ℕ
text_node_data node = node.content

-- the node that was read
unfoldable pub parsed_node : TextNode → Node
parsed_node node = node_with node.device_type node.sub_type node.content
