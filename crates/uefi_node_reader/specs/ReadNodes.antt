-- Nodes that were read in any style.
use Rattle.uefi_device_nodes.specs.Nodes.{Node}
use Rattle.uefi_node_reader.specs.FileNodes.{node_of_file}
use Rattle.uefi_node_reader.specs.ParsedNodeViews.{parsed_node}
use Rattle.uefi_node_reader.specs.declared.read_node.ReadNode.{ReadNode}
use Rattle.uefi_node_reader.specs.declared.read_node.ReadNode.TheVariants.{Exact, Tidied, File}

-- the node that was read
abbrev pub node_from_text : {T : Type 0} → ReadNode T → Node
node_from_text (Exact node) = parsed_node node
node_from_text (Tidied node) = parsed_node node
node_from_text (File content) = node_of_file content
