-- The texts of nodes contain no character that texts escape.
use Rattle.std.specs.Prelude.{Bool, All}
use Rattle.uefi_text.specs.Packed.{IsByte}
use Rattle.uefi_device_nodes.specs.ShownFields.{IsShown}
use Rattle.uefi_device_nodes.specs.Nodes.{Node}
use Rattle.uefi_device_nodes.specs.NodeTexts.{node_text}

-- no text of a node contains a character that texts escape
abbrev pub NodesShown : Type 0
NodesShown = (display_only shortcuts : Bool) (node : Node) → All IsByte node.content
    → IsShown (node_text display_only shortcuts node)
