-- Laws of nodes that are read.
use Rattle.std.specs.Prelude.{◌≡◌, ℕ, true, false, List, ◌++◌, ◌≤◌, ◌==◌, length, Some}
use Rattle.uefi_device_nodes.specs.Nodes.{Node}
use Rattle.uefi_device_nodes.specs.NodeTexts.{node_text}
use Rattle.uefi_node_reader.specs.NamedFiles.{is_after_node, IsTold, node_read}

-- a node that is read is told, and is printed as the text that was read
abbrev pub NodeTakes : Type 0
NodeTakes = (text : List ℕ) (node : Node) (rest : List ℕ) → node_read text ≡ Some (node, rest)
    → IsTold node × (text ≡ node_text false false node ++ rest)

-- the text of a told node is read as that node
abbrev pub NodeAgain : Type 0
NodeAgain = (node : Node) → IsTold node → (rest : List ℕ) → is_after_node rest ≡ true
    → node_read (node_text false false node ++ rest) ≡ Some (node, rest)

-- the text of a told node is not empty, and begins with no byte that may follow a node
abbrev pub NodeStarts : Type 0
NodeStarts = (node : Node) → IsTold node → (rest : List ℕ)
    → is_after_node (node_text false false node ++ rest) ≡ false

-- a told node ends nothing, and is no longer than a node may be
abbrev pub NodeFits : Type 0
NodeFits = (node : Node) → IsTold node → ((node.device_type == 0x7f) ≡ false) × (length node.content ≤ 0xfffb)

-- a text begins with at most one told node
abbrev pub NodeTextOnce : Type 0
NodeTextOnce = (first second : Node) (after_first after_second : List ℕ) → IsTold first → IsTold second
    → is_after_node after_first ≡ true → is_after_node after_second ≡ true
    → node_text false false first ++ after_first ≡ node_text false false second ++ after_second
    → (first ≡ second) × (after_first ≡ after_second)
