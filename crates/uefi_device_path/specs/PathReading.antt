-- Which nodes are read from the text of a path, and where a text stops being that of such nodes.
use Rattle.std.specs.Prelude.{◌≡◌, ℕ, Bool, true, false, ◌==◌, ◌⊎◌, if◌then◌else◌, List, [], ◌∷◌, ◌++◌, length, codes, All, Option, Some, None}
use Rattle.std.specs.List.{last_or}
use Rattle.uefi_device_nodes.specs.Nodes.{Node, is_end_instance, node_with}
use Rattle.uefi_device_nodes.specs.NodeTexts.{node_text}
use Rattle.uefi_device_path.specs.PathTexts.{nodes_text}
use Rattle.uefi_node_reader.specs.NamedFiles.{IsTold, is_after_node}

-- the node that ends an instance
abbrev pub end_instance : Node
end_instance = node_with 0x7f 0x01 []

-- nodes whose texts determine all of their bytes, and nodes that end an instance
abbrev pub AreTold : List Node → Type 0
AreTold nodes = All (λ node. IsTold node ⊎ (node ≡ end_instance)) nodes

-- a text begins with this node, whose text holds all that it holds, before a slash, a comma or the end
pub record BeginsWithNode (text : List ℕ) (node : Node) (after : List ℕ) : Type 0 where
  pub told : IsTold node
  pub splits : text ≡ node_text false false node ++ after
  pub ends : is_after_node after ≡ true

-- a text begins with no such node
abbrev pub NoneBegins : List ℕ → Type 0
NoneBegins text = (node : Node) (after : List ℕ) → BeginsWithNode text node after → ⊥

-- the test for the place after a node, or after none: an instance begins there
abbrev pub starts_instance : Option Node → Bool
starts_instance None = true
starts_instance (Some node) = is_end_instance node

-- the text of nodes up to where one more node begins: a slash stands between two nodes of an instance
abbrev pub text_before : List Node → List ℕ
text_before nodes =
    nodes_text false false nodes ++ (if starts_instance (last_or None nodes) then [] else codes "/")

-- the test for bytes that may stand after an instance: none, or a comma first
abbrev pub is_after_instance : List ℕ → Bool
is_after_instance [] = true
is_after_instance (byte ∷ bytes) = byte == 44

-- a text is that of nodes up to this place, where one more node has to begin, and none does; an instance may
-- be empty, so where one begins, no node has to if a comma or the end stands there
pub record Stops (text : List ℕ) (place : ℕ) (nodes : List Node) (rest : List ℕ) : Type 0 where
  pub told : AreTold nodes
  pub begins : text ≡ text_before nodes ++ rest
  pub none : NoneBegins rest
  pub not_empty : starts_instance (last_or None nodes) ≡ true → is_after_instance rest ≡ false
  pub offset : place ≡ length (text_before nodes)

-- the place where a text stops being the text of nodes whose bytes it determines
abbrev pub StopsAt : List ℕ → ℕ → Type 0
StopsAt text place = (nodes : List Node) × (rest : List ℕ) × Stops text place nodes rest
