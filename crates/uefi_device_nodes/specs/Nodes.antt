-- Device path nodes and their bytes (UEFI Specification 2.10, section 10.3.1).
use Rattle.std.specs.Prelude.{◌≡◌, ◌≢◌, ℕ, ◌+◌, ◌*◌, ◌/◌, ◌%◌, Bool, ◌==◌, ◌&&◌, List, [], ◌∷◌, length, take, drop, slice_index}

-- a node: its type, its sub-type and its data
pub record Node : Type 0 where
  pub device_type : ℕ
  pub sub_type : ℕ
  pub content : List ℕ

-- the node of a type, a sub-type and data
abbrev pub node_with : ℕ → ℕ → List ℕ → Node
node_with device_type sub_type content =
    record { device_type = device_type; sub_type = sub_type; content = content }

-- the number of bytes of a node: four for its header, and its data
abbrev pub node_length : Node → ℕ
node_length node = length node.content + 4

-- the bytes of a node: its type, its sub-type, its length with the low byte first, and its data
abbrev pub node_bytes : Node → List ℕ
node_bytes node =
    node.device_type ∷ node.sub_type ∷ node_length node % 256 ∷ node_length node / 256 ∷ node.content

-- a node is sound: if its type is End, it has no data, and its sub-type ends an instance or the path
abbrev pub IsSound : Node → Type 0
IsSound node = node.device_type ≡ 0x7f → (node.content ≡ []) × (node.sub_type ≢ 0x01 → node.sub_type ≡ 0xff)

-- the node that ends a device path
abbrev pub end_entire : Node
end_entire = record { device_type = 0x7f; sub_type = 0xff; content = [] }

-- a sound node that does not end the path
pub record IsInner (node : Node) : Type 0 where
  pub sound : IsSound node
  pub not_end : node ≢ end_entire

-- the length that the header at the start of bytes states
abbrev pub stated_length : List ℕ → ℕ
stated_length bytes = slice_index bytes 2 + 256 * slice_index bytes 3

-- the node at the start of bytes, if a node begins there
abbrev pub first_node : List ℕ → Node
first_node bytes = record {
  device_type = slice_index bytes 0;
  sub_type = slice_index bytes 1;
  content = drop 4 (take (stated_length bytes) bytes);
}

-- whether a node ends an instance
abbrev pub is_end_instance : Node → Bool
is_end_instance node = (node.device_type == 0x7f) && (node.sub_type == 0x01)
