-- Nodes of no known kind, whose texts contain all their data.
use Rattle.std.specs.Prelude.{◌≡◌, ℕ, ◌<◌, Bool, true, false, nat_le, not, ◌==◌, ◌&&◌, ◌||◌, List, codes, length, All, Option}
use Rattle.uefi_text.specs.Packed.{IsByte}
use Rattle.uefi_device_nodes.specs.Table.{has_form}
use Rattle.uefi_device_nodes.specs.NodeTexts.{is_irregular}
use Rattle.uefi_device_nodes.specs.Nodes.{Node, node_with}
use Rattle.uefi_node_reader.specs.FieldReading.{◌>>=◌, comma_read, read_if}
use Rattle.uefi_node_reader.specs.WordReading.{after}
use Rattle.uefi_node_reader.specs.Numerals.{number_read}

-- whether a node is printed in a form of its own
abbrev pub is_formed : Node → Bool
is_formed node = is_irregular false node || has_form false node.device_type node.sub_type node.content

-- whether a node has no form of its own, fits into a path, and does not end an instance or the path
abbrev pub is_plain : Node → Bool
is_plain node = not (node.device_type == 0x7f)
    && (not (is_formed node) && nat_le (length node.content) 0xfffb)

-- a node that is printed with all its data, whatever the data is
pub record IsPlainNode (node : Node) : Type 0 where
  pub device_type : node.device_type < 256
  pub sub_type : node.sub_type < 256
  pub content : All IsByte node.content
  pub plain : is_plain node ≡ true

-- the node of a type and a sub-type, from its data on in a text, and the rest of the text
abbrev pub plain_rest : ℕ → ℕ → List ℕ → Option (Node × List ℕ)
plain_rest kind sub_kind text = do
  content ← comma_read text
  rest ← after (codes ")") content.1
  read_if (is_plain (node_with kind sub_kind content.0)) (node_with kind sub_kind content.0) rest

-- the node of no known kind, from its type on in a text, and the rest of the text
abbrev pub types_read : List ℕ → Option (Node × List ℕ)
types_read text = do
  kind ← number_read 10 256 text
  u ← after (codes ",") kind.1
  sub_kind ← number_read 10 256 u
  plain_rest kind.0 sub_kind.0 sub_kind.1

-- the node of no known kind at the start of a text, and the rest of the text
abbrev pub plain_read : List ℕ → Option (Node × List ℕ)
plain_read text = after (codes "Path(") text >>= types_read
