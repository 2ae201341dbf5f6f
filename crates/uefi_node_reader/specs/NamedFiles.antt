-- Nodes of files, whose texts are their names, and all nodes that are read.
use Rattle.std.specs.Prelude.{◌≡◌, ℕ, ◌-◌, Bool, true, false, nat_le, not, ◌==◌, ◌&&◌, ◌||◌, ◌⊎◌, if◌then◌else◌, List, [], ◌∷◌, length, take, drop, Option}
use Rattle.std.specs.Char.{is_ascii_whitespace}
use Rattle.std.specs.Char.Escape.{encode_utf16}
use Rattle.std.specs.List.{flat_map, list_all, position_or_len, suffix_len}
use Rattle.std.specs.Str.{all_scalars, chars, is_utf8}
use Rattle.uefi_text.specs.UnitBytes.{unit_bytes}
use Rattle.uefi_text.specs.Units.{nul_terminated}
use Rattle.uefi_device_nodes.specs.FieldTexts.{is_escaped}
use Rattle.uefi_device_nodes.specs.declared.node_table.layouts.TheConstants.{MEDIA_TYPE}
use Rattle.uefi_device_nodes.specs.declared.node_table.layouts.media.file_path.TheConstants as file_path
use Rattle.uefi_device_nodes.specs.Nodes.{Node, node_with}
use Rattle.uefi_device_nodes.specs.Table.{forms}
use Rattle.uefi_node_reader.specs.FieldReading.{either_read, read_if}
use Rattle.uefi_node_reader.specs.TableReading.{IsTabled, table_read}
use Rattle.uefi_node_reader.specs.PlainNodes.{IsPlainNode, plain_read}

-- whether a byte ends a name: a slash or a comma
abbrev pub ends_name : ℕ → Bool
ends_name byte = (byte == 47) || (byte == 44)

-- whether a character may be in a name: texts do not escape it, and it does not end the name
abbrev pub is_name_char : ℕ → Bool
is_name_char c = not (is_escaped c) && not (ends_name c)

-- whether characters begin with a backslash
abbrev pub begins_name : List ℕ → Bool
begins_name [] = false
begins_name (c ∷ cs) = c == 92

-- the data of a file's node: the name in UTF-16, and a NUL
abbrev pub name_data : List ℕ → List ℕ
name_data name = unit_bytes (nul_terminated (flat_map encode_utf16 name))

-- whether characters are the name of a file's node
abbrev pub is_name : List ℕ → Bool
is_name name = begins_name name && (list_all is_name_char name && nat_le (length (name_data name)) 0xfffb)

-- a node whose data is a name and a NUL
pub record IsNamedNode (node : Node) : Type 0 where
  pub name : List ℕ
  pub scalars : all_scalars name ≡ true
  pub is_name : is_name name ≡ true
  pub is : node ≡ node_with MEDIA_TYPE file_path.SUB_TYPE (name_data name)

-- the bytes of a text before the first byte that ends a name
abbrev pub name_bytes : List ℕ → List ℕ
name_bytes text = take (position_or_len ends_name text) text

-- the node of the name at the start of a text, and the rest of the text
abbrev pub name_read : List ℕ → Option (Node × List ℕ)
name_read text = read_if (is_utf8 (name_bytes text) && is_name (chars (name_bytes text)))
    (node_with MEDIA_TYPE file_path.SUB_TYPE (name_data (chars (name_bytes text))))
    (drop (position_or_len ends_name text) text)

-- a node that its text describes completely
abbrev pub IsTold : Node → Type 0
IsTold node = IsTabled forms node ⊎ (IsPlainNode node ⊎ IsNamedNode node)

-- the node at the start of a text, and the rest of the text
unfoldable pub node_read : List ℕ → Option (Node × List ℕ)
node_read text = either_read (table_read forms text) (either_read (plain_read text) (name_read text))

-- whether a text may follow a node: no byte, or a slash or a comma first
abbrev pub is_after_node : List ℕ → Bool
is_after_node [] = true
is_after_node (byte ∷ bytes) = ends_name byte

-- a text without the blanks and line ends at its start
abbrev pub past_spaces : List ℕ → List ℕ
past_spaces [] = []
past_spaces (byte ∷ bytes) = if is_ascii_whitespace byte then past_spaces bytes else byte ∷ bytes

-- a text without the blanks and line ends at its end
abbrev pub before_spaces : List ℕ → List ℕ
before_spaces text = take (length text - suffix_len is_ascii_whitespace text) text
