-- What is printed of nodes, in UTF-8 (UEFI Specification 2.10, section 10.6.1). The table of kinds describes
-- most texts; the definitions here make the others.
use Rattle.std.specs.Prelude.{ℕ, ◌%◌, ◌==◌, ◌&&◌, ◌||◌, not, Bool, if◌then◌else◌, List, [], ◌∷◌, codes, length}
use Rattle.std.specs.Fmt.{decimal}
use Rattle.std.specs.List.{concat}
use Rattle.uefi_device_nodes.specs.FieldTexts.{comma_bytes, eisa_text, has_uid_alone, shown_bytes, uid_string, utf16_text, vendor_name}
use Rattle.uefi_device_nodes.specs.Table.{has_form, table_text}
use Rattle.uefi_device_nodes.specs.declared.node_table.layouts.TheConstants.{ACPI_TYPE, MESSAGING_TYPE}
use Rattle.uefi_device_nodes.specs.declared.node_table.layouts.acpi.expanded.TheConstants as expanded
use Rattle.uefi_device_nodes.specs.declared.node_table.layouts.messaging.messaging_vendor.TheConstants as messaging_vendor
use Rattle.uefi_device_nodes.specs.Nodes.{Node}
use Rattle.uefi_device_nodes.specs.FileNodes.{is_file}
use Rattle.uefi_device_nodes.specs.TypedNodes.{bytes_from, is_kind, number_at, number_in}

-- the shorter text of a device that ACPI names only by the string of its _UID
abbrev pub expanded_text : List ℕ → List ℕ
expanded_text content = concat (codes "AcpiExp(" ∷ eisa_text (number_in expanded.HID content)
    ∷ codes "," ∷ eisa_text (number_in expanded.CID content)
    ∷ codes "," ∷ shown_bytes (uid_string (bytes_from expanded.ID_STRINGS content)) ∷ codes ")" ∷ [])

-- whether a node has that text, if short texts are allowed
abbrev pub has_uid_text : Bool → Node → Bool
has_uid_text shortcuts node = shortcuts && (is_kind ACPI_TYPE expanded.SUB_TYPE expanded.LEAST node
    && has_uid_alone (bytes_from expanded.ID_STRINGS node.content))

-- the short name of a vendor-defined messaging node without data, or an empty text
abbrev pub short_name : Node → List ℕ
short_name node = if (node.device_type == MESSAGING_TYPE)
    && ((node.sub_type == messaging_vendor.SUB_TYPE) && (length node.content == messaging_vendor.LEAST))
    then vendor_name (number_at 0 8 node.content) (number_at 8 8 node.content) else []

-- the text of a node of no known kind: its type, its sub-type and its data
unfoldable pub unknown_text : Node → List ℕ
unknown_text node = concat (codes "Path(" ∷ decimal node.device_type ∷ codes "," ∷ decimal node.sub_type
    ∷ comma_bytes node.content ∷ codes ")" ∷ [])

-- whether a node names a file
abbrev pub is_file_node : Node → Bool
is_file_node node = is_file node && (length node.content % 2 == 0)

-- whether a node has a short name, if short names are allowed
abbrev pub is_short : Bool → Node → Bool
is_short shortcuts node = shortcuts && not (length (short_name node) == 0)

-- whether no row of the table can describe the text of a node
abbrev pub is_irregular : Bool → Node → Bool
is_irregular shortcuts node = is_file_node node || (has_uid_text shortcuts node || is_short shortcuts node)

-- the text of a node that no row can describe; the text of a file is its name
unfoldable pub irregular_text : Bool → Bool → Node → List ℕ
irregular_text display_only shortcuts node = if is_file_node node then utf16_text node.content
    else if has_uid_text shortcuts node then expanded_text node.content
    else short_name node

-- the text of a node: in the form that is only for people if `display_only`, and with short names if
-- `shortcuts`
unfoldable pub node_text : Bool → Bool → Node → List ℕ
node_text display_only shortcuts node = if is_irregular shortcuts node
    then irregular_text display_only shortcuts node
    else if has_form display_only node.device_type node.sub_type node.content
    then table_text display_only node.device_type node.sub_type node.content
    else unknown_text node
