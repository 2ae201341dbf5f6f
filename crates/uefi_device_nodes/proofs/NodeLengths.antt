-- How long the text of a node is: each of its bytes makes room for four.
use Rattle.std.proofs.Common.{◌≡◌, ℕ, ◌+◌, ◌-◌, ◌*◌, ◌<◌, ◌≤◌, ◌==◌, ◌&&◌, nat_le, Bool, true, false, if◌then◌else◌, List, [], ◌++◌, codes, drop, length, length-append, length-drop, length-take, refl, arith}
use Rattle.std.proofs.lemmas.Bool.{and_parts, leb-true}
use Rattle.std.proofs.lemmas.List.Elements.{All-drop, All-take}
use Rattle.std.specs.Prelude.{All, slice_range}
use Rattle.std.specs.Fmt.{decimal}
use Rattle.uefi_text.specs.Packed.{IsByte, little_endian}
use Rattle.uefi_device_nodes.proofs.FieldLengths.{comma_within, decimal_byte, eisa_within, number_within, uid_within, utf16_within, vendor_within}
use Rattle.uefi_device_nodes.specs.FieldTexts.{comma_bytes, eisa_text, has_uid_alone, shown_bytes, uid_string, utf16_text, vendor_name}
use Rattle.uefi_device_nodes.proofs.RowLengths.{table_within}
use Rattle.uefi_device_nodes.specs.Table.{has_form, table_text}
use Rattle.uefi_device_nodes.specs.declared.node_table.layouts.TheConstants.{ACPI_TYPE, MESSAGING_TYPE}
use Rattle.uefi_device_nodes.specs.declared.node_table.layouts.acpi.expanded.TheConstants as expanded
use Rattle.uefi_device_nodes.specs.declared.node_table.layouts.messaging.messaging_vendor.TheConstants as messaging_vendor
use Rattle.uefi_device_nodes.specs.Nodes.{Node}
use Rattle.uefi_device_nodes.specs.NodeTexts.{expanded_text, has_uid_text, irregular_text, is_file_node, is_irregular, node_text, short_name, unknown_text}
use Rattle.uefi_device_nodes.specs.TypedNodes.{bytes_from, is_kind, number_at}

-- the text of an ID in four bytes
id_within : (place : ℕ) (content : List ℕ) → All IsByte content → length (eisa_text (number_at place 4 content)) ≤ 7
id_within place content all =
    let size = place + 4 - place in
    let after = drop place content in
    let bytes : List ℕ = slice_range content place (place + 4) in
    let short : length bytes ≤ 4 = omega (arith, length-take size after) in
    let each : All IsByte bytes = All-take IsByte size after (All-drop IsByte place content all) in
    eisa_within (little_endian bytes) (omega (arith, number_within 4 bytes short each))

expanded_within : (content : List ℕ) → expanded.LEAST ≤ length content → All IsByte content → length (expanded_text content) < 4 * (length content + 4)
expanded_within content long all =
    let hid : List ℕ = eisa_text (number_at 0 4 content) in
    let cid : List ℕ = eisa_text (number_at 8 4 content) in
    let strings : List ℕ = drop 12 content in
    let uid : List ℕ = shown_bytes (uid_string strings) in
    omega (
      arith,
      long,
      id_within 0 content all,
      id_within 8 content all,
      uid_within strings (All-drop IsByte 12 content all),
      length-drop 12 content,
      length-append hid (codes "," ++ (cid ++ (codes "," ++ (uid ++ (codes ")" ++ []))))),
      length-append cid (codes "," ++ (uid ++ (codes ")" ++ []))),
      length-append uid (codes ")" ++ []),
    )

unknown_within : (node : Node) → node.device_type < 256 → node.sub_type < 256 → All IsByte node.content
    → length (unknown_text node) < 4 * (length node.content + 4)
unfolding unknown_text
unknown_within node kind sub_kind all =
    let first = decimal node.device_type in
    let second = decimal node.sub_type in
    let bytes = comma_bytes node.content in
    omega (
      arith,
      decimal_byte node.device_type kind,
      decimal_byte node.sub_type sub_kind,
      comma_within node.content all,
      length-append first (codes "," ++ (second ++ (bytes ++ (codes ")" ++ [])))),
      length-append second (bytes ++ (codes ")" ++ [])),
      length-append bytes (codes ")" ++ []),
    )

short_within : (node : Node) → length (short_name node) ≤ 14
short_within node =
    by ((node.device_type == MESSAGING_TYPE) && ((node.sub_type == messaging_vendor.SUB_TYPE) && (length node.content == messaging_vendor.LEAST)))
  where
    by : (t : Bool) → length (if t then vendor_name (number_at 0 8 node.content) (number_at 8 8 node.content) else []) ≤ 14
    by true = vendor_within (number_at 0 8 node.content) (number_at 8 8 node.content)
    by false = omega arith

pick : (limit : ℕ) (t : Bool) (one other : List ℕ) → (t ≡ true → length one < limit) → length other < limit
    → length (if t then one else other) < limit
pick limit true one other e f = e refl
pick limit false one other e f = f

-- data of which the test for the text by _UID says that they are long enough
uid_long : (shortcuts : Bool) (node : Node) → has_uid_text shortcuts node ≡ true → expanded.LEAST ≤ length node.content
uid_long shortcuts node e =
    let kind = (and_parts (is_kind ACPI_TYPE expanded.SUB_TYPE expanded.LEAST node) (has_uid_alone (bytes_from expanded.ID_STRINGS node.content)) (and_parts shortcuts _ e).1).0 in
    let long = (and_parts (node.sub_type == expanded.SUB_TYPE) (nat_le expanded.LEAST (length node.content)) (and_parts (node.device_type == ACPI_TYPE) _ kind).1).1 in
    leb-true expanded.LEAST (length node.content) long

irregular_within : (display_only shortcuts : Bool) (node : Node) → All IsByte node.content
    → length (irregular_text display_only shortcuts node) < 4 * (length node.content + 4)
unfolding irregular_text
irregular_within display_only shortcuts node all =
    let limit = 4 * (length node.content + 4) in
    let name : length (utf16_text node.content) < limit = omega (arith, utf16_within node.content) in
    let short : length (short_name node) < limit = omega (arith, short_within node) in
    pick limit (is_file_node node) (utf16_text node.content) _ (λ e. name)
    (pick limit (has_uid_text shortcuts node) (expanded_text node.content) (short_name node)
    (λ e. expanded_within node.content (uid_long shortcuts node e) all) short)

-- a name of a file has room for more
pub name_room : (display_only shortcuts : Bool) (node : Node) → is_file_node node ≡ true → length (node_text display_only shortcuts node) ≤ 4 * length node.content
unfolding node_text irregular_text
name_room display_only shortcuts node e = rw e (utf16_within node.content)

pub node_within : (display_only shortcuts : Bool) (node : Node) → node.device_type < 256 → node.sub_type < 256 → All IsByte node.content
    → length (node_text display_only shortcuts node) < 4 * (length node.content + 4)
unfolding node_text
node_within display_only shortcuts node kind sub_kind all =
    let limit = 4 * (length node.content + 4) in
    pick limit (is_irregular shortcuts node) (irregular_text display_only shortcuts node) _ (λ e. irregular_within display_only shortcuts node all)
    (pick limit (has_form display_only node.device_type node.sub_type node.content)
    (table_text display_only node.device_type node.sub_type node.content) (unknown_text node)
    (λ e. table_within display_only node.device_type node.sub_type node.content all) (unknown_within node kind sub_kind all))
