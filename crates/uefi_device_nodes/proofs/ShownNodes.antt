-- No text of a node holds a character that texts escape.
use Rattle.std.proofs.Common.{◌==◌, ◌&&◌, Bool, true, false, if◌then◌else◌, List, [], ◌∷◌, codes, length, ℕ, refl}
use Rattle.std.specs.Prelude.{All}
use Rattle.std.specs.Fmt.{decimal}
use Rattle.std.specs.List.{concat}
use Rattle.uefi_text.specs.Packed.{IsByte}
use Rattle.uefi_device_nodes.specs.FieldTexts.{comma_bytes, eisa_text, shown_bytes, uid_string, utf16_text}
use Rattle.uefi_device_nodes.specs.ShownFields.{AsciiShown, BytesShown, IsShown, JoinedShown, NamesShown, NumbersShown, UnitsShown}
use Rattle.uefi_device_nodes.specs.declared.node_table.layouts.TheConstants.{MESSAGING_TYPE}
use Rattle.uefi_device_nodes.specs.declared.node_table.layouts.acpi.expanded.TheConstants as expanded
use Rattle.uefi_device_nodes.specs.declared.node_table.layouts.messaging.messaging_vendor.TheConstants as messaging_vendor
use Rattle.uefi_device_nodes.specs.ShownTable.{TableShown}
use Rattle.uefi_device_nodes.specs.Table.{has_form, table_text}
use Rattle.uefi_device_nodes.specs.Nodes.{Node}
use Rattle.uefi_device_nodes.specs.NodeTexts.{expanded_text, has_uid_text, irregular_text, is_file_node, is_irregular, node_text, short_name, unknown_text}
use Rattle.uefi_device_nodes.specs.ShownNodes.{NodesShown}
use Rattle.uefi_device_nodes.specs.TypedNodes.{bytes_from, number_at, number_in}

module _ (joined : JoinedShown) (ascii : AsciiShown) (numbers : NumbersShown) (bytes_are : BytesShown) (names : NamesShown) (units : UnitsShown) (table : TableShown) where
  none : IsShown []
  none = ascii [] refl

  pick : (t : Bool) (one other : List ℕ) → IsShown one → IsShown other → IsShown (if t then one else other)
  pick true one other e f = e
  pick false one other e f = f

  abbrev Each : List (List ℕ) → Type 0
  Each [] = Unit {0}
  Each (part ∷ parts) = IsShown part × Each parts

  -- parts in a row
  row : (parts : List (List ℕ)) → Each parts → IsShown (concat parts)
  row [] each = none
  row (part ∷ parts) each = joined part (concat parts) each.0 (row parts each.1)

  comma : IsShown (codes ",")
  comma = ascii (codes ",") refl

  end : Each (codes ")" ∷ [])
  end = (ascii (codes ")") refl, tt)

  expanded_shown : (content : List ℕ) → IsShown (expanded_text content)
  expanded_shown content =
      let uid : List ℕ = uid_string (bytes_from expanded.ID_STRINGS content) in
      let hid_id : List ℕ = eisa_text (number_in expanded.HID content) in
      let cid_id : List ℕ = eisa_text (number_in expanded.CID content) in
      let id : (n : ℕ) → IsShown (eisa_text n) = λ n. (names n 0).0 in
      row (codes "AcpiExp(" ∷ hid_id ∷ codes "," ∷ cid_id ∷ codes "," ∷ shown_bytes uid ∷ codes ")" ∷ [])
      (ascii (codes "AcpiExp(") refl, (id _, (comma, (id _, (comma, ((bytes_are uid).4, end))))))

  unknown : (node : Node) → IsShown (unknown_text node)
  unfolding unknown_text
  unknown node =
      row (codes "Path(" ∷ decimal node.device_type ∷ codes "," ∷ decimal node.sub_type ∷ comma_bytes node.content ∷ codes ")" ∷ [])
      (ascii (codes "Path(") refl, ((numbers node.device_type).1, (comma, ((numbers node.sub_type).1, ((bytes_are node.content).3, end)))))

  short : (node : Node) → IsShown (short_name node)
  short node =
      pick ((node.device_type == MESSAGING_TYPE) && ((node.sub_type == messaging_vendor.SUB_TYPE) && (length node.content == messaging_vendor.LEAST))) _ []
      (names (number_at 0 8 node.content) (number_at 8 8 node.content)).1 none

  irregular : (display_only shortcuts : Bool) (node : Node) → All IsByte node.content → IsShown (irregular_text display_only shortcuts node)
  unfolding irregular_text
  irregular display_only shortcuts node h =
      pick (is_file_node node) (utf16_text node.content) _ (units node.content h)
      (pick (has_uid_text shortcuts node) (expanded_text node.content) (short_name node) (expanded_shown node.content) (short node))

  pub shown : NodesShown
  unfolding node_text
  shown display_only shortcuts node h =
      pick (is_irregular shortcuts node) (irregular_text display_only shortcuts node) _ (irregular display_only shortcuts node h)
      (pick (has_form display_only node.device_type node.sub_type node.content)
      (table_text display_only node.device_type node.sub_type node.content) (unknown_text node)
      (table display_only node.device_type node.sub_type node.content h) (unknown node))
