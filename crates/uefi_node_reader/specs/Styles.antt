-- Nodes read from their texts in each style.
use Rattle.std.specs.Prelude.{◌≡◌, ◌≤◌, ℕ, Bool, List, length, IfErr, Result, Ok, Some, not, true, false}
use Rattle.std.specs.Option.{ok_or}
use Rattle.uefi_device_nodes.specs.Nodes.{Node}
use Rattle.uefi_node_reader.specs.LenientNodes.{IsRestOf, ended, fault_at_byte, is_escaped_name, lenient_read}
use Rattle.uefi_node_reader.specs.Libefivar.{libefivar_read}
use Rattle.uefi_node_reader.specs.NamedFiles.{IsTold, is_after_node, node_read}
use Rattle.uefi_node_reader.specs.declared.errors.faults.Expected.TheVariants as expected
use Rattle.uefi_node_reader.specs.declared.errors.faults.NodeFault.{NodeFault}
use Rattle.uefi_node_reader.specs.declared.styles.TextStyle.{TextStyle}
use Rattle.uefi_node_reader.specs.declared.styles.TextStyle.TheVariants.{Printed, Lenient, Libefivar}

-- the node at the start of a text in a style, and the rest of the text, or the fault of the text; if
-- `is_rooted`, names have to begin with a backslash
unfoldable pub styled_read : TextStyle → Bool → List ℕ → Result (Node × List ℕ) NodeFault
styled_read Printed is_rooted text = ok_or (ended (node_read text)) (fault_at_byte 0 expected.AsPrinted)
styled_read Lenient is_rooted text = lenient_read is_rooted text
styled_read Libefivar is_rooted text = libefivar_read is_rooted text

-- whether a style reads this printed text of a node as that node; people write no name that begins with two
-- backslashes
abbrev pub takes_printed : TextStyle → List ℕ → Bool
takes_printed Printed text = true
takes_printed Lenient text = not (is_escaped_name text)
takes_printed Libefivar text = false

-- a node that is read is told
abbrev pub StyledTakes : Type 0
StyledTakes = (style : TextStyle) (is_rooted : Bool) (text : List ℕ) (node : Node) (rest : List ℕ)
    → styled_read style is_rooted text ≡ Ok (node, rest) → IsTold node

-- the rest is the end of the text, after at least one byte, and may follow a node
abbrev pub StyledEnds : Type 0
StyledEnds = (style : TextStyle) (is_rooted : Bool) (text : List ℕ) (node : Node) (rest : List ℕ)
    → styled_read style is_rooted text ≡ Ok (node, rest) → IsRestOf text rest × (is_after_node rest ≡ true)

-- the text is not empty, and begins with no byte that may follow a node
abbrev pub StyledStarts : Type 0
StyledStarts = (style : TextStyle) (is_rooted : Bool) (text : List ℕ) (node : Node) (rest : List ℕ)
    → styled_read style is_rooted text ≡ Ok (node, rest) → is_after_node text ≡ false

-- a node that is read exactly where a node may end is the same node in each style that reads printed texts
abbrev pub StyledAgain : Type 0
StyledAgain = (style : TextStyle) (is_rooted : Bool) (text : List ℕ) → takes_printed style text ≡ true
    → (node : Node) (rest : List ℕ) → node_read text ≡ Some (node, rest) → is_after_node rest ≡ true
    → styled_read style is_rooted text ≡ Ok (node, rest)

-- a node that is read in the style of printed texts is read exactly
abbrev pub PrintedExactly : Type 0
PrintedExactly = (is_rooted : Bool) (text : List ℕ) (node : Node) (rest : List ℕ)
    → styled_read Printed is_rooted text ≡ Ok (node, rest) → node_read text ≡ Some (node, rest)

-- the offset of the wrong byte is at most the length of the text
abbrev pub StyledFaultWithin : Type 0
StyledFaultWithin = (style : TextStyle) (is_rooted : Bool) (text : List ℕ)
    → IfErr (styled_read style is_rooted text) (λ fault. fault.byte ≤ length text)
