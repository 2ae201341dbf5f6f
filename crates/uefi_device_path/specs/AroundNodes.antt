-- What people paste around the nodes of a text: quotation marks, and a slash before the first node.
use Rattle.std.specs.Prelude.{ℕ, ◌-◌, Bool, not, ◌==◌, ◌&&◌, ◌||◌, if◌then◌else◌, List, codes, length, slice_index, take, drop}
use Rattle.std.specs.Char.{is_ascii_whitespace}
use Rattle.std.specs.List.{list_all}
use Rattle.uefi_node_reader.specs.Ambiguous.{begins_with}
use Rattle.uefi_node_reader.specs.NamedFiles.{before_spaces, is_after_node, past_spaces}
use Rattle.uefi_node_reader.specs.TableReading.{first_of, is_empty}
use Rattle.uefi_node_reader.specs.declared.styles.TextStyle.{TextStyle}
use Rattle.uefi_node_reader.specs.declared.styles.TextStyle.TheVariants.{Printed, Lenient, Libefivar}

-- the first byte of a text that is no blank, or 0
abbrev pub first_byte : List ℕ → ℕ
first_byte text = first_of (past_spaces text)

-- what stands after that byte
abbrev pub after_first : List ℕ → List ℕ
after_first text = drop 1 (past_spaces text)

-- the last byte of a text that is no blank, or 0
abbrev pub last_byte : List ℕ → ℕ
last_byte text = slice_index (before_spaces text) (length (before_spaces text) - 1)

-- what stands before that byte
abbrev pub before_last : List ℕ → List ℕ
before_last text = take (length (before_spaces text) - 1) (before_spaces text)

-- the test for bytes that are all blanks and line ends
abbrev pub is_spaces : List ℕ → Bool
is_spaces bytes = list_all is_ascii_whitespace bytes

-- the test for a quotation mark
abbrev pub is_mark : ℕ → Bool
is_mark byte = (byte == 34) || (byte == 39)

-- the test for a text in quotation marks: it begins and ends with the same one, and more than blanks stands
-- between them
abbrev pub is_quoted : List ℕ → Bool
is_quoted text = (is_mark (first_byte text) && (last_byte text == first_byte text))
    && not (is_empty (past_spaces (after_first (before_last text))))

-- the test for a call of GRUB for a PCI device, which has the function before the device, and no `0x`
abbrev pub is_grub_pci : List ℕ → Bool
is_grub_pci text = begins_with (codes "PCI(") text && not (begins_with (codes "PCI(0x") text)

-- the test for a text that may begin a node after a slash at the start of a path
abbrev pub may_begin : List ℕ → Bool
may_begin text = not (is_after_node text) && not (is_grub_pci text)

-- the test for a text that begins with a slash, after which a node may begin
abbrev pub is_slashed : List ℕ → Bool
is_slashed text = (first_byte text == 47) && may_begin (past_spaces (after_first text))

-- a text without such a slash
abbrev pub past_slash : List ℕ → List ℕ
past_slash text = if is_slashed text then after_first text else text

-- a text up to the quotation mark that closes it, as people write it, and a whole text of another style
abbrev pub before_closing : TextStyle → List ℕ → List ℕ
before_closing Lenient text = if is_quoted text then before_last text else text
before_closing Printed text = text
before_closing Libefivar text = text

-- the place of the first node: after the mark that opens a text and after a slash, as people write it
abbrev pub first_place : TextStyle → List ℕ → List ℕ
first_place Lenient text = past_slash (if is_quoted text then after_first (before_last text) else text)
first_place Printed text = text
first_place Libefivar text = text
