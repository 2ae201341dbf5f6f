-- The texts of fields, by their shapes.
use Rattle.std.specs.Prelude.{ℕ, ◌+◌, nat_le, Bool, true, ◌==◌, ◌&&◌, if◌then◌else◌, List, codes}
use Rattle.std.specs.Fmt.{decimal}
use Rattle.uefi_text.specs.Packed.{little_endian}
use Rattle.uefi_device_nodes.specs.FieldTexts.{dashed_back, hex, hex_back, hex_bytes, eisa_text}
use Rattle.uefi_device_nodes.specs.Words.{word_text, words_of}
use Rattle.uefi_device_nodes.specs.declared.node_table.rows.Shape.{Shape}
use Rattle.uefi_device_nodes.specs.declared.node_table.rows.Shape.TheVariants.{Hexadecimal, Decimal, OrDefault, Back, Forth, Dashed, Next, Eisa, Word}

-- a number in decimal, or `DEFAULT` for 0
abbrev pub default_text : ℕ → List ℕ
default_text n = if n == 0 then codes "DEFAULT" else decimal n

-- the text of the bytes of a field
abbrev pub field_text : Shape → List ℕ → List ℕ
field_text Hexadecimal bytes = hex (little_endian bytes)
field_text Decimal bytes = decimal (little_endian bytes)
field_text OrDefault bytes = default_text (little_endian bytes)
field_text Back bytes = hex_back bytes
field_text Forth bytes = hex_bytes bytes
field_text Dashed bytes = dashed_back bytes
field_text Next bytes = hex (little_endian bytes + 1)
field_text Eisa bytes = eisa_text (little_endian bytes)
field_text (Word words) bytes = word_text (words_of words) (little_endian bytes)

-- whether a field of a shape may have a width: from one to eight bytes for a number
abbrev pub fits_shape : Shape → ℕ → Bool
fits_shape Hexadecimal width = nat_le 1 width && nat_le width 8
fits_shape Decimal width = nat_le 1 width && nat_le width 8
fits_shape OrDefault width = nat_le 1 width && nat_le width 8
fits_shape Back width = true
fits_shape Forth width = true
fits_shape Dashed width = true
fits_shape Next width = width == 1
fits_shape Eisa width = width == 4
fits_shape (Word words) width = nat_le 1 width && nat_le width 8
