-- Texts without characters that texts escape.
use Rattle.std.specs.Prelude.{◌≡◌, ℕ, ◌&&◌, Bool, true, false, nat_le, nat_lt, List, ◌++◌, All}
use Rattle.std.specs.Char.{IsScalar}
use Rattle.std.specs.Fmt.{decimal}
use Rattle.std.specs.List.{list_all}
use Rattle.std.specs.Str.{encode_utf8_all}
use Rattle.uefi_text.specs.Packed.{IsByte}
use Rattle.uefi_device_nodes.specs.FieldTexts.{comma_bytes, dashed_back, eisa_text, hex, hex_back, hex_bytes, is_escaped, shown_bytes, utf16_text, vendor_name}

-- a character that texts do not escape
abbrev pub IsShownChar : ℕ → Type 0
IsShownChar c = IsScalar c × (is_escaped c ≡ false)

-- a text in UTF-8 that contains no character that texts escape
abbrev pub IsShown : List ℕ → Type 0
IsShown text = (cs : List ℕ) × (All IsShownChar cs × (text ≡ encode_utf8_all cs))

-- whether a character is printable ASCII
abbrev pub is_printable : ℕ → Bool
is_printable c = nat_le 0x20 c && nat_lt c 0x7f

-- two texts without escaped characters join to another
abbrev pub JoinedShown : Type 0
JoinedShown = (front back : List ℕ) → IsShown front → IsShown back → IsShown (front ++ back)

-- printable ASCII contains no escaped character
abbrev pub AsciiShown : Type 0
AsciiShown = (text : List ℕ) → list_all is_printable text ≡ true → IsShown text

-- the texts of numbers contain no escaped character
abbrev pub NumbersShown : Type 0
NumbersShown = (n : ℕ) → IsShown (hex n) × IsShown (decimal n)

-- the texts of bytes contain no escaped character
abbrev pub BytesShown : Type 0
BytesShown = (bytes : List ℕ) → IsShown (hex_bytes bytes) × IsShown (hex_back bytes)
    × IsShown (dashed_back bytes) × IsShown (comma_bytes bytes) × IsShown (shown_bytes bytes)

-- the texts of EISA IDs and the names of vendors contain no escaped character
abbrev pub NamesShown : Type 0
NamesShown = (n other : ℕ) → IsShown (eisa_text n) × IsShown (vendor_name n other)

-- the texts of code units contain no escaped character
abbrev pub UnitsShown : Type 0
UnitsShown = (bytes : List ℕ) → All IsByte bytes → IsShown (utf16_text bytes)
