-- The texts of the fields of nodes, in UTF-8.
use Rattle.std.specs.Prelude.{ℕ, ◌+◌, ◌*◌, ◌/◌, ◌%◌, ◌==◌, ◌||◌, ◌&&◌, Bool, true, nat_le, nat_lt, if◌then◌else◌, List, [], ◌∷◌, ◌++◌, codes, length, not, take, drop, reverse, encode_utf8}
use Rattle.std.specs.Fmt.{digits}
use Rattle.std.specs.List.{concat, flat_map, join_by, position_or_len}
use Rattle.std.specs.Char.Utf16.{utf16_lossy_chars}
use Rattle.uefi_text.specs.Units.{is_nul}
use Rattle.uefi_text.specs.UnitBytes.{units_of_bytes}

-- a number in hexadecimal, without leading zeros
abbrev pub hex : ℕ → List ℕ
hex n = digits 16 true n

-- a byte as two digits
unfoldable pub hex_two : ℕ → List ℕ
hex_two byte = hex (byte / 16) ++ hex (byte % 16)

-- a number of two bytes as four digits
unfoldable pub hex_four : ℕ → List ℕ
hex_four n = hex_two (n / 256) ++ hex_two (n % 256)

-- bytes, two digits each
unfoldable pub hex_bytes : List ℕ → List ℕ
hex_bytes bytes = flat_map hex_two bytes

-- bytes from the last to the first, two digits each: a number that is stored with its low byte first
unfoldable pub hex_back : List ℕ → List ℕ
hex_back bytes = hex_bytes (reverse bytes)

-- bytes from the last to the first, two digits each, with dashes between them
unfoldable pub dashed_back : List ℕ → List ℕ
dashed_back bytes = join_by hex_two (codes "-") (reverse bytes)

-- a comma and then bytes, or nothing if there are no bytes
unfoldable pub comma_bytes : List ℕ → List ℕ
comma_bytes [] = []
comma_bytes (byte ∷ bytes) = codes "," ++ hex_bytes (byte ∷ bytes)

-- one of the three letters of an EISA ID, by the five low bits of a number: 1 is A
unfoldable pub eisa_letter : ℕ → List ℕ
eisa_letter n = encode_utf8 (n % 32 + 64)

-- the bits that the text of an EISA ID shows: all except bit 15
abbrev pub eisa_bits : ℕ → ℕ
eisa_bits id = id % 32768 + id / 65536 * 65536

-- an EISA ID: three letters for the low 15 bits, and digits for the high two bytes; 0 is no ID
unfoldable pub eisa_text : ℕ → List ℕ
eisa_text id = if eisa_bits id == 0 then codes "0"
    else eisa_letter (id / 1024) ++ (eisa_letter (id / 32) ++ (eisa_letter id ++ hex_four (id / 65536)))

-- the elements before the first zero, or all elements
abbrev pub until_nul : List ℕ → List ℕ
until_nul elements = take (position_or_len is_nul elements) elements

-- the elements after the first zero, or none
abbrev pub after_nul : List ℕ → List ℕ
after_nul elements = drop (position_or_len is_nul elements + 1) elements

-- a byte of a text: unchanged if it is printable ASCII, and otherwise escaped
unfoldable pub shown_byte : ℕ → List ℕ
shown_byte byte = if nat_le 0x20 byte && nat_lt byte 0x7f then encode_utf8 byte else codes "\\x"
    ++ hex_two byte

-- bytes as a text
unfoldable pub shown_bytes : List ℕ → List ℕ
shown_bytes bytes = flat_map shown_byte bytes

-- whether a character is a control character (Unicode Standard, section 23.1)
abbrev pub is_control : ℕ → Bool
is_control c = nat_lt c 0x20 || (nat_le 0x7f c && nat_lt c 0xa0)

-- whether a character changes the direction of a text or ends its line (Unicode Standard, Annex 9 and section
-- 5.8)
abbrev pub is_reordering : ℕ → Bool
is_reordering c = (c == 0x61c) || ((nat_le 0x200e c && nat_lt c 0x2010)
    || ((nat_le 0x2028 c && nat_lt c 0x202f) || (nat_le 0x2066 c && nat_lt c 0x206a)))

-- whether texts escape a character
abbrev pub is_escaped : ℕ → Bool
is_escaped c = is_control c || is_reordering c

-- a character of a text: unchanged, or its number if texts escape it
unfoldable pub shown_char : ℕ → List ℕ
shown_char c = if is_escaped c then concat (codes "\\u{" ∷ hex c ∷ codes "}" ∷ []) else encode_utf8 c

-- code units as a text: the characters that they encode, with U+FFFD for each unpaired surrogate
unfoldable pub shown_units : List ℕ → List ℕ
shown_units units = flat_map shown_char (utf16_lossy_chars units)

-- the text that bytes encode in UTF-16, up to its NUL
unfoldable pub utf16_text : List ℕ → List ℕ
utf16_text bytes = shown_units (until_nul (units_of_bytes bytes))

-- the short name of a vendor, by the two halves of its GUID, or an empty text; these vendors have one:
-- E0C14753-F9BE-11D2-9A0C-0090273FC14D, DFA66065-B419-11D3-9A2D-0090273FC14D,
-- 7BAEC70B-57E0-4C76-8E87-2F9E28088343, AD15A0D6-8BEC-4ACF-A073-D01DE77E2D88 and
-- EBA4E8D2-3858-41EC-A281-2647BA9660D0
unfoldable pub vendor_name : ℕ → ℕ → List ℕ
vendor_name first second =
    if (first == 0x11d2f9bee0c14753) && (second == 0x4dc13f2790000c9a) then codes "VenPcAnsi()"
    else if (first == 0x11d3b419dfa66065) && (second == 0x4dc13f2790002d9a) then codes "VenVt100()"
    else if (first == 0x4c7657e07baec70b) && (second == 0x438308289e2f878e) then codes "VenVt100Plus()"
    else if (first == 0x4acf8becad15a0d6) && (second == 0x882d7ee71dd073a0) then codes "VenUtf8()"
    else if (first == 0x41ec3858eba4e8d2) && (second == 0xd06096ba472681a2) then codes "DebugPort()"
    else []

-- the string of _HID; the strings of an ACPI device are stored in the order _HID, _UID, _CID
abbrev pub hid_string : List ℕ → List ℕ
hid_string bytes = until_nul bytes

-- the string of _UID
abbrev pub uid_string : List ℕ → List ℕ
uid_string bytes = until_nul (after_nul bytes)

-- the string of _CID
abbrev pub cid_string : List ℕ → List ℕ
cid_string bytes = until_nul (after_nul (after_nul bytes))

-- the text of all three strings: _CID comes before _UID
unfoldable pub id_strings_text : List ℕ → List ℕ
id_strings_text bytes = shown_bytes (hid_string bytes) ++ (codes "," ++ (shown_bytes (cid_string bytes)
    ++ (codes "," ++ shown_bytes (uid_string bytes))))

-- whether a device has a string only for _UID
unfoldable pub has_uid_alone : List ℕ → Bool
has_uid_alone bytes = (length (hid_string bytes) == 0) && ((length (cid_string bytes) == 0)
    && not (length (uid_string bytes) == 0))
