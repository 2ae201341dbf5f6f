-- How long the texts of fields are.
use Rattle.std.proofs.Common.{◌≡◌, ℕ, zero, suc, ◌+◌, ◌*◌, ◌/◌, ◌%◌, ◌^◌, ◌<◌, ◌≤◌, ◌==◌, ◌&&◌, Bool, true, false, if◌then◌else◌, List, [], ◌∷◌, ◌++◌, codes, length, length-append, length-drop, length-take, reverse, refl, ap, arith}
use Rattle.std.proofs.lemmas.Bool.Decides.{nat_tests}
use Rattle.std.proofs.lemmas.Fmt.{length-decimal-le_wide}
use Rattle.std.proofs.lemmas.List.{length-map, length-reverse, reverse-append}
use Rattle.std.proofs.lemmas.List.Elements.{All-drop, All-head, All-nil, All-push, All-same, All-tail, All-take, All-from_get_or}
use Rattle.std.proofs.lemmas.Str.{encode_ascii, len_utf8_bounds, length-encode}
use Rattle.std.specs.Char.Utf16.{is_high_surrogate, is_low_surrogate, lone_unit_char, surrogate_pair_char, utf16_chars, utf16_lossy_chars}
use Rattle.std.specs.Fmt.{decimal, digit_glyph, digits, digits_onto}
use Rattle.std.specs.List.{concat, flat_map, join_by, position_or_len}
use Rattle.std.specs.Option.{unwrap_or}
use Rattle.std.specs.Prelude.{All, Some, encode_utf8, nat_le, nat_lt}
use Rattle.uefi_text.proofs.Packing.{length-packed_items}
use Rattle.uefi_text.proofs.TextLengths.{flat_within}
use Rattle.uefi_text.specs.Packed.{IsByte, little_endian}
use Rattle.uefi_text.specs.UnitBytes.{units_of_bytes}
use Rattle.uefi_text.specs.Units.{is_nul}
use Rattle.uefi_device_nodes.specs.FieldTexts.{after_nul, cid_string, comma_bytes, dashed_back, eisa_bits, eisa_letter, eisa_text, hex, hex_back, hex_bytes, hex_four, hex_two, hid_string, id_strings_text, is_escaped, shown_byte, shown_bytes, shown_char, shown_units, uid_string, until_nul, utf16_text, vendor_name}

-- a number of one digit more
one_more : (j n : ℕ) → n < 16 ^ suc j → (n / 16 == 0) ≡ false → (i : ℕ) × (j ≡ suc i) × (n / 16 < 16 ^ suc i)
one_more zero n small some = absurd (grind (arith, nat_tests, small, some))
one_more (suc i) n small some = (i, refl, omega (arith, small))

digits_within : (k j n : ℕ) (after : List ℕ) → n < 16 ^ suc j → length (digits_onto k 16 true n after) ≤ suc j + length after
digits_within zero j n after small = omega arith
digits_within (suc k) j n after small = by (n / 16 == 0) refl (λ i less more. digits_within k i (n / 16) more less)
  where
    by : (t : Bool) → (n / 16 == 0) ≡ t
        → ((i : ℕ) → n / 16 < 16 ^ suc i → (more : List ℕ) → length (digits_onto k 16 true (n / 16) more) ≤ suc i + length more)
        → length (if t then digit_glyph true (n % 16) ∷ after else digits_onto k 16 true (n / 16) (digit_glyph true (n % 16) ∷ after)) ≤ suc j + length after
    by true e others = omega arith
    by false e others =
        let more = one_more j n small e in
        omega (arith, others more.0 more.2 (digit_glyph true (n % 16) ∷ after), more.1)

pub hex_within : (j n : ℕ) → n < 16 ^ suc j → length (hex n) ≤ suc j
unfolding digits
hex_within j n small = omega (arith, digits_within 64 j n [] small)

-- the number that bytes encode
pub number_within : (w : ℕ) (bytes : List ℕ) → length bytes ≤ w → All IsByte bytes → little_endian bytes < 256 ^ w
number_within zero [] short all = omega arith
number_within zero (b ∷ bytes) short all = absurd (omega (arith, short))
number_within (suc w) [] short all = omega (arith, number_within w [] (omega arith) all)
number_within (suc w) (b ∷ bytes) short all = omega (
  arith,
  All-head IsByte b bytes all,
  number_within w bytes (omega (arith, short)) (All-tail IsByte b bytes all),
)

hex_power : (w : ℕ) → 256 ^ w ≡ 16 ^ (2 * w)
hex_power zero = omega arith
hex_power (suc w) =
    let two : 2 * suc w ≡ suc (suc (2 * w)) = omega arith in
    omega (arith, hex_power w, ap (λ (k : ℕ). 16 ^ k) two)

decimal_power : (w : ℕ) → 256 ^ w ≤ 10 ^ (3 * w)
decimal_power zero = omega arith
decimal_power (suc w) =
    let three : 3 * suc w ≡ suc (suc (suc (3 * w))) = omega arith in
    omega (arith, decimal_power w, ap (λ (k : ℕ). 10 ^ k) three)

-- a number of this many bytes in hexadecimal, and the number after it
pub hex_field : (w : ℕ) (bytes : List ℕ) → 1 ≤ w → length bytes ≤ w → All IsByte bytes → length (hex (little_endian bytes)) ≤ 2 * w
hex_field zero bytes some short all = absurd (omega (arith, some))
hex_field (suc v) bytes some short all =
    let two : 2 * suc v ≡ suc (2 * v + 1) = omega arith in
    let small : little_endian bytes < 16 ^ suc (2 * v + 1) =
    omega (arith, number_within (suc v) bytes short all, hex_power (suc v), ap (λ (k : ℕ). 16 ^ k) two) in
    omega (arith, hex_within (2 * v + 1) (little_endian bytes) small)

pub next_field : (w : ℕ) (bytes : List ℕ) → length bytes ≤ w → All IsByte bytes → length (hex (little_endian bytes + 1)) ≤ 2 * w + 1
next_field w bytes short all =
    let number = number_within w bytes short all in
    let power = hex_power w in
    let small : little_endian bytes + 1 < 16 ^ suc (2 * w) = omega (arith, number, power) in
    omega (arith, hex_within (2 * w) (little_endian bytes + 1) small)

-- in decimal
pub decimal_field : (w : ℕ) (bytes : List ℕ) → 1 ≤ w → w ≤ 8 → length bytes ≤ w → All IsByte bytes → length (decimal (little_endian bytes)) ≤ 3 * w
decimal_field w bytes some few short all =
    let small : little_endian bytes < 10 ^ (3 * w) = omega (arith, number_within w bytes short all, decimal_power w) in
    let eight : little_endian bytes < 256 ^ 8 = number_within 8 bytes (omega (arith, short, few)) all in
    length-decimal-le_wide (3 * w) (little_endian bytes) (omega (arith, some)) small (omega (arith, eight))

pub decimal_byte : (n : ℕ) → n < 256 → length (decimal n) ≤ 3
decimal_byte n small = length-decimal-le_wide 3 n (omega arith) (omega (arith, small)) (omega (arith, small))

-- bytes as digits
two_within : (byte : ℕ) → IsByte byte → length (hex_two byte) ≤ 2
unfolding hex_two
two_within byte small = omega (
  arith,
  length-append (hex (byte / 16)) (hex (byte % 16)),
  hex_within 0 (byte / 16) (omega (arith, small)),
  hex_within 0 (byte % 16) (omega arith),
)

four_within : (n : ℕ) → n < 65536 → length (hex_four n) ≤ 4
unfolding hex_four
four_within n small = omega (
  arith,
  length-append (hex_two (n / 256)) (hex_two (n % 256)),
  two_within (n / 256) (omega (arith, small)),
  two_within (n % 256) (omega arith),
)

pub forth_within : (bytes : List ℕ) → All IsByte bytes → length (hex_bytes bytes) ≤ 2 * length bytes
unfolding hex_bytes
forth_within bytes all = flat_within IsByte hex_two 2 two_within bytes all

all_reversed : (bytes : List ℕ) → All IsByte bytes → All IsByte (reverse bytes)
all_reversed [] all = All-nil IsByte
all_reversed (b ∷ bytes) all =
    All-same IsByte (reverse (b ∷ bytes)) (reverse bytes ++ b ∷ []) (reverse-append (b ∷ []) bytes)
    (All-push IsByte (reverse bytes) b (all_reversed bytes (All-tail IsByte b bytes all)) (All-head IsByte b bytes all))

pub back_within : (bytes : List ℕ) → All IsByte bytes → length (hex_back bytes) ≤ 2 * length bytes
unfolding hex_back
back_within bytes all = omega (arith, forth_within (reverse bytes) (all_reversed bytes all), length-reverse bytes)

pub dashed_within : (bytes : List ℕ) → All IsByte bytes → length (dashed_back bytes) ≤ 3 * length bytes
unfolding dashed_back
dashed_within bytes all = omega (arith, joined (reverse bytes) (all_reversed bytes all), length-reverse bytes)
  where
    other : (byte : ℕ) → IsByte byte → length (codes "-" ++ hex_two byte) ≤ 3
    other byte small = omega (arith, two_within byte small)

    joined : (xs : List ℕ) → All IsByte xs → length (join_by hex_two (codes "-") xs) ≤ 3 * length xs
    joined [] each = omega arith
    joined (x ∷ xs) each = omega (
      arith,
      length-append (hex_two x) (flat_map (λ y. codes "-" ++ hex_two y) xs),
      two_within x (All-head IsByte x xs each),
      flat_within IsByte (λ y. codes "-" ++ hex_two y) 3 other xs (All-tail IsByte x xs each),
    )

pub comma_within : (bytes : List ℕ) → All IsByte bytes → length (comma_bytes bytes) ≤ 2 * length bytes + 1
unfolding comma_bytes
comma_within [] all = omega arith
comma_within (b ∷ bytes) all = omega (arith, forth_within (b ∷ bytes) all)

-- an ID of EISA
letter_within : (n : ℕ) → length (eisa_letter n) ≡ 1
unfolding eisa_letter
letter_within n = ap length (encode_ascii (n % 32 + 64) (omega arith))

pub eisa_within : (id : ℕ) → id < 2 ^ 32 → length (eisa_text id) ≤ 7
unfolding eisa_text
eisa_within id small = by (eisa_bits id == 0)
  where
    by : (t : Bool) → length (if t then codes "0" else eisa_letter (id / 1024) ++ (eisa_letter (id / 32) ++ (eisa_letter id ++ hex_four (id / 65536)))) ≤ 7
    by true = omega arith
    by false = omega (
      arith,
      length-append (eisa_letter (id / 1024)) (eisa_letter (id / 32) ++ (eisa_letter id ++ hex_four (id / 65536))),
      length-append (eisa_letter (id / 32)) (eisa_letter id ++ hex_four (id / 65536)),
      length-append (eisa_letter id) (hex_four (id / 65536)),
      letter_within (id / 1024),
      letter_within (id / 32),
      letter_within id,
      four_within (id / 65536) (omega (arith, small)),
    )

-- a text of bytes
byte_within : (byte : ℕ) → IsByte byte → length (shown_byte byte) ≤ 4
unfolding shown_byte
byte_within byte small = by (nat_le 0x20 byte && nat_lt byte 0x7f) refl
  where
    by : (t : Bool) → (nat_le 0x20 byte && nat_lt byte 0x7f) ≡ t → length (if t then encode_utf8 byte else codes "\\x" ++ hex_two byte) ≤ 4
    by true e = omega (arith, length-encode byte, (len_utf8_bounds byte).1)
    by false e = omega (arith, two_within byte small)

pub shown_within : (bytes : List ℕ) → All IsByte bytes → length (shown_bytes bytes) ≤ 4 * length bytes
unfolding shown_bytes
shown_within bytes all = flat_within IsByte shown_byte 4 byte_within bytes all

-- up to a zero
pub name_within : (bytes : List ℕ) → All IsByte bytes → length (shown_bytes (until_nul bytes)) ≤ 4 * length bytes
name_within bytes all = omega (
  arith,
  shown_within (until_nul bytes) (All-take IsByte (position_or_len is_nul bytes) bytes all),
  length-take (position_or_len is_nul bytes) bytes,
)

-- the strings of IDs, and the two commas between them
pub ids_within : (bytes : List ℕ) → All IsByte bytes → length (id_strings_text bytes) ≤ 4 * length bytes + 2
unfolding id_strings_text
ids_within bytes all =
    let hid = hid_string bytes in
    let cid = cid_string bytes in
    let uid = uid_string bytes in
    let p = position_or_len is_nul bytes in
    let after : List ℕ = after_nul bytes in
    let q = position_or_len is_nul after in
    let last : List ℕ = after_nul after in
    let r = position_or_len is_nul last in
    let after_all = All-drop IsByte (p + 1) bytes all in
    let last_all = All-drop IsByte (q + 1) after after_all in
    omega (
      arith,
      length-append (shown_bytes hid) (codes "," ++ (shown_bytes cid ++ (codes "," ++ shown_bytes uid))),
      length-append (shown_bytes cid) (codes "," ++ shown_bytes uid),
      shown_within hid (All-take IsByte p bytes all),
      shown_within uid (All-take IsByte q after after_all),
      shown_within cid (All-take IsByte r last last_all),
      length-take p bytes,
      length-drop (p + 1) bytes,
      length-take q after,
      length-drop (q + 1) after,
      length-take r last,
    )

pub uid_within : (bytes : List ℕ) → All IsByte bytes → length (shown_bytes (uid_string bytes)) ≤ 4 * length bytes
uid_within bytes all = omega (
  arith,
  name_within (after_nul bytes) (All-drop IsByte (position_or_len is_nul bytes + 1) bytes all),
  length-drop (position_or_len is_nul bytes + 1) bytes,
)

-- code units
char_within : (c : ℕ) → length (shown_char c) ≤ 8
unfolding shown_char
char_within c = by (is_escaped c) refl
  where
    by : (t : Bool) → is_escaped c ≡ t → length (if t then concat (codes "\\u{" ∷ hex c ∷ codes "}" ∷ []) else encode_utf8 c) ≤ 8
    by true e =
        let low : c < 16 ^ 4 = grind (arith, nat_tests, e) in
        omega (arith, hex_within 3 c low, length-append (hex c) (codes "}" ++ []))
    by false e = omega (arith, length-encode c, (len_utf8_bounds c).1)

chars_within : (units : List ℕ) → length (utf16_chars units) ≤ length units
unfolding utf16_chars
chars_within [] = omega arith
chars_within (u ∷ []) = omega arith
chars_within (u ∷ v ∷ us) = by (is_high_surrogate u && is_low_surrogate v) (chars_within us) (chars_within (v ∷ us))
  where
    by : (t : Bool) → length (utf16_chars us) ≤ length us → length (utf16_chars (v ∷ us)) ≤ suc (length us)
        → length (if t then Some (surrogate_pair_char u v) ∷ utf16_chars us else lone_unit_char u ∷ utf16_chars (v ∷ us)) ≤ suc (suc (length us))
    by true pair lone = omega (arith, pair)
    by false pair lone = omega (arith, lone)

all_chars : (cs : List ℕ) → All (λ c. Unit {0}) cs
all_chars cs = All-from_get_or (λ c. Unit {0}) cs 0 (λ i less. tt)

units_within : (units : List ℕ) → length (shown_units units) ≤ 8 * length units
unfolding shown_units
units_within units =
    let cs : List ℕ = utf16_lossy_chars units in
    omega (
      arith,
      flat_within (λ c. Unit {0}) shown_char 8 (λ c any. char_within c) cs (all_chars cs),
      length-map (utf16_chars units) (λ o. unwrap_or o 0xFFFD),
      chars_within units,
    )

pub utf16_within : (bytes : List ℕ) → length (utf16_text bytes) ≤ 4 * length bytes
unfolding utf16_text
utf16_within bytes =
    let units : List ℕ = units_of_bytes bytes in
    omega (
      arith,
      units_within (until_nul units),
      length-take (position_or_len is_nul units) units,
      length-packed_items 2 (length bytes / 2) bytes,
    )

-- names of vendors
pick : (t : Bool) (one other : List ℕ) → length one ≤ 14 → length other ≤ 14 → length (if t then one else other) ≤ 14
pick true one other e f = e
pick false one other e f = f

pub vendor_within : (first second : ℕ) → length (vendor_name first second) ≤ 14
unfolding vendor_name
vendor_within first second =
    pick ((first == 0x11d2f9bee0c14753) && (second == 0x4dc13f2790000c9a)) (codes "VenPcAnsi()") _ (omega arith)
    (pick ((first == 0x11d3b419dfa66065) && (second == 0x4dc13f2790002d9a)) (codes "VenVt100()") _ (omega arith)
    (pick ((first == 0x4c7657e07baec70b) && (second == 0x438308289e2f878e)) (codes "VenVt100Plus()") _ (omega arith)
    (pick ((first == 0x4acf8becad15a0d6) && (second == 0x882d7ee71dd073a0)) (codes "VenUtf8()") _ (omega arith)
    (pick ((first == 0x41ec3858eba4e8d2) && (second == 0xd06096ba472681a2)) (codes "DebugPort()") [] (omega arith) (omega arith)))))
