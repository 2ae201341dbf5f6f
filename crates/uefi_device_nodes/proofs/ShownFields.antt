-- No text of a field holds a character that texts escape.
use Rattle.std.proofs.Common.{◌≡◌, ℕ, zero, suc, ◌+◌, ◌/◌, ◌%◌, ◌<◌, ◌==◌, ◌&&◌, Bool, true, false, if◌then◌else◌, List, [], ◌∷◌, ◌++◌, codes, length, take, drop, map, reverse, refl, ap, sym, ◌∙◌, arith}
use Rattle.std.proofs.lemmas.Bool.{and_parts}
use Rattle.std.specs.Prelude.{All, encode_utf8, nat_le, nat_lt, slice_range, Some}
use Rattle.std.specs.Char.{IsScalar}
use Rattle.std.specs.Char.Utf16.{is_high_surrogate, is_low_surrogate, lone_unit_char, surrogate_pair_char, utf16_chars, utf16_lossy_chars}
use Rattle.std.specs.Fmt.{decimal, digit_glyph, digits, digits_onto}
use Rattle.std.specs.List.{concat, flat_map, join_by, list_all, position_or_len}
use Rattle.std.specs.Option.{unwrap_or}
use Rattle.std.specs.Str.{IsUtf8, encode_utf8_all}
use Rattle.std.proofs.lemmas.Bool.Decides.{nat_tests}
use Rattle.std.proofs.lemmas.List.Elements.{All-append, All-cons, All-drop, All-head, All-nil, All-tail, All-take, All-weaker}
use Rattle.std.proofs.lemmas.List.{append-nil}
use Rattle.std.proofs.lemmas.List.Folds.{list_all-append}
use Rattle.std.proofs.lemmas.Str.{encode_ascii, encodes-append}
use Rattle.uefi_text.proofs.Texts.{scalars-All}
use Rattle.uefi_text.specs.Packed.{IsByte, little_endian, packed_items}
use Rattle.uefi_text.specs.UnitBytes.{units_of_bytes}
use Rattle.uefi_text.specs.Units.{is_nul}
use Rattle.uefi_device_nodes.specs.FieldTexts.{comma_bytes, dashed_back, eisa_bits, eisa_letter, eisa_text, hex, hex_back, hex_bytes, hex_four, hex_two, is_escaped, shown_byte, shown_bytes, shown_char, shown_units, until_nul, utf16_text, vendor_name}
use Rattle.uefi_device_nodes.specs.Guids.{guid_text}
use Rattle.uefi_device_nodes.specs.ShownFields.{IsShown, IsShownChar, is_printable}

-- texts of printable ASCII
abbrev pub ascii : List ℕ → Type 0
ascii text = list_all is_printable text ≡ true

joined : (front back : List ℕ) → ascii front → ascii back → ascii (front ++ back)
joined front back e f = list_all-append is_printable front back ∙ (λ i. e i && f i)

flat : {X : Type 0} (f : X → List ℕ) → ((x : X) → ascii (f x)) → (xs : List X) → ascii (flat_map f xs)
flat f each [] = refl
flat f each (x ∷ xs) = joined (f x) (flat_map f xs) (each x) (flat f each xs)

-- such texts hold nothing that is escaped
pub printable_char : (c : ℕ) → is_printable c ≡ true → IsShownChar c
printable_char c e =
    let p = and_parts (nat_le 0x20 c) (nat_lt c 0x7f) e in
    let scalar : IsScalar c = grind (arith, nat_tests, p.0, p.1) in
    let shown : is_escaped c ≡ false = grind (arith, nat_tests, p.0, p.1) in
    (scalar, shown)

pub printable_code : (c : ℕ) → is_printable c ≡ true → encode_utf8 c ≡ c ∷ []
printable_code c e =
    let p = and_parts (nat_le 0x20 c) (nat_lt c 0x7f) e in
    let small : c < 128 = grind (arith, nat_tests, p.0, p.1) in
    encode_ascii c small

pub ascii_shown : (text : List ℕ) → ascii text → IsShown text
ascii_shown [] e = ([], (All-nil IsShownChar, refl))
ascii_shown (c ∷ cs) e =
    let p = and_parts (is_printable c) (list_all is_printable cs) e in
    let others = ascii_shown cs p.1 in (
      c ∷ others.0,
      (
        All-cons IsShownChar c others.0 (printable_char c p.0) others.1.0,
        ap (λ (x : List ℕ). c ∷ x) others.1.1 ∙ ap (λ (x : List ℕ). x ++ encode_utf8_all others.0) (sym (printable_code c p.0)),
      ),
    )

pub joined_shown : (front back : List ℕ) → IsShown front → IsShown back → IsShown (front ++ back)
joined_shown front back f b = (
  f.0 ++ b.0,
  (
    All-append IsShownChar f.0 b.0 f.1.0 b.1.0,
    (λ i. f.1.1 i ++ b.1.1 i) ∙ sym (encodes-append f.0 b.0),
  ),
)

-- they are Rust texts
pub shown_utf8 : (text : List ℕ) → IsShown text → IsUtf8 text
shown_utf8 text is = (is.0, (scalars-All is.0 (All-weaker IsShownChar IsScalar (λ c one. one.0) is.0 is.1.0), sym is.1.1))

-- digits
glyph : (upper : Bool) (d : ℕ) → d < 16 → is_printable (digit_glyph true d) ≡ true
glyph upper d h = grind (arith, nat_tests, h)

low_glyph : (d : ℕ) → d < 10 → is_printable (digit_glyph false d) ≡ true
low_glyph d h = grind (arith, nat_tests, h)

onto : (base : ℕ) (upper : Bool) → ((n : ℕ) → is_printable (digit_glyph upper (n % base)) ≡ true)
    → (k n : ℕ) (after : List ℕ) → ascii after → ascii (digits_onto k base upper n after)
onto base upper each zero n after e = e
onto base upper each (suc k) n after e = by (n / base == 0) (λ m. onto base upper each k (n / base) m)
  where
    more : ascii (digit_glyph upper (n % base) ∷ after)
    more = (λ i. each n i && e i)

    by : (t : Bool) → ((m : List ℕ) → ascii m → ascii (digits_onto k base upper (n / base) m))
        → ascii (if t then digit_glyph upper (n % base) ∷ after else digits_onto k base upper (n / base) (digit_glyph upper (n % base) ∷ after))
    by true others = more
    by false others = others (digit_glyph upper (n % base) ∷ after) more

pub hex_ascii : (n : ℕ) → ascii (hex n)
unfolding digits
hex_ascii n = onto 16 true (λ m. glyph true (m % 16) (omega arith)) 64 n [] refl

pub decimal_ascii : (n : ℕ) → ascii (decimal n)
unfolding digits
decimal_ascii n = onto 10 false (λ m. low_glyph (m % 10) (omega arith)) 64 n [] refl

two_ascii : (byte : ℕ) → ascii (hex_two byte)
unfolding hex_two
two_ascii byte = joined (hex (byte / 16)) (hex (byte % 16)) (hex_ascii (byte / 16)) (hex_ascii (byte % 16))

four_ascii : (n : ℕ) → ascii (hex_four n)
unfolding hex_four
four_ascii n = joined (hex_two (n / 256)) (hex_two (n % 256)) (two_ascii (n / 256)) (two_ascii (n % 256))

bytes_ascii : (bytes : List ℕ) → ascii (hex_bytes bytes)
unfolding hex_bytes
bytes_ascii bytes = flat hex_two two_ascii bytes

back_ascii : (bytes : List ℕ) → ascii (hex_back bytes)
unfolding hex_back
back_ascii bytes = bytes_ascii (reverse bytes)

dashed_ascii : (bytes : List ℕ) → ascii (dashed_back bytes)
unfolding dashed_back
dashed_ascii bytes = by (reverse bytes)
  where
    by : (xs : List ℕ) → ascii (join_by hex_two (codes "-") xs)
    by [] = refl
    by (x ∷ xs) = joined (hex_two x) (flat_map (λ y. codes "-" ++ hex_two y) xs) (two_ascii x) (flat (λ y. codes "-" ++ hex_two y) (λ y. two_ascii y) xs)

comma_ascii : (bytes : List ℕ) → ascii (comma_bytes bytes)
unfolding comma_bytes
comma_ascii [] = refl
comma_ascii (byte ∷ bytes) = bytes_ascii (byte ∷ bytes)

byte_ascii : (byte : ℕ) → ascii (shown_byte byte)
unfolding shown_byte
byte_ascii byte = by (nat_le 0x20 byte && nat_lt byte 0x7f) refl
  where
    by : (t : Bool) → (nat_le 0x20 byte && nat_lt byte 0x7f) ≡ t → ascii (if t then encode_utf8 byte else codes "\\x" ++ hex_two byte)
    by true e = ap (list_all is_printable) (printable_code byte e) ∙ (λ i. e i && true)
    by false e = two_ascii byte

shown_ascii : (bytes : List ℕ) → ascii (shown_bytes bytes)
unfolding shown_bytes
shown_ascii bytes = flat shown_byte byte_ascii bytes

-- printable ASCII is printed as it is
pub printable_bytes : (run : List ℕ) → list_all is_printable run ≡ true → run ≡ shown_bytes run
unfolding shown_bytes shown_byte
printable_bytes [] e = refl
printable_bytes (byte ∷ run) e =
    let parts = and_parts (is_printable byte) (list_all is_printable run) e in
    (λ i. sym (printable_code byte parts.0) i ++ printable_bytes run parts.1 i)
    ∙ ap (λ (t : Bool). (if t then encode_utf8 byte else codes "\\x" ++ hex_two byte) ++ flat_map shown_byte run) (sym parts.0)

letter_ascii : (n : ℕ) → ascii (eisa_letter n)
unfolding eisa_letter
letter_ascii n =
    let low : n % 32 < 32 = omega arith in
    let is : is_printable (n % 32 + 64) ≡ true = grind (arith, nat_tests, low) in
    ap (list_all is_printable) (printable_code (n % 32 + 64) is) ∙ (λ i. is i && true)

eisa_ascii : (id : ℕ) → ascii (eisa_text id)
unfolding eisa_text
eisa_ascii id = by (eisa_bits id == 0)
  where
    by : (t : Bool) → ascii (if t then codes "0" else eisa_letter (id / 1024) ++ (eisa_letter (id / 32) ++ (eisa_letter id ++ hex_four (id / 65536))))
    by true = refl
    by false =
        joined (eisa_letter (id / 1024)) (eisa_letter (id / 32) ++ (eisa_letter id ++ hex_four (id / 65536))) (letter_ascii (id / 1024))
        (joined (eisa_letter (id / 32)) (eisa_letter id ++ hex_four (id / 65536)) (letter_ascii (id / 32))
        (joined (eisa_letter id) (hex_four (id / 65536)) (letter_ascii id) (four_ascii (id / 65536))))

pick : (t : Bool) (one other : List ℕ) → ascii one → ascii other → ascii (if t then one else other)
pick true one other e f = e
pick false one other e f = f

vendor_ascii : (first second : ℕ) → ascii (vendor_name first second)
unfolding vendor_name
vendor_ascii first second =
    pick ((first == 0x11d2f9bee0c14753) && (second == 0x4dc13f2790000c9a)) (codes "VenPcAnsi()") _ refl
    (pick ((first == 0x11d3b419dfa66065) && (second == 0x4dc13f2790002d9a)) (codes "VenVt100()") _ refl
    (pick ((first == 0x4c7657e07baec70b) && (second == 0x438308289e2f878e)) (codes "VenVt100Plus()") _ refl
    (pick ((first == 0x4acf8becad15a0d6) && (second == 0x882d7ee71dd073a0)) (codes "VenUtf8()") _ refl
    (pick ((first == 0x41ec3858eba4e8d2) && (second == 0xd06096ba472681a2)) (codes "DebugPort()") [] refl refl))))

-- code units
char_shown : (c : ℕ) → IsScalar c → IsShown (shown_char c)
unfolding shown_char
char_shown c scalar = by (is_escaped c) refl
  where
    by : (t : Bool) → is_escaped c ≡ t → IsShown (if t then concat (codes "\\u{" ∷ hex c ∷ codes "}" ∷ []) else encode_utf8 c)
    by true e = ascii_shown (codes "\\u{" ++ (hex c ++ (codes "}" ++ []))) (joined (hex c) (codes "}" ++ []) (hex_ascii c) refl)
    by false e = (c ∷ [], (All-cons IsShownChar c [] (scalar, e) (All-nil IsShownChar), sym (append-nil (encode_utf8 c))))

chars_shown : (cs : List ℕ) → All IsScalar cs → IsShown (flat_map shown_char cs)
chars_shown [] each = ascii_shown [] refl
chars_shown (c ∷ cs) each = joined_shown (shown_char c) (flat_map shown_char cs) (char_shown c (All-head IsScalar c cs each)) (chars_shown cs (All-tail IsScalar c cs each))

-- the characters of units are scalars
abbrev IsUnit : ℕ → Type 0
IsUnit u = u < 65536

lone_scalar : (u : ℕ) → IsUnit u → IsScalar (unwrap_or (lone_unit_char u) 0xFFFD)
lone_scalar u h = grind (arith, nat_tests, h)

pair_scalar : (u v : ℕ) → is_high_surrogate u && is_low_surrogate v ≡ true → IsScalar (surrogate_pair_char u v)
pair_scalar u v e =
    let p = and_parts (is_high_surrogate u) (is_low_surrogate v) e in
    grind (arith, nat_tests, p.0, p.1)

lossy_scalars : (us : List ℕ) → All IsUnit us → All IsScalar (utf16_lossy_chars us)
unfolding utf16_chars
lossy_scalars [] h = All-nil IsScalar
lossy_scalars (u ∷ []) h = All-cons IsScalar _ [] (lone_scalar u (All-head IsUnit u [] h)) (All-nil IsScalar)
lossy_scalars (u ∷ v ∷ us) h =
    let rest = All-tail IsUnit u (v ∷ us) h in
    by (is_high_surrogate u && is_low_surrogate v) refl (lossy_scalars us (All-tail IsUnit v us rest)) (lossy_scalars (v ∷ us) rest)
  where
    by : (t : Bool) → (is_high_surrogate u && is_low_surrogate v) ≡ t → All IsScalar (utf16_lossy_chars us) → All IsScalar (utf16_lossy_chars (v ∷ us))
        → All IsScalar (map (λ o. unwrap_or o 0xFFFD) (if t then Some (surrogate_pair_char u v) ∷ utf16_chars us else lone_unit_char u ∷ utf16_chars (v ∷ us)))
    by true e after others = All-cons IsScalar _ _ (pair_scalar u v e) after
    by false e after others = All-cons IsScalar _ _ (lone_scalar u (All-head IsUnit u (v ∷ us) h)) others

unit : (bytes : List ℕ) → All IsByte bytes → IsUnit (little_endian (take 2 bytes))
unit [] h = omega arith
unit (a ∷ []) h = omega (arith, All-head IsByte a [] h)
unit (a ∷ b ∷ bytes) h = omega (arith, All-head IsByte a (b ∷ bytes) h, All-head IsByte b bytes (All-tail IsByte a (b ∷ bytes) h))

units : (count : ℕ) (bytes : List ℕ) → All IsByte bytes → All IsUnit (packed_items 2 count bytes)
units zero bytes h = All-nil IsUnit
units (suc count) bytes h =
    All-cons IsUnit (little_endian (take 2 bytes)) (packed_items 2 count (drop 2 bytes)) (unit bytes h) (units count (drop 2 bytes) (All-drop IsByte 2 bytes h))

pub units_shown : (bytes : List ℕ) → All IsByte bytes → IsShown (utf16_text bytes)
unfolding utf16_text shown_units
units_shown bytes h =
    let us : List ℕ = units_of_bytes bytes in
    let all : All IsUnit us = units (length bytes / 2) bytes h in
    chars_shown (utf16_lossy_chars (until_nul us)) (lossy_scalars (until_nul us) (All-take IsUnit (position_or_len is_nul us) us all))

-- all of them
pub numbers_shown : (n : ℕ) → IsShown (hex n) × IsShown (decimal n)
numbers_shown n = (ascii_shown (hex n) (hex_ascii n), ascii_shown (decimal n) (decimal_ascii n))

pub bytes_shown : (bytes : List ℕ) → IsShown (hex_bytes bytes) × IsShown (hex_back bytes) × IsShown (dashed_back bytes)
    × IsShown (comma_bytes bytes) × IsShown (shown_bytes bytes)
bytes_shown bytes = (
  ascii_shown (hex_bytes bytes) (bytes_ascii bytes),
  ascii_shown (hex_back bytes) (back_ascii bytes),
  ascii_shown (dashed_back bytes) (dashed_ascii bytes),
  ascii_shown (comma_bytes bytes) (comma_ascii bytes),
  ascii_shown (shown_bytes bytes) (shown_ascii bytes),
)

pub names_shown : (n other : ℕ) → IsShown (eisa_text n) × IsShown (vendor_name n other)
names_shown n other = (
  ascii_shown (eisa_text n) (eisa_ascii n),
  ascii_shown (vendor_name n other) (vendor_ascii n other),
)

-- a dash, a part of a GUID and what follows are printable
dash_more : (part back : List ℕ) → ascii part → ascii back → ascii (codes "-" ++ (part ++ back))
dash_more part back part_is back_is = joined (codes "-") (part ++ back) refl (joined part back part_is back_is)

pub guid_shown : (bytes : List ℕ) → IsShown (guid_text bytes)
unfolding guid_text
guid_shown bytes =
    let first = slice_range bytes 0 4 in
    let second = slice_range bytes 4 6 in
    let third = slice_range bytes 6 8 in
    let fourth = slice_range bytes 8 10 in
    let fifth = slice_range bytes 10 16 in
    let last = codes "-" ++ hex_bytes fifth in
    let last_is : ascii last = joined (codes "-") (hex_bytes fifth) refl (bytes_ascii fifth) in
    let fourth_is = dash_more (hex_bytes fourth) last (bytes_ascii fourth) last_is in
    let third_is = dash_more (hex_back third) (codes "-" ++ (hex_bytes fourth ++ last)) (back_ascii third) fourth_is in
    let back = codes "-" ++ (hex_back third ++ (codes "-" ++ (hex_bytes fourth ++ last))) in
    let second_is = dash_more (hex_back second) back (back_ascii second) third_is in
    ascii_shown (hex_back first ++ (codes "-" ++ (hex_back second ++ back)))
    (joined (hex_back first) (codes "-" ++ (hex_back second ++ back)) (back_ascii first) second_is)
