-- The text of a GUID, byte by byte.
use Rattle.std.proofs.Common.{◌≡◌, ◌≢◌, ◌∙◌, ◌==◌, Bool, false, slice_set, true≢false, ap, sym, refl, subst, ℕ, ◌+◌, ◌/◌, ◌%◌, ◌<◌, true, List, [], ◌∷◌, length, map, slice_index, arith}
use Rattle.std.proofs.lemmas.Bool.{eq-eqb, eqb-true}
use Rattle.std.proofs.lemmas.Bool.Decides.{nat_tests}
use Rattle.std.proofs.lemmas.List.Elements.{All-from_get_or}
use Rattle.std.proofs.lemmas.List.FromFn.{fill_by_all, get_or-map-range_with_len}
use Rattle.std.proofs.lemmas.List.{get_or-map, get_or-set_other, get_or-set_same, length-map}
use Rattle.std.specs.Char.{to_ascii_uppercase}
use Rattle.std.specs.Fmt.{digit_glyph}
use Rattle.std.specs.List.{range_with_len}
use Rattle.uefi_text.specs.Packed.{IsByte}
use Rattle.uefi_device_nodes.specs.FieldTexts.{hex_back, hex_bytes, hex_two}
use Rattle.uefi_device_nodes.specs.Guids.{HasBytes, IsDashed, IsGuid, IsGuidText, StandsAt, digit_places, guid_text}
use Rattle.uefi_text.proofs.Numerals.{digits_last}

-- the two digits of a byte
pub two_digits : (byte : ℕ) → byte < 256 → hex_two byte ≡ digit_glyph true (byte / 16) ∷ digit_glyph true (byte % 16) ∷ []
unfolding hex_two
two_digits byte small =
    let high = digits_last 16 true (omega arith) (byte / 16) (omega arith) in
    let low = digits_last 16 true (omega arith) (byte % 16) (omega arith) in
    rw (high, low) refl

same_glyph : (n m : ℕ) → n < 16 → m < 16 → digit_glyph true n ≡ digit_glyph true m → n ≡ m
same_glyph n m n_small m_small e = grind (arith, nat_tests)

same_byte : (byte other : ℕ) → byte < 256 → other < 256 → digit_glyph true (byte / 16) ≡ digit_glyph true (other / 16)
    → digit_glyph true (byte % 16) ≡ digit_glyph true (other % 16) → byte ≡ other
same_byte byte other small small_too high low =
    let highs = same_glyph (byte / 16) (other / 16) (omega arith) (omega arith) high in
    let lows = same_glyph (byte % 16) (other % 16) (omega arith) (omega arith) low in
    omega (arith, highs, lows)

-- the numbers that a function gives, and those of a list
abbrev pub listed : (ℕ → ℕ) → ℕ → List ℕ
listed f n = map f (range_with_len 0 n)

pub listed_as : (xs : List ℕ) (n : ℕ) → length xs ≡ n → xs ≡ listed (λ k. slice_index xs k) n
listed_as xs n long = fill_by_all (λ k. slice_index xs k) xs n 0 long (λ k less. refl)

same_at : (f g : ℕ → ℕ) (n k : ℕ) → listed f n ≡ listed g n → k < n → f k ≡ g k
same_at f g n k e less =
    sym (get_or-map-range_with_len f 0 n k k 0 less (omega arith)) ∙ ap (λ (xs : List ℕ). slice_index xs k) e
    ∙ get_or-map-range_with_len g 0 n k k 0 less (omega arith)

-- two units for each byte, in the order of the text of a GUID, and what stands between its parts
abbrev pairs : (ℕ → ℕ) → (ℕ → ℕ) → ℕ → ℕ → ℕ → ℕ → List ℕ
pairs u v a b c d = u 3 ∷ v 3 ∷ u 2 ∷ v 2 ∷ u 1 ∷ v 1 ∷ u 0 ∷ v 0 ∷ a ∷ u 5 ∷ v 5 ∷ u 4 ∷ v 4 ∷ b
    ∷ u 7 ∷ v 7 ∷ u 6 ∷ v 6 ∷ c ∷ u 8 ∷ v 8 ∷ u 9 ∷ v 9 ∷ d ∷ u 10 ∷ v 10 ∷ u 11 ∷ v 11 ∷ u 12 ∷ v 12
    ∷ u 13 ∷ v 13 ∷ u 14 ∷ v 14 ∷ u 15 ∷ v 15 ∷ []

abbrev dashed : (ℕ → ℕ) → (ℕ → ℕ) → List ℕ
dashed u v = pairs u v 45 45 45 45

-- where in it those of each byte stand
place_within : (k : ℕ) → k < 16 → slice_index digit_places k < 35
place_within k less =
    let none = same_at (λ k. slice_index digit_places k / 35) (λ k. 0) 16 k refl less in omega (arith, none)

high_at : (u v : ℕ → ℕ) (k : ℕ) → k < 16 → slice_index (dashed u v) (slice_index digit_places k) ≡ u k
high_at u v k = same_at (λ k. slice_index (dashed u v) (slice_index digit_places k)) u 16 k refl

low_at : (u v : ℕ → ℕ) (k : ℕ) → k < 16 → slice_index (dashed u v) (slice_index digit_places k + 1) ≡ v k
low_at u v k = same_at (λ k. slice_index (dashed u v) (slice_index digit_places k + 1)) v 16 k refl

-- the text of bytes that have these digits
written : (b u v : ℕ → ℕ) → ((k : ℕ) → k < 16 → hex_two (b k) ≡ u k ∷ v k ∷ []) → guid_text (listed b 16) ≡ dashed u v
unfolding guid_text hex_back hex_bytes
written b u v digits = rw (
  digits 0 (omega arith),
  digits 1 (omega arith),
  digits 2 (omega arith),
  digits 3 (omega arith),
  digits 4 (omega arith),
  digits 5 (omega arith),
  digits 6 (omega arith),
  digits 7 (omega arith),
  digits 8 (omega arith),
  digits 9 (omega arith),
  digits 10 (omega arith),
  digits 11 (omega arith),
  digits 12 (omega arith),
  digits 13 (omega arith),
  digits 14 (omega arith),
  digits 15 (omega arith),
) refl

-- the digits of each byte
abbrev high_of : List ℕ → ℕ → ℕ
high_of bytes k = digit_glyph true (slice_index bytes k / 16)

abbrev low_of : List ℕ → ℕ → ℕ
low_of bytes k = digit_glyph true (slice_index bytes k % 16)

abbrev glyphs_of : List ℕ → List ℕ
glyphs_of bytes = dashed (high_of bytes) (low_of bytes)

pub small_at : (bytes : List ℕ) → IsGuid bytes → (k : ℕ) → k < 16 → slice_index bytes k < 256
small_at bytes is k within = is.1 k 0 (omega (arith, is.0))

guid_glyphs : (bytes : List ℕ) → IsGuid bytes → guid_text bytes ≡ glyphs_of bytes
guid_glyphs bytes is =
    ap guid_text (listed_as bytes 16 is.0)
    ∙ written (λ k. slice_index bytes k) (high_of bytes) (low_of bytes) (λ k less. two_digits (slice_index bytes k) (small_at bytes is k less))

pub has_text : (text bytes : List ℕ) → IsDashed text → length bytes ≡ 16 → HasBytes text bytes → IsGuidText text bytes
has_text text bytes dashes long has =
    let u = λ (k : ℕ). to_ascii_uppercase (slice_index text (slice_index digit_places k)) in
    let v = λ (k : ℕ). to_ascii_uppercase (slice_index text (slice_index digit_places k + 1)) in
    ap (map to_ascii_uppercase) (listed_as text 36 dashes.whole)
    ∙ (λ i. pairs u v (to_ascii_uppercase (dashes.first i)) (to_ascii_uppercase (dashes.second i))
    (to_ascii_uppercase (dashes.third i)) (to_ascii_uppercase (dashes.fourth i)))
    ∙ sym (written (λ k. slice_index bytes k) u v has) ∙ ap guid_text (sym (listed_as bytes 16 long))

-- a byte that is a dash in upper case is one
dash_back : (c : ℕ) → to_ascii_uppercase c ≡ 45 → c ≡ 45
dash_back c e = grind (arith, nat_tests)

-- the text of a GUID has them
text_long : (text bytes : List ℕ) → IsGuid bytes → IsGuidText text bytes → length text ≡ 36
text_long text bytes is e = sym (length-map text to_ascii_uppercase) ∙ ap length (e ∙ guid_glyphs bytes is)

upper_at : (text bytes : List ℕ) → IsGuid bytes → IsGuidText text bytes → (n : ℕ) → n < 36
    → to_ascii_uppercase (slice_index text n) ≡ slice_index (glyphs_of bytes) n
upper_at text bytes is e n less =
    sym (get_or-map to_ascii_uppercase text n 0 0 (omega (arith, text_long text bytes is e, less)))
    ∙ ap (λ (xs : List ℕ). slice_index xs n) (e ∙ guid_glyphs bytes is)

pub text_dashed : (text bytes : List ℕ) → IsGuid bytes → IsGuidText text bytes → IsDashed text
text_dashed text bytes is e =
    let at = upper_at text bytes is e in
    record {
      whole = text_long text bytes is e;
      first = dash_back (slice_index text 8) (at 8 (omega arith));
      second = dash_back (slice_index text 13) (at 13 (omega arith));
      third = dash_back (slice_index text 18) (at 18 (omega arith));
      fourth = dash_back (slice_index text 23) (at 23 (omega arith));
    }

pub text_has : (text bytes : List ℕ) → IsGuid bytes → IsGuidText text bytes → HasBytes text bytes
text_has text bytes is e k within =
    let place = slice_index digit_places k in
    let inside = place_within k within in
    let high = upper_at text bytes is e place (omega (arith, inside)) ∙ high_at (high_of bytes) (low_of bytes) k within in
    let low = upper_at text bytes is e (place + 1) (omega (arith, inside)) ∙ low_at (high_of bytes) (low_of bytes) k within in
    two_digits (slice_index bytes k) (small_at bytes is k within) ∙ (λ i. sym high i ∷ sym low i ∷ [])

-- no two GUIDs have the same text
pub guid_once : (bytes others : List ℕ) → IsGuid bytes → IsGuid others → guid_text bytes ≡ guid_text others → bytes ≡ others
guid_once bytes others is are e =
    let texts = sym (guid_glyphs bytes is) ∙ e ∙ guid_glyphs others are in
    let same : (k : ℕ) → k < 16 → slice_index bytes k ≡ slice_index others k = λ k within.
    let place = slice_index digit_places k in
    same_byte (slice_index bytes k) (slice_index others k) (small_at bytes is k within) (small_at others are k within)
    (sym (high_at (high_of bytes) (low_of bytes) k within) ∙ ap (λ (xs : List ℕ). slice_index xs place) texts
    ∙ high_at (high_of others) (low_of others) k within)
    (sym (low_at (high_of bytes) (low_of bytes) k within) ∙ ap (λ (xs : List ℕ). slice_index xs (place + 1)) texts
    ∙ low_at (high_of others) (low_of others) k within) in
    fill_by_all (λ k. slice_index others k) bytes 16 0 is.0 same ∙ sym (listed_as others 16 are.0)

-- one byte more that has its digits in the text
pub bytes_more : (text bytes : List ℕ) (place byte : ℕ) → place < length bytes
    → ((k : ℕ) → k < place → StandsAt text (slice_index digit_places k) (slice_index bytes k))
    → StandsAt text (slice_index digit_places place) byte
    → (k : ℕ) → k < place + 1 → StandsAt text (slice_index digit_places k) (slice_index (slice_set bytes place byte) k)
bytes_more text bytes place byte within before here k below = by (k == place) refl
  where
    by : (b : Bool) → (k == place) ≡ b → StandsAt text (slice_index digit_places k) (slice_index (slice_set bytes place byte) k)
    by true e =
        let same : k ≡ place = eqb-true k place e in
        let new : slice_index (slice_set bytes place byte) place ≡ byte = get_or-set_same bytes place byte 0 within in
        subst (λ n. StandsAt text (slice_index digit_places n) (slice_index (slice_set bytes place byte) n)) (sym same)
        (subst (λ b. StandsAt text (slice_index digit_places place) b) (sym new) here)
    by false e =
        let other : k ≢ place = λ same. true≢false (sym (eq-eqb k place same) ∙ e) in
        let old : slice_index (slice_set bytes place byte) k ≡ slice_index bytes k = get_or-set_other bytes place k byte 0 other in
        subst (λ b. StandsAt text (slice_index digit_places k) b) (sym old) (before k (omega (arith, below, other)))

glyph_upper : (n : ℕ) → n < 16 → to_ascii_uppercase (digit_glyph true n) ≡ digit_glyph true n
glyph_upper n small = grind (arith, nat_tests)

high_upper : (byte : ℕ) → byte < 256 → to_ascii_uppercase (digit_glyph true (byte / 16)) ≡ digit_glyph true (byte / 16)
high_upper byte small = glyph_upper (byte / 16) (omega arith)

low_upper : (byte : ℕ) → to_ascii_uppercase (digit_glyph true (byte % 16)) ≡ digit_glyph true (byte % 16)
low_upper byte = glyph_upper (byte % 16) (omega arith)

-- the text of a GUID is in upper case
pub text_upper : (bytes : List ℕ) → IsGuid bytes → IsGuidText (guid_text bytes) bytes
text_upper bytes is =
    let at = λ (n : ℕ). ap (λ (xs : List ℕ). slice_index xs n) (guid_glyphs bytes is) in
    has_text (guid_text bytes) bytes
    (record { whole = ap length (guid_glyphs bytes is); first = at 8; second = at 13; third = at 18; fourth = at 23 }) is.0 (λ k within.
    let place = slice_index digit_places k in
    let byte = slice_index bytes k in
    let small = small_at bytes is k within in
    let high = ap to_ascii_uppercase (at place ∙ high_at (high_of bytes) (low_of bytes) k within) ∙ high_upper byte small in
    let low = ap to_ascii_uppercase (at (place + 1) ∙ low_at (high_of bytes) (low_of bytes) k within) ∙ low_upper byte in
    two_digits byte small ∙ (λ i. sym high i ∷ sym low i ∷ []))

-- and it is below 256, as the others
pub small_more : (bytes : List ℕ) (place byte : ℕ) → place < length bytes → ((k : ℕ) → slice_index bytes k < 256) → byte < 256
    → (k : ℕ) → slice_index (slice_set bytes place byte) k < 256
small_more bytes place byte within before small k = by (k == place) refl
  where
    by : (b : Bool) → (k == place) ≡ b → slice_index (slice_set bytes place byte) k < 256
    by true e =
        let same : k ≡ place = eqb-true k place e in
        let new : slice_index (slice_set bytes place byte) k ≡ byte = ap (slice_index (slice_set
        bytes place byte)) same ∙ get_or-set_same bytes place byte 0 within in
        omega (arith, new, small)
    by false e =
        let other : k ≢ place = λ same. true≢false (sym (eq-eqb k place same) ∙ e) in
        let old : slice_index (slice_set bytes place byte) k ≡ slice_index bytes k = get_or-set_other bytes place k byte 0 other in
        omega (arith, old, before k)

pub guid_of : (bytes : List ℕ) → length bytes ≡ 16 → ((k : ℕ) → slice_index bytes k < 256) → IsGuid bytes
guid_of bytes long small = (long, All-from_get_or IsByte bytes 0 (λ k within. small k))
