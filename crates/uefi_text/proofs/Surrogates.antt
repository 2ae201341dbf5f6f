-- The first character of units in UTF-16.
use Rattle.std.proofs.Common.{All, ◌≡◌, ℕ, ◌≤◌, ◌<◌, ◌+◌, ◌&&◌, ◌^◌, false, true, None, Option, Some, List, [], ◌∷◌, length, drop, get_or, slice_index, ap, refl, sym, ◌∙◌, arith, add-one, add-zero}
use Rattle.std.proofs.lemmas.Bool.Decides.{nat_tests}
use Rattle.std.proofs.lemmas.Grind.{common_steps}
use Rattle.std.proofs.lemmas.List.{drop_all, get_or-drop}
use Rattle.std.proofs.lemmas.List.Elements.{All-from_get_or, All-head, All-tail, All-weaker}
use Rattle.std.proofs.lemmas.Str.{encodes-IsAscii, utf16_chars-nil}
use Rattle.std.proofs.Math.Seq.{drop-cons}
use Rattle.std.specs.Char.Utf16.{is_high_surrogate, is_low_surrogate, lone_unit_char, surrogate_pair_char, utf16_chars, utf16_lossy_chars}
use Rattle.std.specs.Option.{is_some, unwrap_or}
use Rattle.std.specs.Str.{IsAscii, encode_utf8_all}
use Rattle.uefi_text.specs.Units.{IsChar16, IsText, IsTextUnit, deciding_place}
use Rattle.uefi_text.proofs.Deciding.{IsText-none}

-- the unit at a place, and those after it
cut : (us : List ℕ) (i : ℕ) → i < length us → drop i us ≡ slice_index us i ∷ drop (i + 1) us
cut us i within = drop-cons us i 0 within ∙ ap (λ (k : ℕ). slice_index us i ∷ drop k us) (sym (add-one i))

pub lone_first : (u : ℕ) (us : List ℕ) → (is_high_surrogate u && is_low_surrogate (slice_index us 0)) ≡ false
    → utf16_lossy_chars (u ∷ us) ≡ unwrap_or (lone_unit_char u) 0xFFFD ∷ utf16_lossy_chars us
unfolding utf16_chars
lone_first u [] h = refl
lone_first u (v ∷ us) h = rw h refl

pub pair_first : (u v : ℕ) (us : List ℕ) → (is_high_surrogate u && is_low_surrogate v) ≡ true
    → utf16_lossy_chars (u ∷ v ∷ us) ≡ surrogate_pair_char u v ∷ utf16_lossy_chars us
unfolding utf16_chars
pair_first u v us h = rw h refl

-- a unit in no pair
pub lone_at : (us : List ℕ) (i : ℕ) → i < length us
    → (is_high_surrogate (slice_index us i) && is_low_surrogate (slice_index us (i + 1))) ≡ false
    → utf16_lossy_chars (drop i us) ≡ unwrap_or (lone_unit_char (slice_index us i)) 0xFFFD ∷ utf16_lossy_chars (drop (i + 1) us)
lone_at us i within h =
    let next : slice_index (drop (i + 1) us) 0 ≡ slice_index us (i + 1) =
    get_or-drop (i + 1) us 0 0 ∙ ap (λ (k : ℕ). slice_index us k) (add-zero (i + 1)) in
    ap utf16_lossy_chars (cut us i within)
    ∙ lone_first (slice_index us i) (drop (i + 1) us) (ap (λ (v : ℕ). is_high_surrogate (slice_index us i) && is_low_surrogate v) next ∙ h)

-- two surrogates
pub pair_at : (us : List ℕ) (i : ℕ) → i + 2 ≤ length us
    → (is_high_surrogate (slice_index us i) && is_low_surrogate (slice_index us (i + 1))) ≡ true
    → utf16_lossy_chars (drop i us) ≡ surrogate_pair_char (slice_index us i) (slice_index us (i + 1)) ∷ utf16_lossy_chars (drop (i + 2) us)
pair_at us i within h =
    let two : i + 1 + 1 ≡ i + 2 = omega arith in
    ap utf16_lossy_chars (cut us i (omega arith) ∙ ap (λ (vs : List ℕ). slice_index us i ∷ vs) (cut us (i + 1) (omega arith)))
    ∙ pair_first (slice_index us i) (slice_index us (i + 1)) (drop (i + 1 + 1) us) h
    ∙ ap (λ (k : ℕ). surrogate_pair_char (slice_index us i) (slice_index us (i + 1)) ∷ utf16_lossy_chars (drop k us)) two

-- the characters of a text are its units, and so are those of ASCII
lossy_plain : (us : List ℕ) → All IsChar16 us → utf16_lossy_chars us ≡ us
lossy_plain [] are = grind (arith, common_steps, utf16_chars-nil)
lossy_plain (u ∷ us) are =
    let rest = lossy_plain us (All-tail IsChar16 u us are) in
    let is = All-head IsChar16 u us are in
    grind (arith, nat_tests, lone_first u us, rest, is)

pub lossy_text : (us : List ℕ) → IsText us → utf16_lossy_chars us ≡ us
lossy_text us is = lossy_plain us (All-weaker IsTextUnit IsChar16 (λ u is. is.1) us is)

-- units of which none decides are a text
pub lossy_undecided : (us : List ℕ) (place : Option ℕ) → ((k : ℕ) → get_or us k 0 < 2 ^ 16) → place ≡ deciding_place us → is_some place ≡ false
    → utf16_lossy_chars us ≡ us
lossy_undecided us None small found none = lossy_text us (IsText-none us small (sym found))
lossy_undecided us (Some i) small found none = cc

pub lossy_ascii : (us : List ℕ) → IsAscii us → encode_utf8_all (utf16_lossy_chars us) ≡ us
lossy_ascii us are =
    let plain = All-from_get_or IsChar16 us 0 (λ i within. (omega (arith, are i), λ is. omega (arith, are i, is))) in
    ap encode_utf8_all (lossy_plain us plain) ∙ encodes-IsAscii us are

-- no unit is left
pub none_left : (units : List ℕ) (place : ℕ) → length units ≤ place → encode_utf8_all (utf16_lossy_chars (drop place units)) ≡ []
none_left units place end = ap (λ (us : List ℕ). encode_utf8_all (utf16_lossy_chars us)) (drop_all place units end) ∙ nothing
  where
    nothing : encode_utf8_all (utf16_lossy_chars []) ≡ []
    nothing = grind (arith, common_steps, utf16_chars-nil)
