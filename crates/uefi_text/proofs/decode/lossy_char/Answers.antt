-- The character is that of a pair, or of one unit.
use Rattle.std.proofs.Common.{◌≡◌, ◌&&◌, ◌+◌, ◌∷◌, ◌≤◌, List, ℕ, length, drop, false, true, inl, inr, slice_index, ap, sym, ◌∙◌, arith}
use Rattle.std.proofs.Math.ListN.{get_or-eq_default}
use Rattle.std.proofs.lemmas.Bool.{and_parts, cases_lt}
use Rattle.std.proofs.lemmas.Bool.Decides.{nat_tests}
use Rattle.std.specs.Char.Utf16.{is_high_surrogate, is_low_surrogate, lone_unit_char, surrogate_pair_char, utf16_lossy_chars}
use Rattle.std.specs.Option.{unwrap_or}
use Rattle.uefi_text.proofs.Surrogates.{lone_at, pair_at}
use Rattle.uefi_text.proofs.decode.lossy_char.Goals as goal

-- a unit after which a low surrogate stands is not the last
not_last : (units : List ℕ) (place next : ℕ) → slice_index units (place + 1) ≡ next → is_low_surrogate next ≡ true
    → place + 2 ≤ length units
not_last units place next is low = elim (cases_lt (place + 1) (length units)) [
  | inl within ↦ omega (arith, within)
  | inr last ↦
      let none : next ≡ 0 = sym is ∙ get_or-eq_default units 0 {n = place + 1} (omega (arith, last)) in
      absurd (grind (arith, nat_tests, none, low))
]

pub returns-then-is_pair-clause-within : goal.returns-then-is_pair-clause-within
returns-then-is_pair-clause-within c = λ units place within is.
    let both = sym c.is_pair.ensures ∙ c.if-is_pair.true in
    not_last units place c.args.next is (and_parts (is_high_surrogate c.args.unit) (is_low_surrogate c.args.next) both).1

pub returns-then-is_pair-clause-first : goal.returns-then-is_pair-clause-first
returns-then-is_pair-clause-first c = λ units place within is_unit is_next.
    let both = sym c.is_pair.ensures ∙ c.if-is_pair.true in
    let room = not_last units place c.args.next is_next (and_parts (is_high_surrogate c.args.unit) (is_low_surrogate c.args.next) both).1 in
    let pair : (is_high_surrogate (slice_index units place) && is_low_surrogate (slice_index units (place + 1))) ≡ true =
    rw (is_unit, is_next) both in
    let here : surrogate_pair_char (slice_index units place) (slice_index units (place + 1)) ≡ c.pair_char.result =
    rw (is_unit, is_next) (sym c.pair_char.ensures) in
    pair_at units place room pair ∙ ap (λ (character : ℕ). character ∷ utf16_lossy_chars (drop (place + 2) units)) here

pub returns-clause-first : goal.returns-clause-first
returns-clause-first c = λ units place within is_unit is_next.
    let none : (is_high_surrogate (slice_index units place) && is_low_surrogate (slice_index units (place + 1))) ≡ false =
    rw (is_unit, is_next) (sym c.is_pair.ensures ∙ c.if-is_pair.false) in
    lone_at units place within none
    ∙ ap (λ (character : ℕ). character ∷ utf16_lossy_chars (drop (place + 1) units))
    (ap (λ (u : ℕ). unwrap_or (lone_unit_char u) 0xFFFD) is_unit ∙ sym c.lone_char.ensures)
