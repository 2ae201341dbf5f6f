-- What the first part of a pattern does with a unit.
use Rattle.std.proofs.Common.{inl, inr, ◌⊎◌, ◌≡◌, ◌≢◌, ◌∙◌, ◌+◌, ◌<◌, ℕ, suc, List, [], ◌∷◌, ◌++◌, ap, sym, subst, refl, take, drop, length, arith, Some, None, position}
use Rattle.std.specs.List.{position_or_len}
use Rattle.std.proofs.lemmas.Bool.{cases_Bool}
use Rattle.std.proofs.lemmas.Grind.{common_steps}
use Rattle.std.proofs.lemmas.List.{drop-drop}
use Rattle.uefi_text.specs.Case.{upper}
use Rattle.uefi_text.specs.Patterns.{HasNoEnd, IsInSet, Matches, Nothing, Any, One, OneOf, Itself}
use Rattle.uefi_text.specs.PatternParts.{Refuses, TakesOne, OneThen, is_right_bracket}
use Rattle.uefi_text.proofs.PatternCuts.{CutOne, apart, one_cut, one_of_cut, open_set, same_cut}

record Found (units : List ℕ) (end : ℕ) : Type 0 where
  inside : end < length units
  none : HasNoEnd (take end units)
  whole : units ≡ take end units ++ 93 ∷ drop (end + 1) units

found_later : (c : ℕ) (cs : List ℕ) (end : ℕ) → c ≢ 93 → Found cs end → Found (c ∷ cs) (suc end)
found_later c cs end other found =
    let after : suc (end + 1) ≡ suc end + 1 = omega arith in
    let inside : end < length cs = found.inside in
    record {
      inside = omega arith;
      none = (other, found.none);
      whole = ap (λ us. c ∷ us) found.whole ∙ ap (λ k. (c ∷ take end cs) ++ 93 ∷ drop k (c ∷ cs)) after;
    }

found_or_not : (units : List ℕ) → Found units (position_or_len is_right_bracket units) ⊎ (HasNoEnd units × (position_or_len is_right_bracket units ≡ length units))
found_or_not [] = inr (tt, refl)
found_or_not (c ∷ cs) = elim (cases_Bool (is_right_bracket c)) [
  | inl ends ↦
      let is : c ≡ 93 = grind (arith, common_steps) in
      let at : position_or_len is_right_bracket (c ∷ cs) ≡ 0 = grind (arith, common_steps) in
      inl (subst (Found (c ∷ cs)) (sym at) (record { inside = omega arith; none = tt; whole = ap (λ x. x ∷ cs) is }))
  | inr other ↦
      let is : c ≢ 93 = λ e. grind (arith, common_steps) in
      let at : position_or_len is_right_bracket (c ∷ cs) ≡ suc (position_or_len is_right_bracket cs) = grind (arith, common_steps) in
      elim (found_or_not cs) [
        | inl found ↦ inl (subst (Found (c ∷ cs)) (sym at) (found_later c cs (position_or_len is_right_bracket cs) is found))
        | inr none ↦ inr ((is, none.0), omega (arith, at, none.1))
      ]
]

no_end : (units : List ℕ) → None ≡ position is_right_bracket units → HasNoEnd units
no_end units none = elim (found_or_not units) [
  | inl found ↦ let inside = found.inside in grind (arith, common_steps)
  | inr nowhere ↦ nowhere.0
]

found_end : (units : List ℕ) (end : ℕ) → Some end ≡ position is_right_bracket units → Found units end
found_end units end some = elim (found_or_not units) [
  | inl found ↦ let inside = found.inside in let is : position_or_len is_right_bracket units ≡ end = grind (arith, common_steps) in subst (Found units) is found
  | inr nowhere ↦ let past = nowhere.1 in absurd (grind (arith, common_steps))
]

as_one : {takes : ℕ → Type 0} {rest text : List ℕ} → CutOne takes rest text → OneThen rest text
as_one cut = record { first = cut.first; back = cut.back; whole = cut.whole; goes_on = cut.goes_on }

refuses_by : (takes : ℕ → Type 0) (pattern rest : List ℕ) (unit : ℕ) → ((text : List ℕ) → Matches pattern text → CutOne takes rest text)
    → (takes unit → ⊥) → Refuses pattern unit
refuses_by takes pattern rest unit cut never text m =
    let at = cut (unit ∷ text) m in
    let is : at.first ≡ unit = cc in
    never (subst takes is at.taken)

-- a pattern, its first unit and the others, of which that unit and they take just one unit
on_pattern : (pattern : List ℕ) (c : ℕ) (rest : List ℕ) (n unit : ℕ) → pattern ≡ c ∷ rest → TakesOne (c ∷ rest) (drop n (c ∷ rest)) unit
    → TakesOne pattern (drop n pattern) unit
on_pattern pattern c rest n unit whole takes = subst (λ us. TakesOne us (drop n us) unit) (sym whole) takes

pub takes_one : (pattern : List ℕ) (c : ℕ) (rest : List ℕ) (unit : ℕ) → pattern ≡ c ∷ rest → c ≡ 63 → TakesOne pattern (drop 1 pattern) unit
takes_one pattern c rest unit whole is = on_pattern pattern c rest 1 unit whole (subst (λ x. TakesOne (x ∷ rest) rest unit) (sym is) (record {
  one = λ text m. One unit m;
  only = λ text m. as_one (one_cut rest text m);
}))

pub takes_same : (pattern : List ℕ) (c : ℕ) (rest : List ℕ) (unit : ℕ) → pattern ≡ c ∷ rest → c ≢ 42 → c ≢ 63 → c ≢ 91
    → upper c ≡ upper unit → TakesOne pattern (drop 1 pattern) unit
takes_same pattern c rest unit whole no_any no_one no_set is = on_pattern pattern c rest 1 unit whole (record {
  one = λ text m. Itself c unit no_any no_one no_set is m;
  only = λ text m. as_one (same_cut c rest text no_any no_one no_set m);
})

pub refuses_other : (pattern : List ℕ) (c : ℕ) (rest : List ℕ) (unit : ℕ) → pattern ≡ c ∷ rest → c ≢ 42 → c ≢ 63 → c ≢ 91
    → upper c ≢ upper unit → Refuses pattern unit
refuses_other pattern c rest unit whole no_any no_one no_set other =
    subst (λ us. Refuses us unit) (sym whole)
    (refuses_by (λ u. upper c ≡ upper u) (c ∷ rest) rest unit (λ text m. same_cut c rest text no_any no_one no_set m) other)

pub refuses_open : (pattern : List ℕ) (c : ℕ) (rest : List ℕ) (unit : ℕ) → pattern ≡ c ∷ rest → c ≡ 91 → None ≡ position is_right_bracket rest → Refuses pattern unit
refuses_open pattern c rest unit whole is none text m =
    open_set rest (unit ∷ text) (no_end rest none) (subst (λ us. Matches us (unit ∷ text)) (whole ∙ ap (λ x. x ∷ rest) is) m)

as_set : (c : ℕ) (rest : List ℕ) (end : ℕ) → c ≡ 91 → Found rest end → 91 ∷ (take end rest ++ 93 ∷ drop (end + 1) rest) ≡ c ∷ rest
as_set c rest end is found = λ i. sym is i ∷ sym found.whole i

pub takes_set : (pattern : List ℕ) (c : ℕ) (rest : List ℕ) (unit end : ℕ) → pattern ≡ c ∷ rest → c ≡ 91 → Some end ≡ position is_right_bracket rest
    → IsInSet (take end rest) unit → TakesOne pattern (drop (end + 2) pattern) unit
takes_set pattern c rest unit end whole is some takes =
    let found = found_end rest end some in
    let after : drop (end + 1) rest ≡ drop (end + 2) (c ∷ rest) =
    drop-drop (end + 1) 1 (c ∷ rest) ∙ ap (λ k. drop k (c ∷ rest)) (let e : 1 + (end + 1) ≡ end + 2 = omega arith in e) in
    let here : TakesOne (91 ∷ (take end rest ++ 93 ∷ drop (end + 1) rest)) (drop (end + 1) rest) unit = record {
      one = λ text m. OneOf (take end rest) unit found.none takes m;
      only = λ text m. as_one (one_of_cut (take end rest) (drop (end + 1) rest) text found.none m);
    } in
    on_pattern pattern c rest (end + 2) unit whole
    (subst (λ us. TakesOne (c ∷ rest) us unit) after (subst (λ us. TakesOne us (drop (end + 1) rest) unit) (as_set c rest end is found) here))

pub refuses_set : (pattern : List ℕ) (c : ℕ) (rest : List ℕ) (unit end : ℕ) → pattern ≡ c ∷ rest → c ≡ 91 → Some end ≡ position is_right_bracket rest
    → ¬ IsInSet (take end rest) unit → Refuses pattern unit
refuses_set pattern c rest unit end whole is some never =
    let found = found_end rest end some in
    subst (λ us. Refuses us unit) (as_set c rest end is found ∙ sym whole)
    (refuses_by (IsInSet (take end rest)) (91 ∷ (take end rest ++ 93 ∷ drop (end + 1) rest)) (drop (end + 1) rest) unit
    (λ text m. one_of_cut (take end rest) (drop (end + 1) rest) text found.none m) never)

-- a pattern that begins with no `*` matches some unit first
needs_unit : {c : ℕ} {written rest text : List ℕ} → Matches written text → written ≡ c ∷ rest → c ≢ 42 → text ≡ [] → ⊥
needs_unit Nothing is other e = cc
needs_unit (Any front m) is other e = apart (sym is) other
needs_unit (One unit m) is other e = cc
needs_unit (OneOf set unit none takes m) is other e = cc
needs_unit (Itself c unit no_any no_one no_set same m) is other e = cc

pub refuses_nothing : (pattern rest : List ℕ) (c : ℕ) → pattern ≡ c ∷ rest → c ≢ 42 → ¬ Matches pattern []
refuses_nothing pattern rest c is other m = needs_unit m is other refl
