-- A set takes the units that its places take.
use Rattle.std.proofs.Common.{inl, inr, ◌⊎◌, ◌≡◌, ◌≢◌, ◌≤◌, ◌↔◌, ◌∙◌, ◌&&◌, ◌||◌, ◌==◌, ℕ, Bool, true, false, IsTrue, if◌then◌else◌, List, [], ◌∷◌, ◌++◌, ap, sym, subst, refl, arith, drop, get_or, length, ◌+◌, ◌<◌, take, not, suc, Some, None, position}
use Rattle.std.specs.Prelude.{nat_le}
use Rattle.std.proofs.Math.ListN.{drop_of_length-le}
use Rattle.std.proofs.lemmas.Bool.{cases_Bool, false≢true, or_cases, or_left, or_right}
use Rattle.std.proofs.lemmas.Bool.Decides.{nat_tests}
use Rattle.std.proofs.lemmas.Grind.{common_steps}
use Rattle.uefi_text.specs.Case.{upper}
use Rattle.uefi_text.specs.Patterns.{HasRange, HasUnit, IsInSet, hyphen, last_of}
use Rattle.std.specs.List.{before_first, position_or_len}
use Rattle.uefi_text.proofs.Caseless.{next}
use Rattle.uefi_text.specs.PatternParts.{is_right_bracket, range_takes, rest_takes, set_has, unit_has}

-- what a range takes, in numbers
range_told : (a b c : ℕ) → IsTrue (nat_le a b && nat_le b c || c == b) → ((a ≤ b) × (b ≤ c)) ⊎ (c ≡ b)
range_told a b c h = elim (or_cases (nat_le a b && nat_le b c) (c == b) h) [
  | inl between ↦ inl (grind (arith, nat_tests), grind (arith, nat_tests))
  | inr end ↦ inr (grind (arith, nat_tests))
]

told_range : (a b c : ℕ) → ((a ≤ b) × (b ≤ c)) ⊎ (c ≡ b) → IsTrue (nat_le a b && nat_le b c || c == b)
told_range a b c (inl between) = or_left (nat_le a b && nat_le b c) (c == b) (grind (arith, nat_tests))
told_range a b c (inr end) = or_right (nat_le a b && nat_le b c) (c == b) (grind (arith, nat_tests))

chosen : (test a b : Bool) → IsTrue (if test then a else b) → ((test ≡ true) × IsTrue a) ⊎ ((test ≡ false) × IsTrue b)
chosen true a b h = inl (refl, h)
chosen false a b h = inr (refl, h)

otherwise : (test a b : Bool) → test ≡ false → IsTrue b → IsTrue (if test then a else b)
otherwise true a b e h = absurd (false≢true (sym e))
otherwise false a b e h = h

equal : (a b : ℕ) → IsTrue (a == b) → a ≡ b
equal a b h = grind (arith, nat_tests)

equal_told : (a b : ℕ) → a ≡ b → IsTrue (a == b)
equal_told a b e = grind (arith, nat_tests)

range_there : (before c : ℕ) (cs : List ℕ) (unit : ℕ) → c ≡ 45 → IsTrue (range_takes before cs unit) → HasRange before (c ∷ cs) (upper unit)
range_there before c [] unit is h = absurd (false≢true h)
range_there before c (last ∷ rest) unit is h =
    ([], last, rest, ap (λ x. x ∷ last ∷ rest) is, range_told (upper before) (upper unit) (upper last) h)

later : (before c : ℕ) (cs : List ℕ) (unit : ℕ) → HasUnit cs (upper unit) ⊎ HasRange c cs (upper unit) → HasUnit (c ∷ cs) (upper unit) ⊎ HasRange before (c ∷ cs) (upper unit)
later before c cs unit (inl p) = inl (c ∷ p.0, p.1, p.2, ap (λ us. c ∷ us) p.3, p.4, p.5)
later before c cs unit (inr p) = inr (c ∷ p.0, p.1, p.2, ap (λ us. c ∷ us) p.3, p.4)

pub places : (before : ℕ) (set : List ℕ) (unit : ℕ) → IsTrue (rest_takes before set unit) → HasUnit set (upper unit) ⊎ HasRange before set (upper unit)
places before [] unit h = absurd (false≢true h)
places before (c ∷ cs) unit h =
    elim (or_cases (if c == 45 then range_takes before cs unit else upper c == upper unit) (rest_takes c cs unit) h) [
      | inl here ↦ elim (chosen (c == 45) (range_takes before cs unit) (upper c == upper unit) here) [
        | inl dash ↦ let is : c ≡ 45 = grind (arith, nat_tests) in inr (range_there before c cs unit is dash.1)
        | inr other ↦
            let differs : c ≢ 45 = λ e. grind (arith, nat_tests) in
            let same : upper c ≡ upper unit = equal (upper c) (upper unit) other.1 in
            inl ([], c, cs, refl, differs, same)
      ]
      | inr rest ↦ later before c cs unit (places c cs unit rest)
    ]

unit_takes : (before : ℕ) (front : List ℕ) (c : ℕ) (rest : List ℕ) (unit : ℕ) → c ≢ 45 → upper c ≡ upper unit
    → IsTrue (rest_takes before (front ++ c ∷ rest) unit)
unit_takes before [] c rest unit differs same =
    or_left (if c == 45 then range_takes before rest unit else upper c == upper unit) (rest_takes c rest unit)
    (otherwise (c == 45) (range_takes before rest unit) (upper c == upper unit) (grind (arith, nat_tests)) (equal_told (upper c) (upper unit) same))
unit_takes before (d ∷ ds) c rest unit differs same =
    or_right (if d == 45 then range_takes before (ds ++ c ∷ rest) unit else upper d == upper unit) (rest_takes d (ds ++ c ∷ rest) unit)
    (unit_takes d ds c rest unit differs same)

dash_takes : (before : ℕ) (front : List ℕ) (last : ℕ) (rest : List ℕ) (unit : ℕ)
    → ((upper (last_of before front) ≤ upper unit) × (upper unit ≤ upper last)) ⊎ (upper last ≡ upper unit)
    → IsTrue (rest_takes before (front ++ 45 ∷ last ∷ rest) unit)
dash_takes before [] last rest unit is =
    or_left (range_takes before (last ∷ rest) unit) (rest_takes 45 (last ∷ rest) unit) (told_range (upper before) (upper unit) (upper last) is)
dash_takes before (d ∷ ds) last rest unit is =
    or_right (if d == 45 then range_takes before (ds ++ 45 ∷ last ∷ rest) unit else upper d == upper unit) (rest_takes d (ds ++ 45 ∷ last ∷ rest) unit)
    (dash_takes d ds last rest unit is)

pub place_takes : (before : ℕ) (set : List ℕ) (unit : ℕ) → HasUnit set (upper unit) ⊎ HasRange before set (upper unit) → IsTrue (rest_takes before set unit)
place_takes before set unit (inl (front, c, rest, whole, differs, same)) =
    subst (λ us. IsTrue (rest_takes before us unit)) (sym whole) (unit_takes before front c rest unit differs same)
place_takes before set unit (inr (front, last, rest, whole, is)) =
    subst (λ us. IsTrue (rest_takes before us unit)) (sym whole) (dash_takes before front last rest unit is)

pub inside_set : (set : List ℕ) (unit : ℕ) (taken : Bool) → taken ≡ set_has set unit → IsTrue taken ↔ IsInSet set unit
inside_set set unit taken is = (λ yes. places 0 set unit (sym is ∙ yes), λ inside. is ∙ place_takes 0 set unit inside)

-- the rest of a set, up to its `]`
abbrev pub set_from : ℕ → List ℕ → List ℕ
set_from start units = before_first is_right_bracket (drop start units)

-- whether a set takes a unit, by what its first units said, the last two of them and the others
abbrev pub goes_on : Bool → ℕ → ℕ → List ℕ → ℕ → Bool
goes_on takes earlier before rest unit =
    takes || ((if before == hyphen then range_takes earlier rest unit else false) || rest_takes before rest unit)

or_step : (t dash a range eq rest : Bool)
    → t || (a || ((if dash then range else eq) || rest))
    ≡ (t || (a || (if dash then false else eq))) || ((if dash then range else false) || rest)
or_step true dash a range eq rest = refl
or_step false dash true range eq rest = refl
or_step false true false range eq rest = refl
or_step false false false range true rest = refl
or_step false false false range false rest = refl

-- one unit more of a set
set_step : (takes : Bool) (earlier before c : ℕ) (rest : List ℕ) (unit : ℕ)
    → goes_on takes earlier before (c ∷ rest) unit ≡ goes_on (takes || unit_has earlier before c unit) before c rest unit
set_step takes earlier before c rest unit =
    or_step takes (c == hyphen) (if before == hyphen then range_takes earlier (c ∷ rest) unit else false) (range_takes before rest unit)
    (upper c == upper unit) (rest_takes c rest unit)

set_whole : (takes : Bool) → takes || (false || false) ≡ takes
set_whole true = refl
set_whole false = refl

-- the whole set decides
set_done : (takes : Bool) (earlier before unit : ℕ) → goes_on takes earlier before [] unit ≡ takes
set_done takes earlier before unit = elim (cases_Bool (before == hyphen)) [
  | inl dash ↦ ap (λ b. takes || ((if b then false else false) || false)) dash ∙ set_whole takes
  | inr other ↦ ap (λ b. takes || ((if b then false else false) || false)) other ∙ set_whole takes
]

passed : (ends : Bool) (n c : ℕ) (cs : List ℕ) → ends ≡ false → take (if not ends then 1 + n else 0) (c ∷ cs) ≡ c ∷ take n cs
passed true n c cs e = absurd (false≢true (sym e))
passed false n c cs e = let one : 1 + n ≡ suc n = omega arith in ap (λ k. take k (c ∷ cs)) one

stopped : (ends : Bool) (n : ℕ) (cs : List ℕ) → ends ≡ true → take (if not ends then 1 + n else 0) cs ≡ []
stopped true n cs e = refl
stopped false n cs e = absurd (false≢true e)

-- nothing but the `]` is passed over
set_next : (units : List ℕ) (i : ℕ) → i < length units → is_right_bracket (get_or units i 0) ≡ false
    → set_from i units ≡ get_or units i 0 ∷ set_from (i + 1) units
set_next units i inside other =
    ap (before_first is_right_bracket) (next units i inside)
    ∙ passed (is_right_bracket (get_or units i 0)) (position_or_len is_right_bracket (drop (i + 1) units)) (get_or units i 0) (drop (i + 1) units) other

set_ends : (units : List ℕ) (i : ℕ) → i < length units → is_right_bracket (get_or units i 0) ≡ true → set_from i units ≡ []
set_ends units i inside ends =
    ap (before_first is_right_bracket) (next units i inside)
    ∙ stopped (is_right_bracket (get_or units i 0)) (position_or_len is_right_bracket (drop (i + 1) units)) (get_or units i 0 ∷ drop (i + 1) units) ends

-- how far the `]` is, or the end
abbrev pub to_end : ℕ → List ℕ → ℕ
to_end start units = position_or_len is_right_bracket (drop start units)

counted : (ends : Bool) (n : ℕ) → ends ≡ false → (if not ends then 1 + n else 0) ≡ 1 + n
counted true n e = absurd (false≢true (sym e))
counted false n e = refl

end_next : (units : List ℕ) (i : ℕ) → i < length units → is_right_bracket (get_or units i 0) ≡ false → to_end i units ≡ 1 + to_end (i + 1) units
end_next units i inside other =
    ap (position_or_len is_right_bracket) (next units i inside) ∙ counted (is_right_bracket (get_or units i 0)) (to_end (i + 1) units) other

end_here : (units : List ℕ) (i : ℕ) → i < length units → is_right_bracket (get_or units i 0) ≡ true → to_end i units ≡ 0
end_here units i inside ends =
    ap (position_or_len is_right_bracket) (next units i inside) ∙ ended (is_right_bracket (get_or units i 0)) (to_end (i + 1) units) ends where
      ended : (ends : Bool) (n : ℕ) → ends ≡ true → (if not ends then 1 + n else 0) ≡ 0
      ended true n e = refl
      ended false n e = absurd (false≢true e)

-- the set that ends at a place, and what it takes
pub set_at : (units : List ℕ) (start len unit : ℕ) (takes : Bool) → to_end start units ≡ len → len < length (drop start units)
    → takes ≡ set_has (set_from start units) unit
    → (Some len ≡ position is_right_bracket (drop start units)) × (takes ≡ set_has (take len (drop start units)) unit)
set_at units start len unit takes is inside same =
    (grind (arith, common_steps), same ∙ ap (λ n. set_has (take n (drop start units)) unit) is)

pub open_at : (units : List ℕ) (start : ℕ) → to_end start units ≡ length (drop start units) → None ≡ position is_right_bracket (drop start units)
open_at units start is = grind (arith, common_steps)

no_bracket : (c : ℕ) → c ≢ 93 → is_right_bracket c ≡ false
no_bracket c other = grind (arith, nat_tests)

-- one unit more was read
pub unit_read : (units : List ℕ) (i c : ℕ) (takes here : Bool) (earlier before unit : ℕ) (whole : Bool) → i < length units → c ≡ get_or units i 0
    → c ≢ 93 → here ≡ unit_has earlier before c unit → goes_on takes earlier before (set_from i units) unit ≡ whole
    → goes_on (takes || here) before c (set_from (i + 1) units) unit ≡ whole
unit_read units i c takes here earlier before unit whole inside is other has before_it =
    let next_one : set_from i units ≡ c ∷ set_from (i + 1) units =
    subst (λ u. set_from i units ≡ u ∷ set_from (i + 1) units) (sym is) (set_next units i inside (ap is_right_bracket (sym is) ∙ no_bracket c other)) in
    ap (λ h. goes_on (takes || h) before c (set_from (i + 1) units) unit) has
    ∙ sym (set_step takes earlier before c (set_from (i + 1) units) unit)
    ∙ ap (λ us. goes_on takes earlier before us unit) (sym next_one) ∙ before_it

pub end_after : (units : List ℕ) (i c : ℕ) → i < length units → c ≡ get_or units i 0 → c ≢ 93 → to_end i units ≡ 1 + to_end (i + 1) units
end_after units i c inside is other = end_next units i inside (ap is_right_bracket (sym is) ∙ no_bracket c other)

-- the `]` was read
pub bracket_read : (units : List ℕ) (i c : ℕ) (takes : Bool) (earlier before unit : ℕ) (whole : Bool) → i < length units → c ≡ get_or units i 0
    → c ≡ 93 → goes_on takes earlier before (set_from i units) unit ≡ whole → (to_end i units ≡ 0) × (takes ≡ whole)
bracket_read units i c takes earlier before unit whole inside is ends before_it =
    let bracket : is_right_bracket (get_or units i 0) ≡ true = ap is_right_bracket (sym is ∙ ends) in (
      end_here units i inside bracket,
      sym (set_done takes earlier before unit) ∙ ap (λ us. goes_on takes earlier before us unit) (sym (set_ends units i inside bracket)) ∙ before_it,
    )

pub nothing_left : (units : List ℕ) (i : ℕ) → length units ≤ i → to_end i units ≡ 0
nothing_left units i past = ap (position_or_len is_right_bracket) (drop_of_length-le units past)
