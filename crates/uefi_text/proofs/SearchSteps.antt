-- The steps of the search, as the code makes them.
use Rattle.std.proofs.Common.{◌≡◌, ◌∙◌, ◌+◌, ◌<◌, ◌≤◌, ◌≢◌, ◌↔◌, ℕ, Bool, IsTrue, List, [], ◌∷◌, ap, sym, subst, refl, arith, length-drop, drop, get_or, inl, inr, length, None, Some, Option}
use Rattle.std.proofs.Math.ListN.{drop_of_length-le}
use Rattle.std.proofs.lemmas.List.{drop-drop, get_or-drop}
use Rattle.uefi_text.specs.Patterns.{Matches, Nothing, Any, One, OneOf, Itself}
use Rattle.uefi_text.specs.PatternParts.{Refuses, TakesOne}
use Rattle.uefi_text.specs.declared.patterns.Star.{Star}
use Rattle.uefi_text.proofs.Caseless.{next}
use Rattle.uefi_text.proofs.FirstParts.{refuses_nothing}
use Rattle.uefi_text.proofs.GreedySearch.{Later, Searching, at_star, takes, goes_back, ends, star_at_end}

pub star_step : (pattern text : List ℕ) (at place : ℕ) (star : Option Star) → Searching pattern text at place star
    → at < length pattern → get_or pattern at 0 ≡ 42 → Searching pattern text (at + 1) place (Some (record { after = at + 1; tried = place }))
star_step pattern text at place star s inside is =
    at_star pattern text at place star s (next pattern at inside ∙ ap (λ c. c ∷ drop (at + 1) pattern) is)

refuses_empty : {pattern text : List ℕ} {c : ℕ} {rest : List ℕ} → Matches pattern text → pattern ≡ [] → text ≡ c ∷ rest → ⊥
refuses_empty Nothing is other = cc
refuses_empty (Any front m) is other = cc
refuses_empty (One unit m) is other = cc
refuses_empty (OneOf set unit none takes m) is other = cc
refuses_empty (Itself c unit no_any no_one no_set same m) is other = cc

pub unit_step : (pattern text : List ℕ) (at place n : ℕ) (star : Option Star) → Searching pattern text at place star → place < length text
    → TakesOne (drop at pattern) (drop n (drop at pattern)) (get_or text place 0) → Searching pattern text (at + n) (place + 1) star
unit_step pattern text at place n star s inside step =
    takes pattern text at (at + n) place (get_or text place 0) star s
    (subst (λ us. TakesOne (drop at pattern) us (get_or text place 0)) (drop-drop n at pattern) step) (next text place inside)

pub back_step : (pattern text : List ℕ) (at place : ℕ) (star : Option Star) (last : Star) → Searching pattern text at place star → star ≡ Some last
    → place < length text → Refuses (drop at pattern) (get_or text place 0)
    → Searching pattern text last.after (last.tried + 1) (Some (record { after = last.after; tried = last.tried + 1 }))
back_step pattern text at place star last s is inside refuses =
    goes_back pattern text at place (get_or text place 0) last (subst (Searching pattern text at place) is s) refuses (next text place inside)

-- a unit is refused, and no `*` can take one more
pub refused : (pattern text : List ℕ) (at place : ℕ) (star : Option Star) → Searching pattern text at place star → star ≡ None
    → place < length text → Refuses (drop at pattern) (get_or text place 0) → Matches pattern text → ⊥
refused pattern text at place star s none inside refuses m =
    elim (s.complete m) [
      | inl here ↦ refuses (drop (place + 1) text) (subst (λ us. Matches (drop at pattern) us) (next text place inside) here)
      | inr later ↦ subst (λ s. Later pattern text s) none later
    ]

-- a `*` at a place
pub star_there : (pattern : List ℕ) (at : ℕ) → (0 < length (drop at pattern)) × (get_or (drop at pattern) 0 0 ≡ 42)
    → (at < length pattern) × (get_or pattern at 0 ≡ 42)
star_there pattern at first =
    let some = first.0 in
    let zero_more : at + 0 ≡ at = omega arith in (
      omega (arith, some, length-drop at pattern),
      ap (λ k. get_or pattern k 0) (sym zero_more) ∙ sym (get_or-drop at pattern 0 0) ∙ first.1,
    )

-- nothing of the pattern is left for a unit
pub refuses_at_end : (pattern : List ℕ) (at unit : ℕ) → length pattern ≤ at → Refuses (drop at pattern) unit
refuses_at_end pattern at unit past text m = refuses_empty (subst (λ us. Matches us (unit ∷ text)) (drop_of_length-le pattern past) m) refl refl

-- at the end of the text, what is left of the pattern decides
pub at_end : (pattern text : List ℕ) (at place : ℕ) (star : Option Star) (all : Bool) → Searching pattern text at place star → length text ≤ place
    → (IsTrue all ↔ Matches (drop at pattern) []) → IsTrue all ↔ Matches pattern text
at_end pattern text at place star all s past is =
    let both = ends pattern text at place star s (drop_of_length-le text past) in
    (λ holds. both.0 (is.0 holds), λ m. is.1 (both.1 m))

-- one `*` more or less matches nothing alike
pub star_of_nothing : {P : Type 0} (pattern : List ℕ) (i : ℕ) → i < length pattern → get_or pattern i 0 ≡ 42
    → Matches (drop i pattern) [] ↔ P → Matches (drop (i + 1) pattern) [] ↔ P
star_of_nothing pattern i inside is before =
    let here : drop i pattern ≡ 42 ∷ drop (i + 1) pattern = next pattern i inside ∙ ap (λ c. c ∷ drop (i + 1) pattern) is in (
      λ m. before.0 (subst (λ us. Matches us []) (sym here) (Any [] m)),
      λ p. star_at_end (drop (i + 1) pattern) (subst (λ us. Matches us []) here (before.1 p)),
    )

pub other_of_nothing : {P : Type 0} (pattern : List ℕ) (i : ℕ) → i < length pattern → get_or pattern i 0 ≢ 42
    → Matches (drop i pattern) [] ↔ P → ¬ P
other_of_nothing pattern i inside other before p = refuses_nothing (drop i pattern) (drop (i + 1) pattern) (get_or pattern i 0) (next pattern i inside) other (before.1 p)

pub all_of_nothing : {P : Type 0} (pattern : List ℕ) (i : ℕ) → length pattern ≤ i → Matches (drop i pattern) [] ↔ P → P
all_of_nothing pattern i past before = before.0 (subst (λ us. Matches us []) (sym (drop_of_length-le pattern past)) Nothing)
