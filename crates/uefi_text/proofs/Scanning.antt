-- Passes that test or count a block of elements at a time.
use Rattle.std.proofs.Common.{inl, inr, ◌≡◌, ◌↔◌, ◌≢◌, ◌||◌, ◌+◌, ◌<◌, ◌≤◌, ◌∙◌, ℕ, zero, suc, Bool, true, false, not, All, IsTrue, List, [], ◌∷◌, Some, None, Option, ap, get_or, sym, refl, drop, length, take, arith, position}
use Rattle.std.specs.List.{list_any, position_or_len}
use Rattle.std.specs.Option.{is_some}
use Rattle.std.specs.Str.{IsAscii}
use Rattle.std.proofs.Math.Seq.{take-add}
use Rattle.std.proofs.lemmas.Bool.{cases_Bool, cases_lt, false≢true}
use Rattle.std.proofs.lemmas.Grind.{common_steps}
use Rattle.std.proofs.lemmas.List.{length-take-le, take-append-drop, take-take}
use Rattle.std.proofs.lemmas.List.Folds.{list_any-append, list_any_at, list_any_none}
use Rattle.std.proofs.lemmas.List.Sums.{position_or_len_is}
use Rattle.uefi_text.specs.Scans.{is_beyond_ascii}
use Rattle.uefi_text.specs.Units.{is_nul}

-- one more block without an element that passes
pub clear_more : {X : Type 0} (p : X → Bool) (xs : List X) (end n : ℕ) → list_any p (take end xs) ≡ false
    → list_any p (take n (drop end xs)) ≡ false → list_any p (take (end + n) xs) ≡ false
clear_more p xs end n before clear =
    ap (list_any p) (take-add end n xs) ∙ list_any-append p (take end xs) (take n (drop end xs)) ∙ (λ i. before i || clear i)

-- where none before a place passes, a search may begin at that place
search_from : {X : Type 0} (p : X → Bool) (xs : List X) (start : ℕ) → start ≤ length xs → list_any p (take start xs) ≡ false
    → position_or_len p xs ≡ start + position_or_len p (drop start xs)
search_from p xs zero inside clear = grind (arith, common_steps)
search_from p [] (suc n) inside clear = absurd (omega (arith, inside))
search_from p (x ∷ xs) (suc n) inside clear = elim (cases_Bool (p x)) [
  | inl passes ↦ absurd (false≢true (sym clear ∙ ap (λ b. b || list_any p (take n xs)) passes))
  | inr fails ↦
      let rest = search_from p xs n (omega (arith, inside)) (sym (ap (λ b. b || list_any p (take n xs)) fails) ∙ clear) in
      grind (arith, common_steps)
]

pub position-from_none : {X : Type 0} (p : X → Bool) (xs : List X) (start : ℕ) → start ≤ length xs → list_any p (take start xs) ≡ false
    → None ≡ position p (drop start xs) → None ≡ position p xs
position-from_none p xs start inside clear none = let from = search_from p xs start inside clear in grind (arith, common_steps)

pub position-from_some : {X : Type 0} (p : X → Bool) (xs : List X) (start place : ℕ) → start ≤ length xs → list_any p (take start xs) ≡ false
    → Some place ≡ position p (drop start xs) → Some (start + place) ≡ position p xs
position-from_some p xs start place inside clear some = let from = search_from p xs start inside clear in grind (arith, common_steps)

-- where a search among the first elements has come to a place, none before it passes among all
pub clear_front : {X : Type 0} (p : X → Bool) (xs : List X) (start few : ℕ) → few ≤ length xs → start ≤ length (take few xs)
    → list_any p (take start (take few xs)) ≡ false → (start ≤ length xs) × (list_any p (take start xs) ≡ false)
clear_front p xs start few fits inside clear =
    let long : length (take few xs) ≡ few = length-take-le few xs fits in
    (omega arith, ap (list_any p) (sym (take-take start few xs (omega (arith, inside)))) ∙ clear)

-- a search finds a place exactly where an element passes
pub is_some-position : {X : Type 0} (p : X → Bool) (xs : List X) → is_some (position p xs) ≡ list_any p xs
is_some-position p [] = refl
is_some-position p (x ∷ xs) = elim (cases_Bool (p x)) [
  | inl passes ↦ grind (arith, common_steps)
  | inr fails ↦ let rest = is_some-position p xs in grind (arith, common_steps)
]

-- after elements that do not pass the others decide, and so do those of them that pass
pub any-in_rest : {X : Type 0} (p : X → Bool) (xs : List X) (start : ℕ) → list_any p (take start xs) ≡ false → list_any p (drop start xs) ≡ list_any p xs
any-in_rest p xs start clear =
    sym (ap (λ b. b || list_any p (drop start xs)) clear) ∙ sym (list_any-append p (take start xs) (drop start xs)) ∙ ap (list_any p) (take-append-drop start xs)

pub any-in_block : {X : Type 0} (p : X → Bool) (xs : List X) (start n : ℕ) → list_any p (take start xs) ≡ false → list_any p (take n (drop start xs)) ≡ true → list_any p xs ≡ true
any-in_block p xs start n clear found =
    sym (any-in_rest p xs start clear) ∙ ap (list_any p) (sym (take-append-drop n (drop start xs)))
    ∙ list_any-append p (take n (drop start xs)) (drop n (drop start xs)) ∙ ap (λ b. b || list_any p (drop n (drop start xs))) found

-- a search finds nothing exactly where no element passes
pub none_passes : {X : Type 0} (p : X → Bool) (xs : List X) → list_any p xs ≡ false → All (λ x. p x ≡ false) xs
none_passes p xs clear k d inside = elim (cases_Bool (p (get_or xs k d))) [
  | inl passes ↦ absurd (false≢true (sym clear ∙ list_any_at p xs k d inside passes))
  | inr fails ↦ fails
]

-- where what fails is what a property says, none passes exactly where all have the property
pub none_passes-is : (p : ℕ → Bool) (P : ℕ → Type 0) → ((x : ℕ) → (p x ≡ false) ↔ P x) → (xs : List ℕ)
    → (list_any p xs ≡ false) ↔ All P xs
none_passes-is p P same xs = (
  λ clear. λ k d inside. (same (get_or xs k d)).0 (none_passes p xs clear k d inside),
  λ all. list_any_none p xs (λ k d inside. (same (get_or xs k d)).1 (all k d inside)),
)

-- a test that found nothing
pub not_found : {P : Type 0} (found any : Bool) → found ≡ any → (any ≡ false) ↔ P → IsTrue (not found) ↔ P
not_found true any is same = (λ yes. absurd (false≢true yes), λ p. absurd (false≢true (sym (same.1 p) ∙ sym is)))
not_found false any is same = (λ _. same.0 (sym is), λ _. refl)

-- none is NUL exactly where none is found
pub none_is_nul : (us : List ℕ) → (list_any is_nul us ≡ false) ↔ All (λ u. u ≢ 0) us
none_is_nul = none_passes-is is_nul (λ u. u ≢ 0) (λ u. (λ no. λ is. grind (arith, common_steps), λ other. grind (arith, common_steps)))

-- so a search that finds none says it
pub finds_no_nul : (us : List ℕ) (place : Option ℕ) (none : Bool) → is_some place ≡ not none → place ≡ position is_nul us → IsTrue none ↔ All (λ u. u ≢ 0) us
finds_no_nul us place true is found = not_found false _ (sym is ∙ ap is_some found ∙ is_some-position is_nul us) (none_is_nul us)
finds_no_nul us place false is found = not_found true _ (sym is ∙ ap is_some found ∙ is_some-position is_nul us) (none_is_nul us)

-- a unit is ASCII exactly where it is not beyond it
pub ascii_units : (us : List ℕ) → (list_any is_beyond_ascii us ≡ false) ↔ IsAscii us
ascii_units us =
    let both = none_passes-is is_beyond_ascii (λ u. u < 128) (λ u. (λ within. grind (arith, common_steps), λ below. grind (arith, common_steps))) us in (
      λ clear. λ i. elim (cases_lt i (length us)) [
        | inl inside ↦ both.0 clear i 0 inside
        | inr past ↦ grind (arith, common_steps)
      ],
      λ ascii. both.1 (λ k d inside. grind (arith, common_steps, ascii k)),
    )

-- where an element passes and none before it does, a search ends there
pub position-at : (p : ℕ → Bool) (us : List ℕ) (i : ℕ) → i < length us → ((k : ℕ) → k < i → p (get_or us k 0) ≡ false)
    → p (get_or us i 0) ≡ true → Some i ≡ position p us
position-at p us i inside none passes =
    let e : position_or_len p us ≡ i = position_or_len_is p us i 0 (omega arith) none (λ _. passes) in
    grind (arith, common_steps)

-- and where none does, it finds nothing
pub position-nowhere : (p : ℕ → Bool) (us : List ℕ) → ((k : ℕ) → k < length us → p (get_or us k 0) ≡ false) → None ≡ position p us
position-nowhere p us none =
    let e : position_or_len p us ≡ length us = position_or_len_is p us (length us) 0 (omega arith) none (λ h. absurd (omega (arith, h))) in
    grind (arith, common_steps)
