-- What a search for the first element that passes a test finds.
use Rattle.std.proofs.Common.{◌≡◌, ℕ, zero, suc, ◌<◌, ◌∙◌, Bool, false, All, List, [], ◌∷◌, length, get_or, None, Option, Some, position, inl, inr, sym, refl, arith}
use Rattle.std.specs.List.{find}
use Rattle.std.specs.Option.{option_map}
use Rattle.std.proofs.lemmas.Bool.{cases_Bool, cond-false, cond-true}
use Rattle.std.proofs.lemmas.Grind.{common_steps}
use Rattle.std.proofs.lemmas.List.Elements.{All-cons, All-head, All-nil, All-tail}

-- nothing exactly where all elements fail
pub All-found_none : {X : Type 0} (p : X → Bool) (xs : List X) → find p xs ≡ None → All (λ x. p x ≡ false) xs
All-found_none p [] e = All-nil (λ x. p x ≡ false)
All-found_none p (x ∷ xs) e =
    elim (cases_Bool (p x)) [
      | inl passes ↦ let found : find p (x ∷ xs) ≡ Some x =
          cond-true (p x) (Some x) (find p xs) passes in absurd (cc)
      | inr fails ↦
          All-cons (λ y. p y ≡ false) x xs fails
          (All-found_none p xs (sym (cond-false (p x) (Some x) (find p xs) fails) ∙ e))
    ]

pub found_none : {X : Type 0} (p : X → Bool) (xs : List X) → All (λ x. p x ≡ false) xs → find p xs ≡ None
found_none p [] all = refl
found_none p (x ∷ xs) all =
    cond-false (p x) (Some x) (find p xs) (All-head (λ y. p y ≡ false) x xs all)
    ∙ found_none p xs (All-tail (λ y. p y ≡ false) x xs all)

pub unmapped : {X Y : Type 0} (f : X → Y) (found : Option X) → option_map f found ≡ None → found ≡ None
unmapped f None e = refl
unmapped f (Some x) e = absurd (cc)

-- where no place is found, no element passes
pub position-None : (p : ℕ → Bool) (xs : List ℕ) → position p xs ≡ None → (k : ℕ) → k < length xs → p (get_or xs k 0) ≡ false
position-None p [] none k inside = absurd (omega (arith, inside))
position-None p (x ∷ xs) none zero inside =
    elim (cases_Bool (p x)) [ inl passes ↦ absurd (grind (arith, common_steps)) | inr other ↦ other ]
position-None p (x ∷ xs) none (suc k) inside =
    elim (cases_Bool (p x)) [
      | inl passes ↦ absurd (grind (arith, common_steps))
      | inr other ↦ let rest : position p xs ≡ None = grind (arith, common_steps) in position-None p xs rest k (omega (arith, inside))
    ]
