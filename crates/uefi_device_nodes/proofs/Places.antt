-- The place of the first that passes a test.
use Rattle.std.proofs.Common.{◌≡◌, ◌∙◌, ℕ, suc, ◌-◌, ◌<◌, ◌≤◌, [], ◌∷◌, drop, take, Bool, cond, nat_lt, false, true, List, length, slice_index, ap, refl, Option, Some, None, position, arith}
use Rattle.std.specs.Option.{unwrap_or}
use Rattle.std.proofs.lemmas.Bool.Decides.{nat_tests}
use Rattle.std.proofs.lemmas.List.Sums.{position_or_len_is, prefix_len-le-length}
use Rattle.std.proofs.lemmas.List.{take_all}
use Rattle.std.specs.Prelude.{not}
use Rattle.std.specs.List.{position_or_len}

-- one passes, and none before it
pub first_place : (p : ℕ → Bool) (xs : List ℕ) (place : ℕ) → ((k : ℕ) → k < place → p (slice_index xs k) ≡ false)
    → place < length xs → p (slice_index xs place) ≡ true → place ≡ position_or_len p xs
first_place p xs place none within is =
    let e = position_or_len_is p xs place 0 (omega arith) none (λ _. is) in grind arith

-- none passes
pub no_place : (p : ℕ → Bool) (xs : List ℕ) → ((k : ℕ) → k < length xs → p (slice_index xs k) ≡ false)
    → length xs ≡ position_or_len p xs
no_place p xs none =
    let e = position_or_len_is p xs (length xs) 0 (omega arith) none (λ h. absurd (omega arith)) in grind arith

-- the place that a search found, or the length
pub or_len : (p : ℕ → Bool) (xs : List ℕ) (found : Option ℕ) → found ≡ position p xs → unwrap_or found (length xs) ≡ position_or_len p xs
or_len p xs found is = ap (λ (o : Option ℕ). unwrap_or o (length xs)) is ∙ by (nat_lt (position_or_len p xs) (length xs)) refl
  where
    by : (t : Bool) → nat_lt (position_or_len p xs) (length xs) ≡ t
        → unwrap_or (cond t (Some (position_or_len p xs)) None) (length xs) ≡ position_or_len p xs
    by true e = refl
    by false e = grind (arith, nat_tests, e, prefix_len-le-length (λ x. not (p x)) xs)

-- the first byte, and the others
pub one_then : (xs : List ℕ) → 1 ≤ length xs → slice_index xs 0 ∷ take (length xs - 1) (drop 1 xs) ≡ xs
one_then [] long = absurd (omega (arith, long))
one_then (x ∷ xs) long = ap (λ (ys : List ℕ). x ∷ ys) (take_all (suc (length xs) - 1) xs (omega arith))
