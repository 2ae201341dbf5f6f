-- Elements written one after the other.
use Rattle.std.proofs.Common.{◌≡◌, ℕ, ◌+◌, ◌<◌, List, [], ◌∷◌, ◌++◌, append_assoc, length, take, set, ap, ◌∙◌, arith}
use Rattle.std.proofs.lemmas.List.{length-append, length-drop, length-set, length-take, length-take-le, take-take, take_at, take_more_set}

pub place_two : (xs : List ℕ) (n a b : ℕ) → n + 1 < length xs → take (n + 2) (set (set xs n a) (n + 1) b) ≡ take n xs ++ a ∷ b ∷ []
place_two xs n a b inside =
    let next : n + 2 ≡ (n + 1) + 1 = omega arith in
    let room : n + 1 < length (set xs n a) = omega (arith, length-set xs n a) in
    rw next (take_more_set (set xs n a) (n + 1) b room ∙ ap (λ (l : List ℕ). l ++ b ∷ []) (take_more_set xs n a (omega arith)) ∙ append_assoc (take n xs) (a ∷ []) (b ∷ []))

pub place_three : (xs : List ℕ) (n a b c : ℕ) → n + 2 < length xs
    → take (n + 3) (set (set (set xs n a) (n + 1) b) (n + 2) c) ≡ take n xs ++ a ∷ b ∷ c ∷ []
place_three xs n a b c inside =
    let two = set (set xs n a) (n + 1) b in
    let next : n + 3 ≡ (n + 2) + 1 = omega arith in
    let room : n + 2 < length two = omega (arith, length-set (set xs n a) (n + 1) b, length-set xs n a) in
    rw next (take_more_set two (n + 2) c room ∙ ap (λ (l : List ℕ). l ++ c ∷ []) (place_two xs n a b (omega arith)) ∙ append_assoc (take n xs) (a ∷ b ∷ []) (c ∷ []))

pub place_four : (xs : List ℕ) (n a b c d : ℕ) → n + 3 < length xs
    → take (n + 4) (set (set (set (set xs n a) (n + 1) b) (n + 2) c) (n + 3) d) ≡ take n xs ++ a ∷ b ∷ c ∷ d ∷ []
place_four xs n a b c d inside =
    let three = set (set (set xs n a) (n + 1) b) (n + 2) c in
    let next : n + 4 ≡ (n + 3) + 1 = omega arith in
    let room : n + 3 < length three = omega (arith, length-set (set (set xs n a) (n + 1) b) (n + 2) c, length-set (set xs n a) (n + 1) b, length-set xs n a) in
    rw next (take_more_set three (n + 3) d room ∙ ap (λ (l : List ℕ). l ++ d ∷ []) (place_three xs n a b c (omega arith)) ∙ append_assoc (take n xs) (a ∷ b ∷ c ∷ []) (d ∷ []))

-- one, two or three elements, each written at the place after the one before it
pub ruleset places_in_turn = (take_more_set, place_two, place_three)
