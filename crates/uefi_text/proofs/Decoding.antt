-- Characters of a text, read several at once.
use Rattle.std.proofs.Common.{append_assoc, All, ◌≢◌, ◌≡◌, ℕ, ◌+◌, ◌≤◌, ◌∙◌, List, ◌++◌, length, take, drop, ap, sym, subst, arith}
use Rattle.std.proofs.lemmas.List.Elements.{All-append}
use Rattle.std.proofs.lemmas.Grind.{elements}
use Rattle.std.proofs.lemmas.List.{length-append, length-take-le, take_at}

-- some elements more of a list of which the first were read
pub read_more : (all new more : List ℕ) (len n : ℕ) → n ≡ length new → len ≤ length all → take len all ++ (new ++ more) ≡ all
    → (take (len + n) all ≡ take len all ++ new) × (take (len + n) all ++ more ≡ all) × (len + n ≤ length all)
read_more all new more len n count inside to_come =
    let front = take len all in
    let long : length front ≡ len = length-take-le len all inside in
    let split : (front ++ new) ++ more ≡ all = append_assoc front new more ∙ to_come in
    let sum : len + n ≡ length (front ++ new) = omega (arith, long, count, length-append front new) in
    let first : take (len + n) all ≡ front ++ new = ap (take (len + n)) (sym split) ∙ take_at (front ++ new) more (len + n) (sym sum) in
    (first, ap (λ (us : List ℕ). us ++ more) first ∙ split, omega (arith, sum, ap length split, length-append (front ++ new) more))

-- more elements, after those that are written before what stays
pub place_more : (front old more units new : List ℕ) (n k : ℕ) → n ≡ length front → length more ≡ k → n + k ≤ length old
    → units ≡ front ++ drop n old → new ≡ take n units ++ (more ++ drop (n + k) units) → new ≡ (front ++ more) ++ drop (n + k) old
place_more front old more units new n k count long room so_far is = grind (arith, elements)

-- what both have so far, and the same after it
pub same_more : (units new : List ℕ) (len n : ℕ) (rest text : List ℕ) → take (len + n) units ≡ take len units ++ new → All (λ unit. unit ≢ 0) new
    → All (λ unit. unit ≢ 0) (take len units) → text ≡ take len units ++ (new ++ rest)
    → (text ≡ take (len + n) units ++ rest) × All (λ unit. unit ≢ 0) (take (len + n) units)
same_more units new len n rest text more others so_far is = (
  is ∙ sym (append_assoc (take len units) new rest) ∙ ap (λ (front : List ℕ). front ++ rest) (sym more),
  subst (All (λ unit. unit ≢ 0)) (sym more) (All-append (λ unit. unit ≢ 0) (take len units) new so_far others),
)
