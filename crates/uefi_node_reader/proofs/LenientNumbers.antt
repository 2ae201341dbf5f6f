-- Numbers as people write them: how large they are, and a zero before their digits.
use Rattle.std.proofs.Common.{◌≡◌, ℕ, ◌+◌, ◌*◌, ◌<◌, ◌≤◌, Bool, true, false, cond, ltb, List, [], ◌∷◌, refl, sym, ap, ◌∙◌, arith}
use Rattle.std.specs.Prelude.{Some, None}
use Rattle.std.proofs.lemmas.Bool.{lt-ltb}
use borrow.Author.Tests.{ltb-true}
use Rattle.uefi_node_reader.specs.LenientFields.{any_number, begins_base, past_base, some_digits}
use Rattle.uefi_node_reader.specs.Numerals.{digit_of, digits_after, has_digit}
use Rattle.uefi_node_reader.proofs.Digits.{some_pair}

module _ (base limit : ℕ) where
  digits_small : (n : ℕ) (text : List ℕ) (m : ℕ) (rest : List ℕ) → n < limit → digits_after base limit n text ≡ Some (m, rest) → m < limit
  digits_small n [] m rest l e = let same = some_pair (n, []) (m, rest) e in omega (arith, same.0)
  digits_small n (c ∷ cs) m rest l e =
      by (ltb (digit_of c) base) (ltb (n * base + digit_of c) limit) refl e (digits_small (n * base + digit_of c) cs m rest)
    where
      by : (t s : Bool) → ltb (n * base + digit_of c) limit ≡ s
          → cond t (cond s (digits_after base limit (n * base + digit_of c) cs) None) (Some (n, c ∷ cs)) ≡ Some (m, rest)
          → (n * base + digit_of c < limit → digits_after base limit (n * base + digit_of c) cs ≡ Some (m, rest) → m < limit) → m < limit
      by false s q e h = let same = some_pair (n, c ∷ cs) (m, rest) e in omega (arith, same.0)
      by true false q e h = cc
      by true true q e h = h (ltb-true _ _ q) e

  some_small : (text : List ℕ) (m : ℕ) (rest : List ℕ) → 1 ≤ limit → some_digits base limit text ≡ Some (m, rest) → m < limit
  some_small text m rest l e = by (has_digit base text) e
    where
      by : (b : Bool) → cond b (digits_after base limit 0 text) None ≡ Some (m, rest) → m < limit
      by true q = digits_small 0 text m rest (omega arith) q
      by false q = cc

pub number_small : (limit : ℕ) (text : List ℕ) (m : ℕ) (rest : List ℕ) → 1 ≤ limit → any_number limit text ≡ Some (m, rest) → m < limit
number_small limit text m rest l e = by (begins_base text) e
  where
    by : (b : Bool) → cond b (some_digits 16 limit (past_base text)) (some_digits 10 limit text) ≡ Some (m, rest) → m < limit
    by true q = some_small 16 limit (past_base text) m rest l q
    by false q = some_small 10 limit text m rest l q

-- a zero more before digits
pub zero_more : (base limit : ℕ) (text : List ℕ) → 1 ≤ base → 1 ≤ limit → has_digit base text ≡ true
    → some_digits base limit (48 ∷ text) ≡ some_digits base limit text
zero_more base limit text b l e =
    let small : ltb 0 base ≡ true = lt-ltb 0 base (omega arith) in
    let fits : ltb 0 limit ≡ true = lt-ltb 0 limit (omega arith) in
    let none : 0 * base + 0 ≡ 0 = omega arith in
    ap (λ (t : Bool). cond t (digits_after base limit 0 (48 ∷ text)) None) small
    ∙ ap (λ (t : Bool). cond t (cond (ltb (0 * base + 0) limit) (digits_after base limit (0 * base + 0) text) None) (Some (0, 48 ∷ text))) small
    ∙ ap (λ (n : ℕ). cond (ltb n limit) (digits_after base limit n text) None) none
    ∙ ap (λ (t : Bool). cond t (digits_after base limit 0 text) None) fits
    ∙ sym (ap (λ (t : Bool). cond t (digits_after base limit 0 text) None) e)
