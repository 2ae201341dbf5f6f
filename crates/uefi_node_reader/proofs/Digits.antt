-- Digits of a number are read back, and what is read has these digits.
use Rattle.std.proofs.Common.{◌≡◌, ℕ, zero, suc, ◌+◌, ◌*◌, ◌/◌, ◌%◌, ◌^◌, ◌<◌, ◌≤◌, Bool, true, false, cond, eqb, ltb, List, [], ◌∷◌, ◌++◌, refl, ap, sym, subst, ◌∙◌, ◌≢◌, true≢false, append_assoc, inl, inr, arith}
use native.Mathlib.Nat.{pow-suc, pow-zero}
use borrow.Author.Tests.{eq-eqb, eqb-true, lt-ltb, ltb-true, ne_eqb}
use Rattle.std.specs.Prelude.{Some, None, ◌==◌}
use Rattle.std.specs.Fmt.{digits, digit_glyph}
use Rattle.std.proofs.lemmas.Bool.{cases_lt}
use Rattle.std.proofs.lemmas.Bool.Decides.{nat_tests}
use Rattle.uefi_text.proofs.Numerals.{digits_last, digits_more}
use Rattle.uefi_node_reader.specs.Numerals.{digit_of, digits_after, has_digit, number_read}

-- the parts of a pair that is returned
pub some_pair : {A B : Type 0} (p q : A × B) → Some p ≡ Some q → (p.0 ≡ q.0) × (p.1 ≡ q.1)
some_pair p q e = let same : p ≡ q = cc in (ap (λ x. x.0) same, ap (λ x. x.1) same)

-- what is used of a base, and of the case of its letters
pub record IsBase (base : ℕ) (upper : Bool) : Type 0 where
  pub reads : (d : ℕ) → d < base → digit_of (digit_glyph upper d) ≡ d
  pub writes : (c : ℕ) → digit_of c < base → digit_glyph upper (digit_of c) ≡ c
  pub one : (n : ℕ) → n < base → (n / base ≡ 0) × (n % base ≡ n)
  pub halves : (n : ℕ) → n / base ≤ n / 2
  pub remainder : (n : ℕ) → n % base < base
  pub whole : (n : ℕ) → n / base * base + n % base ≡ n
  pub pushed : (n d : ℕ) → d < base → ((n * base + d) / base ≡ n) × ((n * base + d) % base ≡ d)
  pub small : (n : ℕ) → n / base ≡ 0 → n < base
  pub some : 0 < base
  pub two : 2 ≤ base
  pub grows : (n d : ℕ) → 0 < n → 0 < n * base + d

reads_upper : (d : ℕ) → d < 16 → digit_of (digit_glyph true d) ≡ d
reads_upper d h = grind (arith, nat_tests)

writes_upper : (c : ℕ) → digit_of c < 16 → digit_glyph true (digit_of c) ≡ c
writes_upper c h = grind (arith, nat_tests)

reads_decimal : (d : ℕ) → d < 10 → digit_of (digit_glyph false d) ≡ d
reads_decimal d h = grind (arith, nat_tests)

writes_decimal : (c : ℕ) → digit_of c < 10 → digit_glyph false (digit_of c) ≡ c
writes_decimal c h = grind (arith, nat_tests)

pub hexadecimal : IsBase 16 true
hexadecimal = record {
  reads = reads_upper;
  writes = writes_upper;
  one = λ n h. (omega arith, omega arith);
  halves = λ n. omega arith;
  remainder = λ n. omega arith;
  whole = λ n. omega arith;
  pushed = λ n d h. (omega arith, omega arith);
  small = λ n h. omega arith;
  some = omega arith;
  two = omega arith;
  grows = λ n d h. omega arith;
}

pub decimal_base : IsBase 10 false
decimal_base = record {
  reads = reads_decimal;
  writes = writes_decimal;
  one = λ n h. (omega arith, omega arith);
  halves = λ n. omega arith;
  remainder = λ n. omega arith;
  whole = λ n. omega arith;
  pushed = λ n d h. (omega arith, omega arith);
  small = λ n h. omega arith;
  some = omega arith;
  two = omega arith;
  grows = λ n d h. omega arith;
}

-- Digits end at their last, before which those of the quotient stand.
module _ (base : ℕ) (upper : Bool) (is : IsBase base upper) where
  pub digits_one : (n : ℕ) → n < base → digits base upper n ≡ digit_glyph upper n ∷ []
  digits_one = digits_last base upper is.two

  pub digits_step : (n : ℕ) → n < 2 ^ 64 → 0 < n / base
      → digits base upper n ≡ digits base upper (n / base) ++ digit_glyph upper (n % base) ∷ []
  digits_step n small more =
      let many : base ≤ n = elim (cases_lt n base) [ inl less ↦ absurd (omega (arith, more, (is.one n less).0)) | inr some ↦ some ] in
      sym (digits_more base upper is.two n many small)

  -- one digit more
  pub digits_push : (n d : ℕ) → 0 < n → d < base → n * base + d < 2 ^ 64
      → digits base upper (n * base + d) ≡ digits base upper n ++ digit_glyph upper d ∷ []
  digits_push n d some low small =
      let p = is.pushed n d low in
      digits_step (n * base + d) small (subst (λ (q : ℕ). 0 < q) (sym p.0) some)
      ∙ (λ i. digits base upper (p.0 i) ++ digit_glyph upper (p.1 i) ∷ [])

  -- what stands after digits of a number that is not 0
  after_takes : (limit : ℕ) → limit ≤ 2 ^ 64 → (text : List ℕ) (n m : ℕ) (rest : List ℕ) → 0 < n → n < limit
      → digits_after base limit n text ≡ Some (m, rest)
      → (digits base upper n ++ text ≡ digits base upper m ++ rest) × (m < limit)
  after_takes limit fits [] n m rest some low e =
      let same = some_pair (n, []) (m, rest) e in
      ((λ i. digits base upper (same.0 i) ++ same.1 i), omega arith)
  after_takes limit fits (c ∷ cs) n m rest some low e =
      by (ltb (digit_of c) base) (ltb (n * base + digit_of c) limit) refl refl e
      (λ l. after_takes limit fits cs (n * base + digit_of c) m rest (omega (arith, is.grows n (digit_of c) some)) l)
    where
      next : ℕ
      next = n * base + digit_of c

      Result : Type 0
      Result = (digits base upper n ++ c ∷ cs ≡ digits base upper m ++ rest) × (m < limit)

      by : (t s : Bool) → ltb (digit_of c) base ≡ t → ltb next limit ≡ s
          → cond t (cond s (digits_after base limit next cs) None) (Some (n, c ∷ cs)) ≡ Some (m, rest)
          → (next < limit → digits_after base limit next cs ≡ Some (m, rest) → (digits base upper next ++ cs ≡ digits base upper m ++ rest) × (m < limit))
          → Result
      by false s p q e h =
          let same = some_pair (n, c ∷ cs) (m, rest) e in
          ((λ i. digits base upper (same.0 i) ++ same.1 i), omega arith)
      by true false p q e h = cc
      by true true p q e h =
          let l = ltb-true next limit q in
          let d = ltb-true (digit_of c) base p in
          let r = h l e in (
            sym (append_assoc (digits base upper n) (c ∷ []) cs)
                ∙ ap (λ (x : List ℕ). x ++ cs) (ap (λ (g : ℕ). digits base upper n ++ g ∷ []) (sym (is.writes c d)) ∙ sym (digits_push n (digit_of c) some d (omega arith)))
                ∙ r.0,
            r.1,
          )

  -- a number that is read has these digits
  pub number_takes : (limit : ℕ) → base ≤ limit → limit ≤ 2 ^ 64 → (text : List ℕ) (m : ℕ) (rest : List ℕ)
      → number_read base limit text ≡ Some (m, rest) → (text ≡ digits base upper m ++ rest) × (m < limit)
  number_takes limit large fits [] m rest e = cc
  number_takes limit large fits (c ∷ cs) m rest e =
      by (ltb (digit_of c) base) (digit_of c == 0) (has_digit base cs) refl refl e
    where
      by : (t s u : Bool) → ltb (digit_of c) base ≡ t → eqb (digit_of c) 0 ≡ s
          → cond t (cond s (cond u None (Some (0, cs))) (digits_after base limit (digit_of c) cs)) None ≡ Some (m, rest)
          → (c ∷ cs ≡ digits base upper m ++ rest) × (m < limit)
      by false s u p q e = cc
      by true true true p q e = cc
      by true true false p q e =
          let same = some_pair (0, cs) (m, rest) e in
          let zero_digit = eqb-true (digit_of c) 0 q in
          let first : digits base upper m ≡ c ∷ [] = ap (λ (n : ℕ). digits base upper n) (sym same.0 ∙ sym zero_digit)
          ∙ digits_one (digit_of c) (ltb-true _ _ p) ∙ ap (λ (g : ℕ). g ∷ []) (is.writes c (ltb-true _ _ p)) in
          ((λ i. sym first i ++ same.1 i), omega (arith, is.some))
      by true false u p q e =
          let low = ltb-true (digit_of c) base p in
          let other : digit_of c ≢ 0 = λ z. true≢false (sym (eq-eqb _ 0 z) ∙ q) in
          let r = after_takes limit fits cs (digit_of c) m rest (omega arith) (omega arith) e in
          (ap (λ (g : List ℕ). g ++ cs) (sym (digits_one (digit_of c) low ∙ ap (λ (g : ℕ). g ∷ []) (is.writes c low))) ∙ r.0, r.1)

  -- reading goes over the digits of a number that is not 0
  read_digits : (limit : ℕ) → limit ≤ 2 ^ 64 → (k n : ℕ) → n < 2 ^ k → 0 < n → n < limit → (rest : List ℕ)
      → number_read base limit (digits base upper n ++ rest) ≡ digits_after base limit n rest
  read_digits limit fits zero n p some low rest = absurd (omega (arith, pow-zero 2))
  read_digits limit fits (suc k) n p some low rest = by (eqb (n / base) 0) refl
      (λ l. read_digits limit fits k (n / base) (omega (arith, is.halves n, pow-suc 2 k)) l (omega (arith, is.halves n)) (digit_glyph upper (n % base) ∷ rest))
    where
      g : ℕ
      g = digit_glyph upper (n % base)

      one : n < base → number_read base limit (digit_glyph upper n ∷ rest) ≡ digits_after base limit n rest
      one l =
          let d = is.reads n l in
          let t : ltb (digit_of (digit_glyph upper n)) base ≡ true = lt-ltb _ _ (omega arith) in
          let s : eqb (digit_of (digit_glyph upper n)) 0 ≡ false = ne_eqb _ 0 (λ e. omega arith) in
          (λ i. cond (t i) (cond (s i) (cond (has_digit base rest) None (Some (0, rest))) (digits_after base limit (d i) rest)) None)

      more : digits_after base limit (n / base) (g ∷ rest) ≡ digits_after base limit n rest
      more =
          let d = is.reads (n % base) (is.remainder n) in
          let whole : n / base * base + digit_of g ≡ n = ap (λ (x : ℕ). n / base * base + x) d ∙ is.whole n in
          let t : ltb (digit_of g) base ≡ true = lt-ltb _ _ (omega (arith, is.remainder n)) in
          let s : ltb n limit ≡ true = lt-ltb _ _ low in
          (λ i. cond (t i) (cond (ltb (whole i) limit) (digits_after base limit (whole i) rest) None) (Some (n / base, g ∷ rest)))
          ∙ ap (λ (b : Bool). cond b (digits_after base limit n rest) None) s

      by : (t : Bool) → eqb (n / base) 0 ≡ t
          → (0 < n / base → number_read base limit (digits base upper (n / base) ++ g ∷ rest) ≡ digits_after base limit (n / base) (g ∷ rest))
          → number_read base limit (digits base upper n ++ rest) ≡ digits_after base limit n rest
      by true e h =
          let l = is.small n (eqb-true _ 0 e) in
          ap (λ (x : List ℕ). number_read base limit (x ++ rest)) (digits_one n l) ∙ one l
      by false e h =
          let other : n / base ≢ 0 = λ z. true≢false (sym (eq-eqb _ 0 z) ∙ e) in
          let l : 0 < n / base = omega arith in
          ap (λ (x : List ℕ). number_read base limit (x ++ rest)) (digits_step n (omega arith) l)
          ∙ ap (λ (x : List ℕ). number_read base limit x) (append_assoc (digits base upper (n / base)) (g ∷ []) rest) ∙ h l ∙ more

  pub after_end : (limit n : ℕ) (rest : List ℕ) → has_digit base rest ≡ false → digits_after base limit n rest ≡ Some (n, rest)
  after_end limit n [] e = refl
  after_end limit n (c ∷ cs) e = ap (λ (t : Bool). cond t (cond (ltb (n * base + digit_of c) limit) (digits_after base limit (n * base + digit_of c) cs) None) (Some (n, c ∷ cs))) e

  -- the digits of a number are read as that number
  pub number_again : (limit : ℕ) → limit ≤ 2 ^ 64 → (n : ℕ) → n < limit → (rest : List ℕ) → has_digit base rest ≡ false
      → number_read base limit (digits base upper n ++ rest) ≡ Some (n, rest)
  number_again limit fits zero low rest e =
      let d = is.reads 0 is.some in
      let t : ltb (digit_of (digit_glyph upper 0)) base ≡ true = lt-ltb _ _ (omega (arith, is.some)) in
      let s : eqb (digit_of (digit_glyph upper 0)) 0 ≡ true = eq-eqb _ 0 d in
      ap (λ (x : List ℕ). number_read base limit (x ++ rest)) (digits_one 0 is.some)
      ∙ (λ i. cond (t i) (cond (s i) (cond (e i) None (Some (0, rest))) (digits_after base limit (digit_of (digit_glyph upper 0)) rest)) None)
  number_again limit fits (suc n) low rest e =
      read_digits limit fits 64 (suc n) (omega arith) (omega arith) low rest ∙ after_end limit (suc n) rest e
