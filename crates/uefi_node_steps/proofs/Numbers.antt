-- Numbers are read back from their digits.
use Rattle.std.proofs.Common.{◌≡◌, ℕ, zero, suc, ◌+◌, ◌-◌, ◌*◌, ◌/◌, ◌%◌, ◌^◌, ◌<◌, ◌≤◌, Bool, true, false, eqb, ltb, List, [], ◌∷◌, ◌++◌, ◌&&◌, ◌||◌, cond, not, length, refl, ap, sym, subst, ◌∙◌, append_assoc, inl, inr, arith}
use native.Mathlib.Nat.{pow-suc, pow-zero}
use borrow.Author.Tests.{lt-ltb, ltb-true}
use Rattle.std.specs.Prelude.{Option, Some, None, codes}
use Rattle.std.specs.Char.{to_ascii_uppercase}
use Rattle.std.specs.Fmt.{digits, digit_glyph}
use Rattle.std.proofs.lemmas.Bool.{cases_lt, cond-true, cond-false}
use Rattle.std.proofs.lemmas.Bool.Decides.{nat_tests}
use Rattle.uefi_node_steps.specs.Leaves.{Number, after_base, any_number, by_base, decimal, digit_of, digits_read, ends_at, has_digit, hexadecimal_or, next_number, number_read, only, past_blanks}
use Rattle.uefi_node_steps.specs.declared.steps.Expected.{Expected}
use Rattle.uefi_node_steps.specs.declared.steps.Expected.TheVariants as expected
use Rattle.uefi_node_steps.proofs.LeafLaws.{IsDigit, blanks_shorter, no_blank, upper_digit}
use Rattle.uefi_node_steps.proofs.Combinations.{Keeps, OptionGoes, Reads, expect_keeps, if_case, mapped_keeps, no_is, only_keeps, option_longer}
use Rattle.uefi_text.proofs.Numerals.{digits_last, digits_more}

-- a text that does not begin with `0x`
pub base_none : (c d : ℕ) (rest : List ℕ) → eqb (to_ascii_uppercase d) 88 ≡ false → after_base (c ∷ d ∷ rest) ≡ None
base_none c d rest e = rw e (by (eqb c 48))
  where
    by : (b : Bool) → cond (b && false) (Some rest) None ≡ None
    by true = refl
    by false = refl

pub not_of_number : (d x : Bool) → not (d || x) ≡ true → d ≡ false
not_of_number true x e = cc
not_of_number false x e = refl

-- what is used of a base, and of the case of its letters
pub record IsBase (base : ℕ) (upper : Bool) : Type 0 where
  pub digit : (d : ℕ) → d < base → IsDigit d (digit_glyph upper d)
  pub halves : (n : ℕ) → n / base ≤ n / 2
  pub remainder : (n : ℕ) → n % base < base
  pub whole : (n : ℕ) → n / base * base + n % base ≡ n
  pub two : 2 ≤ base
  pub sixteen : base ≤ 16

hexadecimal_base : IsBase 16 true
hexadecimal_base = record { digit = upper_digit; halves = λ n. omega arith; remainder = λ n. omega arith; whole = λ n. omega arith; two = omega arith; sixteen = omega arith }

pub decimal_base : IsBase 10 false
decimal_base = record {
  digit = λ d l. record { reads = grind (arith, nat_tests); folds = grind (arith, nat_tests); no_blank = grind (arith, nat_tests); no_x = grind (arith, nat_tests) };
  halves = λ n. omega arith;
  remainder = λ n. omega arith;
  whole = λ n. omega arith;
  two = omega arith;
  sixteen = omega arith;
}

not_below : (a b c : ℕ) → b ≤ c → ltb a c ≡ false → ltb a b ≡ false
not_below a b c l e = grind (arith, nat_tests)

abbrev no_x : List ℕ → Bool
no_x [] = true
no_x (c ∷ cs) = not (eqb (to_ascii_uppercase c) 88)

not_x : (d x : Bool) → not (d || x) ≡ true → not x ≡ true
not_x true x e = cc
not_x false x e = e

ends_no_x : (text : List ℕ) → ends_at Number text ≡ true → no_x text ≡ true
ends_no_x [] e = refl
ends_no_x (c ∷ cs) e = not_x _ _ e

module _ (base : ℕ) (upper : Bool) (is : IsBase base upper) (limit : ℕ) (fits : limit ≤ 2 ^ 64) where
  no_digit : (cs : List ℕ) → ends_at Number cs ≡ true → has_digit base cs ≡ false
  no_digit [] e = refl
  no_digit (c ∷ cs) e = not_below _ base 16 is.sixteen (not_of_number _ _ e)

  ended : (n : ℕ) (text : List ℕ) → has_digit base text ≡ false → digits_read base limit n text ≡ Some (n, text)
  ended n [] e = refl
  ended n (c ∷ cs) e = cond-false _ _ _ e

  digits_go : (text : List ℕ) (n : ℕ) → n < limit → OptionGoes (λ n. n < limit) text (digits_read base limit n text)
  digits_go [] n low = (low, omega arith)
  digits_go (c ∷ cs) n low = if_case (OptionGoes (λ n. n < limit) (c ∷ cs)) (ltb (digit_of (to_ascii_uppercase c)) base) _ _
      (λ t. if_case (OptionGoes (λ n. n < limit) (c ∷ cs)) (ltb (n * base + digit_of (to_ascii_uppercase c)) limit) _ _
      (λ s. option_longer (λ n. n < limit) (c ∷ cs) cs _ (omega arith) (digits_go cs (n * base + digit_of (to_ascii_uppercase c)) (ltb-true _ _ s))) (λ s. tt))
      (λ t. (low, omega arith))

  pub number_goes : 0 < limit → (text : List ℕ) → OptionGoes (λ n. n < limit) text (number_read base limit text)
  number_goes some text = if_case (OptionGoes (λ n. n < limit) text) (has_digit base text) _ _ (λ e. digits_go text 0 some) (λ e. tt)

  -- reading goes over the digits of a number, which do not begin with `0x`
  pub record Over (n : ℕ) (text rest : List ℕ) : Type 0 where
    pub begins : has_digit base text ≡ true
    pub blanks : past_blanks text ≡ text
    pub none : after_base text ≡ None
    pub read : digits_read base limit 0 text ≡ digits_read base limit n rest

  digit_on : (m n d : ℕ) (rest : List ℕ) → d < base → m * base + d ≡ n → n < limit
      → digits_read base limit m (digit_glyph upper d ∷ rest) ≡ digits_read base limit n rest
  digit_on m n d rest l e low =
      let g = is.digit d l in
      rw (g.folds, g.reads, lt-ltb d base l, e, lt-ltb n limit low) refl

  lone_none : (c : ℕ) (rest : List ℕ) → no_x rest ≡ true → after_base (c ∷ rest) ≡ None
  lone_none c [] e = refl
  lone_none c (d ∷ ds) e = base_none c d ds (no_is _ e)

  alone : (n : ℕ) (rest : List ℕ) → n < base → n < limit → no_x rest ≡ true → Over n (digit_glyph upper n ∷ rest) rest
  alone n rest l low x =
      let g = is.digit n l in
      record {
        begins = rw (g.folds, g.reads) (lt-ltb n base l);
        blanks = no_blank (digit_glyph upper n) rest g.no_blank;
        none = lone_none (digit_glyph upper n) rest x;
        read = digit_on 0 n n rest l (omega arith) low;
      }

  pub over : (k n : ℕ) → n < 2 ^ k → n < limit → (rest : List ℕ) → no_x rest ≡ true → Over n (digits base upper n ++ rest) rest
  over zero n p low rest x = subst (λ t. Over n (t ++ rest) rest) (sym (digits_last base upper is.two n (omega (arith, pow-zero 2, is.two)))) (alone n rest (omega (arith, pow-zero 2, is.two)) low x)
  over (suc k) n p low rest x = elim (cases_lt n base) [
    | inl less ↦ subst (λ t. Over n (t ++ rest) rest) (sym (digits_last base upper is.two n less)) (alone n rest less low x)
    | inr large ↦
        let g = is.digit (n % base) (is.remainder n) in
        let o = over k (n / base) (omega (arith, is.halves n, pow-suc 2 k)) (omega (arith, is.halves n)) (digit_glyph upper (n % base) ∷ rest) (rw (g.folds, g.no_x) refl) in
        subst (λ t. Over n (t ++ rest) rest) (digits_more base upper is.two n large (omega arith)) (rw append_assoc (record {
          begins = o.begins;
          blanks = o.blanks;
          none = o.none;
          read = o.read ∙ digit_on (n / base) n (n % base) rest (is.remainder n) (is.whole n) low;
        }))
  ]

  pub number_again : (n : ℕ) (rest : List ℕ) → n < limit → ends_at Number rest ≡ true → number_read base limit (digits base upper n ++ rest) ≡ Some (n, rest)
  number_again n rest low e =
      let o = over 64 n (omega arith) low rest (ends_no_x rest e) in
      cond-true _ _ _ o.begins ∙ o.read ∙ ended n rest (no_digit rest e)

abbrev Shorter : List ℕ → Option (List ℕ) → Type 0
Shorter text None = Unit {0}
Shorter text (Some rest) = length rest ≤ length text

base_shorter : (text : List ℕ) → Shorter text (after_base text)
base_shorter [] = tt
base_shorter (c ∷ []) = tt
base_shorter (c ∷ d ∷ text) = if_case (Shorter (c ∷ d ∷ text)) (eqb c 48 && eqb (to_ascii_uppercase d) 88) _ _ (λ e. omega arith) (λ e. tt)

module _ (limit : ℕ) (fits : limit ≤ 2 ^ 64) (some : 0 < limit) where
  any_goes : (text : List ℕ) → OptionGoes (λ n. n < limit) text (any_number limit (past_blanks text))
  any_goes text = option_longer (λ n. n < limit) text (past_blanks text) _ (blanks_shorter text) (by (past_blanks text) (after_base (past_blanks text)) (base_shorter (past_blanks text)))
    where
      by : (text : List ℕ) (r : Option (List ℕ)) → Shorter text r → OptionGoes (λ n. n < limit) text (by_base limit text r)
      by text None l = number_goes 10 false decimal_base limit fits some text
      by text (Some rest) l = option_longer (λ n. n < limit) text rest _ l (number_goes 16 true hexadecimal_base limit fits some rest)

  pub decimal_over : (n : ℕ) (rest : List ℕ) → n < limit → ends_at Number rest ≡ true → Over 10 false decimal_base limit fits n (digits 10 false n ++ rest) rest
  decimal_over n rest low e = over 10 false decimal_base limit fits 64 n (omega arith) low rest (ends_no_x rest e)

  pub decimal_reads : Reads (digits 10 false) (λ text. any_number limit (past_blanks text)) (λ n. n < limit) (ends_at Number)
  decimal_reads = record {
    again = λ n rest low e. let o = decimal_over n rest low e in ap (any_number limit) o.blanks ∙ ap (by_base limit (digits 10 false n ++ rest)) o.none
        ∙ number_again 10 false decimal_base limit fits n rest low e;
    goes = any_goes;
  }

  pub hexadecimal_reads : Reads (λ n. codes "0x" ++ digits 16 true n) (λ text. any_number limit (past_blanks text)) (λ n. n < limit) (ends_at Number)
  hexadecimal_reads = record { again = λ n rest low e. number_again 16 true hexadecimal_base limit fits n rest low e; goes = any_goes }

  pub decimal_keeps : Keeps (decimal limit) (λ n. n < limit) (ends_at Number)
  decimal_keeps = expect_keeps _ _ _ _ _ decimal_reads

  pub hexadecimal_keeps : (what : Expected) → Keeps (hexadecimal_or what limit) (λ n. n < limit) (ends_at Number)
  hexadecimal_keeps what = expect_keeps _ _ _ _ _ hexadecimal_reads

-- one more than a number
pub next_keeps : (limit : ℕ) → limit < 2 ^ 64 → Keeps (next_number limit) (λ n. n < limit) (ends_at Number)
next_keeps limit fits = mapped_keeps (λ n. n - 1) (λ n. n + 1) (only (λ n. ltb 0 n) (expected.NumberFromOne limit) (hexadecimal_or (expected.NumberFromOne limit) (limit + 1)))
    (λ n. (n < limit + 1) × (ltb 0 n ≡ true)) (λ n. n < limit) (ends_at Number)
    (only_keeps (λ n. ltb 0 n) (expected.NumberFromOne limit) (hexadecimal_or (expected.NumberFromOne limit) (limit + 1)) (λ n. n < limit + 1)
    (ends_at Number) (hexadecimal_keeps (limit + 1) (omega arith) (omega arith) (expected.NumberFromOne limit)))
    (λ n f. let some = ltb-true 0 n f.1 in (omega (arith, f.0, some), omega (arith, some)))
    (λ n f. ((omega (arith, f), lt-ltb 0 (n + 1) (omega arith)), omega arith))
