-- The laws of literals and of bytes.
use Rattle.std.proofs.Common.{◌≡◌, ℕ, suc, ◌+◌, ◌*◌, ◌/◌, ◌%◌, ◌<◌, ◌≤◌, Bool, true, false, cond, eqb, ltb, List, [], ◌∷◌, ◌++◌, ◌&&◌, not, length, refl, sym, ap, subst, ◌∙◌, append_assoc, arith}
use Rattle.std.proofs.lemmas.Bool.{and_parts, cond-false}
use Rattle.std.proofs.lemmas.Bool.Decides.{nat_tests}
use Rattle.std.specs.Char.{to_ascii_uppercase}
use Rattle.std.specs.Fmt.{digit_glyph}
use Rattle.std.specs.List.{list_all}
use Rattle.std.specs.Prelude.{Some, Ok}
use borrow.Author.Tests.{eq-eqb, eqb-true, lt-ltb, ltb-true}
use Rattle.uefi_node_steps.specs.Leaves.{Leaf, after, before, digit_of, first_of, have_no_blank, is_blank, is_comma, is_spare, letter_read, letters_read, literal, pair, pair_read, past_blanks}
use Rattle.uefi_device_nodes.specs.FieldTexts.{hex_two}
use Rattle.uefi_device_nodes.proofs.GuidTexts.{two_digits}
use Rattle.uefi_node_steps.proofs.Combinations.{Goes, Keeps, OptionGoes, expect_keeps, goes_longer, goes_next, if_case, next}

-- blanks
pub blanks_shorter : (text : List ℕ) → length (past_blanks text) ≤ length text
blanks_shorter [] = omega arith
blanks_shorter (c ∷ cs) = if_case (λ (t : List ℕ). length t ≤ suc (length cs)) (is_blank c) _ _ (λ e. omega (arith, blanks_shorter cs)) (λ e. omega arith)

-- letters
abbrev is_no_blank : ℕ → Bool
is_no_blank c = not (is_blank c)

pub no_blank : (c : ℕ) (cs : List ℕ) → not (is_blank c) ≡ true → past_blanks (c ∷ cs) ≡ c ∷ cs
no_blank c cs e = by (is_blank c) e
  where
    by : (b : Bool) → not b ≡ true → cond b (past_blanks cs) (c ∷ cs) ≡ c ∷ cs
    by true e = cc
    by false e = refl

pub letters_again : (letters rest : List ℕ) → have_no_blank letters ≡ true → letters_read letters (letters ++ rest) ≡ Ok ([], rest)
letters_again [] rest e = refl
letters_again (c ∷ cs) rest e =
    let parts = and_parts (is_no_blank c) (list_all is_no_blank cs) e in
    rw (no_blank c (cs ++ rest) parts.0, eq-eqb (to_ascii_uppercase c) (to_ascii_uppercase c) refl) (letters_again cs rest parts.1)

letter_goes : (c : ℕ) (text : List ℕ) → Goes (λ v. v ≡ []) text (letter_read c text)
letter_goes c [] = omega arith
letter_goes c (t ∷ ts) = if_case (Goes (λ v. v ≡ []) (t ∷ ts)) (eqb (to_ascii_uppercase c) (to_ascii_uppercase t)) _ _ (λ e. (refl, omega arith)) (λ e. omega arith)

pub letters_go : (letters text : List ℕ) → Goes (λ v. v ≡ []) text (letters_read letters text)
letters_go [] text = (refl, omega arith)
letters_go (c ∷ cs) text = goes_longer _ text (past_blanks text) _ (blanks_shorter text)
    (goes_next (λ v. v ≡ []) (λ v. v ≡ []) (past_blanks text) _ _ (letter_goes c (past_blanks text)) (λ v rest f. letters_go cs rest))

comma_blank : (letters rest : List ℕ) → is_comma letters ≡ true → is_spare letters (past_blanks (letters ++ rest)) ≡ false
comma_blank [] rest e = cc
comma_blank (c ∷ d ∷ cs) rest e = cc
comma_blank (c ∷ []) rest e = subst (λ (c : ℕ). is_spare (c ∷ []) (past_blanks (c ∷ rest)) ≡ false) (sym (eqb-true c 44 e)) refl

spare_no : (letters rest : List ℕ) → is_spare letters (past_blanks (letters ++ rest)) ≡ false
spare_no letters rest = by (is_comma letters) refl
  where
    by : (b : Bool) → is_comma letters ≡ b → is_spare letters (past_blanks (letters ++ rest)) ≡ false
    by true e = comma_blank letters rest e
    by false e = ap (λ b. b && eqb (first_of (past_blanks (letters ++ rest))) 41) e

pub literal_keeps : (letters : List ℕ) → have_no_blank letters ≡ true → Keeps (literal letters) (λ v. v ≡ []) (λ rest. true)
literal_keeps letters n = record {
  again = λ v rest f e. cond-false _ _ _ (spare_no letters rest) ∙ letters_again letters rest n ∙ ap (λ (v : List ℕ). Ok (v, rest)) (sym f);
  goes = λ text. if_case (Goes (λ v. v ≡ []) text) (is_spare letters (past_blanks text)) _ _ (λ e. (refl, omega arith)) (λ e. letters_go letters text);
}

-- a leaf after letters, and one before letters
module _ {V : Type 0} (letters : List ℕ) (blanks : have_no_blank letters ≡ true) (leaf : Leaf V) (Fits : V → Type 0) (ends : List ℕ → Bool) (keeps : Keeps leaf Fits ends) where
  pub after_keeps : Keeps (after letters leaf) Fits ends
  after_keeps = record {
    again = λ v rest f e. rw append_assoc (next _ _ _ _ (letters_again letters (leaf.text v ++ rest) blanks) (keeps.again v rest f e));
    goes = λ text. goes_next (λ none. none ≡ []) Fits text _ _ (letters_go letters text) (λ none rest f. keeps.goes rest);
  }

  pub before_keeps : ((rest : List ℕ) → ends (letters ++ rest) ≡ true) → Keeps (before letters leaf) Fits (λ rest. true)
  before_keeps follows = record {
    again = λ v rest f e. rw append_assoc (next _ _ _ _ (keeps.again v (letters ++ rest) f (follows rest)) (next _ _ _ _ (letters_again letters rest blanks) refl));
    goes = λ text. goes_next Fits Fits text _ _ (keeps.goes text) (λ v rest f. goes_next (λ none. none ≡ []) Fits rest _ _ (letters_go letters rest) (λ none others e. (f, omega arith)));
  }

-- digits that are printed
pub record IsDigit (d glyph : ℕ) : Type 0 where
  pub reads : digit_of glyph ≡ d
  pub folds : to_ascii_uppercase glyph ≡ glyph
  pub no_blank : not (is_blank glyph) ≡ true
  pub no_x : eqb glyph 88 ≡ false

pub upper_digit : (d : ℕ) → d < 16 → IsDigit d (digit_glyph true d)
upper_digit d h = record { reads = grind (arith, nat_tests); folds = grind (arith, nat_tests); no_blank = grind (arith, nat_tests); no_x = grind (arith, nat_tests) }

-- a byte of two digits
pub pair_again : (b : ℕ) (rest : List ℕ) → b < 256 → pair_read (hex_two b ++ rest) ≡ Some (b, rest)
pair_again b rest l =
    let h = upper_digit (b / 16) (omega arith) in
    let m = upper_digit (b % 16) (omega arith) in
    let whole : b / 16 * 16 + b % 16 ≡ b = omega arith in
    rw (two_digits b l, h.folds, m.folds, h.reads, m.reads, lt-ltb (b / 16) 16 (omega arith), lt-ltb (b % 16) 16 (omega arith), whole) refl

pub pair_goes : (text : List ℕ) → OptionGoes (λ b. b < 256) text (pair_read text)
pair_goes [] = tt
pair_goes (a ∷ []) = tt
pair_goes (a ∷ b ∷ rest) = if_case (OptionGoes (λ b. b < 256) (a ∷ b ∷ rest)) (ltb (digit_of (to_ascii_uppercase a)) 16 && ltb (digit_of (to_ascii_uppercase b)) 16) _ _
    (λ e. let parts = and_parts (ltb (digit_of (to_ascii_uppercase a)) 16) _ e in
    (omega (arith, ltb-true (digit_of (to_ascii_uppercase a)) 16 parts.0, ltb-true (digit_of (to_ascii_uppercase b)) 16 parts.1), omega arith)) (λ e. tt)

pub pair_keeps : Keeps pair (λ b. b < 256) (λ rest. true)
pair_keeps = expect_keeps _ hex_two pair_read (λ b. b < 256) (λ rest. true) (record { again = λ b rest l e. pair_again b rest l; goes = pair_goes })
