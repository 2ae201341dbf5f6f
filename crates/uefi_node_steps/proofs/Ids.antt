-- The laws of EISA IDs.
use Rattle.std.proofs.Common.{◌≡◌, ℕ, ◌+◌, ◌*◌, ◌/◌, ◌%◌, ◌<◌, Bool, true, false, cond, eqb, ltb, List, [], ◌∷◌, ◌++◌, ◌&&◌, not, length, refl, ap, sym, ◌∙◌, append_assoc, arith}
use Rattle.std.proofs.lemmas.Bool.{and_parts}
use Rattle.std.proofs.lemmas.Bool.Decides.{nat_tests}
use Rattle.std.specs.Char.{to_ascii_uppercase}
use Rattle.std.specs.Prelude.{Option, Some, None, Ok, Err, codes, if◌then◌else◌, option_and_then}
use Rattle.std.proofs.Common.{◌≤◌}
use borrow.Author.Tests.{eqb-true, lt-ltb, ltb-true}
use Rattle.uefi_device_nodes.specs.FieldTexts.{eisa_bits, eisa_letter, eisa_text, hex_four, hex_two}
use Rattle.uefi_device_nodes.proofs.ShownFields.{printable_code}
use Rattle.uefi_node_steps.specs.Leaves.{IsId, Read, eisa, eisa_read, id_digits, id_letters, is_blank, letter_of, letters_read, or_word, pair_read, past_blanks}
use Rattle.uefi_node_steps.specs.declared.steps.Expected.TheVariants as expected
use Rattle.uefi_node_steps.proofs.LeafLaws.{blanks_shorter, letters_go, no_blank, pair_again, pair_goes}
use Rattle.uefi_node_steps.proofs.Combinations.{Goes, Keeps, OptionGoes, expect_keeps, if_case, option_longer}
use Rattle.uefi_node_steps.proofs.WordLaws.{fails_first}

-- what is used of a letter of an ID
record IsLetter (n letter : ℕ) : Type 0 where
  reads : letter_of (to_ascii_uppercase letter) ≡ n
  no_space : not (is_blank letter) ≡ true
  no_zero : eqb (to_ascii_uppercase 48) (to_ascii_uppercase letter) ≡ false

letter_is : (n : ℕ) → n < 32 → IsLetter n (n + 64)
letter_is n l = record { reads = grind (arith, nat_tests); no_space = grind (arith, nat_tests); no_zero = grind (arith, nat_tests) }

one_letter : (n : ℕ) → eisa_letter n ≡ (n % 32 + 64) ∷ []
unfolding eisa_letter
one_letter n = let low : n % 32 < 32 = omega arith in printable_code (n % 32 + 64) (grind (arith, nat_tests))

-- three letters, and four digits
letters_again : (a b c : ℕ) (rest : List ℕ) → a < 32 → b < 32 → c < 32
    → id_letters (past_blanks ((a + 64) ∷ (b + 64) ∷ (c + 64) ∷ rest)) ≡ Some (a * 1024 + b * 32 + c, rest)
letters_again a b c rest la lb lc =
    let first = letter_is a la in
    let second = letter_is b lb in
    let third = letter_is c lc in
    rw (no_blank (a + 64) ((b + 64) ∷ (c + 64) ∷ rest) first.no_space, first.reads, second.reads, third.reads, lt-ltb a 32 la, lt-ltb b 32 lb, lt-ltb c 32 lc) refl

digits_again : (letters high low n : ℕ) (rest : List ℕ) → high < 256 → low < 256 → letters + (high * 256 + low) * 65536 ≡ n → eqb n 0 ≡ false
    → id_digits (Some (letters, hex_two high ++ (hex_two low ++ rest))) ≡ Some (n, rest)
digits_again letters high low n rest lh ll e some = rw (pair_again high (hex_two low ++ rest) lh, pair_again low rest ll, e, some) refl

some_again : (n : ℕ) (rest : List ℕ) → IsId n → eqb n 0 ≡ false
    → eisa_read ((eisa_letter (n / 1024) ++ (eisa_letter (n / 32) ++ (eisa_letter n ++ hex_four (n / 65536)))) ++ rest) ≡ Some (n, rest)
unfolding hex_four
some_again n rest f some =
    let a : n / 1024 % 32 < 32 = omega arith in
    let b : n / 32 % 32 < 32 = omega arith in
    let c : n % 32 < 32 = omega arith in
    let sum : (n / 1024 % 32) * 1024 + (n / 32 % 32) * 32 + n % 32 + (n / 65536 / 256 * 256 + n / 65536 % 256) * 65536 ≡ n = omega (arith, f.1) in
    let digits : List ℕ = hex_two (n / 65536 / 256) ++ (hex_two (n / 65536 % 256) ++ rest) in
    let more : List ℕ = (n / 32 % 32 + 64) ∷ (n % 32 + 64) ∷ digits in
    let first = letter_is (n / 1024 % 32) a in
    rw (one_letter (n / 1024), one_letter (n / 32), one_letter n, append_assoc)
    (fails_first 48 (n / 1024 % 32 + 64) [] more (no_blank _ more first.no_space) first.no_zero 0 _
    ∙ ap id_digits (letters_again (n / 1024 % 32) (n / 32 % 32) (n % 32) digits a b c)
    ∙ digits_again _ (n / 65536 / 256) (n / 65536 % 256) n rest (omega (arith, f.0)) (omega arith) sum some)

id_again : (n : ℕ) (rest : List ℕ) → IsId n → eisa_read (eisa_text n ++ rest) ≡ Some (n, rest)
unfolding eisa_text
id_again n rest f = by (eqb (eisa_bits n) 0) refl
  where
    by : (b : Bool) → eqb (eisa_bits n) 0 ≡ b
        → eisa_read (cond b (codes "0") (eisa_letter (n / 1024) ++ (eisa_letter (n / 32) ++ (eisa_letter n ++ hex_four (n / 65536)))) ++ rest) ≡ Some (n, rest)
    by true e = ap (λ (n : ℕ). Some (n, rest)) (sym (eqb-true _ 0 e) ∙ f.1)
    by false e = some_again n rest f (ap (λ (n : ℕ). eqb n 0) (sym f.1) ∙ e)

-- what is read is an ID
abbrev Letters : List ℕ → Option (ℕ × List ℕ) → Type 0
Letters = OptionGoes (λ n. n < 32768)

letters_small : (text : List ℕ) → Letters text (id_letters text)
letters_small [] = tt
letters_small (a ∷ []) = tt
letters_small (a ∷ b ∷ []) = tt
letters_small (a ∷ b ∷ c ∷ rest) = if_case (Letters (a ∷ b ∷ c ∷ rest)) (ltb (letter_of (to_ascii_uppercase a)) 32 && (ltb (letter_of (to_ascii_uppercase b)) 32
    && ltb (letter_of (to_ascii_uppercase c)) 32)) _ _
    (λ e.
    let first = and_parts (ltb (letter_of (to_ascii_uppercase a)) 32) _ e in
    let others = and_parts (ltb (letter_of (to_ascii_uppercase b)) 32) _ first.1 in
    (omega (arith, ltb-true _ 32 first.0, ltb-true _ 32 others.0, ltb-true _ 32 others.1), omega arith)) (λ e. tt)

digits_small : (text : List ℕ) (r : Option (ℕ × List ℕ)) → Letters text r → OptionGoes IsId text (id_digits r)
digits_small text None l = tt
digits_small text (Some letters) l = high (pair_read letters.1) (pair_goes letters.1)
  where
    low : (h : ℕ) (rest : List ℕ) → h < 256 → length rest ≤ length text → (r : Option (ℕ × List ℕ)) → OptionGoes (λ b. b < 256) rest r
        → OptionGoes IsId text (option_and_then (λ (low : ℕ × List ℕ). if eqb (letters.0 + (h * 256 + low.0) * 65536) 0 then None else Some (letters.0 + (h * 256 + low.0) * 65536, low.1)) r)
    low h rest small short None g = tt
    low h rest small short (Some b) g = if_case (OptionGoes IsId text) (eqb (letters.0 + (h * 256 + b.0) * 65536) 0) None (Some (letters.0 + (h * 256 + b.0) * 65536, b.1))
        (λ e. tt) (λ e. ((omega (arith, l.0, small, g.0), omega (arith, l.0)), omega (arith, short, g.1)))

    high : (r : Option (ℕ × List ℕ)) → OptionGoes (λ b. b < 256) letters.1 r → OptionGoes IsId text (option_and_then (λ (high : ℕ × List ℕ). option_and_then (λ (low : ℕ × List ℕ).
        if eqb (letters.0 + (high.0 * 256 + low.0) * 65536) 0 then None else Some (letters.0 + (high.0 * 256 + low.0) * 65536, low.1)) (pair_read high.1)) r)
    high None g = tt
    high (Some h) g = low h.0 h.1 g.0 (omega (arith, l.1, g.1)) (pair_read h.1) (pair_goes h.1)

id_goes : (text : List ℕ) → OptionGoes IsId text (eisa_read text)
id_goes text = by (letters_read (codes "0") text) (letters_go (codes "0") text)
  where
    by : (r : Read (List ℕ)) → Goes (λ v. v ≡ []) text r → OptionGoes IsId text (or_word 0 r (id_digits (id_letters (past_blanks text))))
    by (Ok read) g = ((omega arith, refl), g.1)
    by (Err stop) g = option_longer IsId text (past_blanks text) _ (blanks_shorter text) (digits_small (past_blanks text) _ (letters_small (past_blanks text)))

pub eisa_keeps : Keeps eisa IsId (λ rest. true)
eisa_keeps = expect_keeps expected.Id eisa_text eisa_read IsId (λ rest. true) (record { again = λ n rest f e. id_again n rest f; goes = id_goes })
