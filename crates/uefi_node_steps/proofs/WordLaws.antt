-- The laws of words.
use Rattle.std.proofs.Common.{◌≡◌, ℕ, ◌^◌, ◌<◌, ◌≤◌, Bool, true, false, cond, eqb, ltb, List, [], ◌∷◌, ◌++◌, ◌&&◌, not, refl, subst, sym, ap, ◌∙◌}
use Rattle.std.proofs.lemmas.Bool.{and_parts, cond-false, cond-true}
use Rattle.std.specs.Char.{to_ascii_uppercase}
use Rattle.std.specs.Fmt.{digits}
use Rattle.std.specs.List.{list_all}
use Rattle.std.specs.Prelude.{Option, Some, None, Ok, Err}
use borrow.Author.Tests.{eq-eqb, eqb-true, ltb-true}
use Rattle.uefi_node_steps.specs.Leaves.{IsNumber, Number, Read, Word, any_number, are_parted, are_sound_words, clash, digit_of, ends_at, has_digit, has_word, have_no_blank, is_blank, letters_read, or_word, or_zero, past_blanks, suits, word_of, word_read, word_text, zero_read, zero_text}
use Rattle.uefi_node_steps.specs.declared.steps.Expected.{Expected}
use Rattle.uefi_node_steps.proofs.LeafLaws.{letters_again, letters_go, no_blank}
use Rattle.uefi_node_steps.proofs.Combinations.{Goes, Keeps, OptionGoes, expect_keeps, no_is}
use Rattle.uefi_node_steps.proofs.Numbers.{decimal_over, decimal_reads}

-- a reading that stops, so that the next word is tried
abbrev pub Fails : Read (List ℕ) → Type 0
Fails r = (n : ℕ) (other : Option (ℕ × List ℕ)) → or_word n r other ≡ other

-- a text that begins with another letter
pub fails_first : (c d : ℕ) (cs ds : List ℕ) → past_blanks (d ∷ ds) ≡ d ∷ ds → eqb (to_ascii_uppercase c) (to_ascii_uppercase d) ≡ false → Fails (letters_read (c ∷ cs) (d ∷ ds))
fails_first c d cs ds b e n other = rw (b, e) refl

pub fails : (one other rest : List ℕ) → clash one other ≡ true → have_no_blank other ≡ true → Fails (letters_read one (other ++ rest))
fails [] other rest c b n o = cc
fails (c ∷ cs) [] rest e b n o = cc
fails (c ∷ cs) (d ∷ ds) rest e b n o = by (eqb (to_ascii_uppercase c) (to_ascii_uppercase d)) refl e (λ k. fails cs ds rest k parts.1 n o)
  where
    parts : (not (is_blank d) ≡ true) × (have_no_blank ds ≡ true)
    parts = and_parts (not (is_blank d)) (have_no_blank ds) b

    by : (u : Bool) → eqb (to_ascii_uppercase c) (to_ascii_uppercase d) ≡ u → cond u (clash cs ds) true ≡ true
        → (clash cs ds ≡ true → or_word n (letters_read cs (ds ++ rest)) o ≡ o) → or_word n (letters_read (c ∷ cs) (d ∷ (ds ++ rest))) o ≡ o
    by false p k h = fails_first c d cs (ds ++ rest) (no_blank d (ds ++ rest) parts.0) p n o
    by true p k h = rw (no_blank d (ds ++ rest) parts.0, p) (h k)

-- what is known of the first of words
record First (limit : ℕ) (word : Word) (words : List Word) : Type 0 where
  blanks : have_no_blank word.letters ≡ true
  small : word.number < limit
  suited : suits word.number word ≡ true
  parted : list_all (are_parted word) words ≡ true
  sound : are_sound_words limit words ≡ true

first_of_words : (limit : ℕ) (word : Word) (words : List Word) → are_sound_words limit (word ∷ words) ≡ true → First limit word words
first_of_words limit word words s =
    let both = and_parts (have_no_blank word.letters && (ltb word.number limit && suits word.number word)) _ s in
    let here = and_parts (have_no_blank word.letters) _ both.0 in
    let number = and_parts (ltb word.number limit) _ here.1 in
    let others = and_parts (list_all (are_parted word) words) _ both.1 in
    record { blanks = here.0; small = ltb-true _ _ number.0; suited = number.1; parted = others.0; sound = others.1 }

-- a word is not read where a later one is printed, and does not stand for its number
later_stops : (word : Word) (limit : ℕ) (words : List Word) (n : ℕ) (rest : List ℕ) → list_all (are_parted word) words ≡ true → are_sound_words limit words ≡ true
    → has_word words n ≡ true → Fails (letters_read word.letters (word_text words n ++ rest))
later_stops word limit [] n rest p s h = cc
later_stops word limit (other ∷ words) n rest p s h = by (suits n other) h (later_stops word limit words n rest sides.1 (first_of_words limit other words s).sound)
  where
    sides : (are_parted word other ≡ true) × (list_all (are_parted word) words ≡ true)
    sides = and_parts (are_parted word other) (list_all (are_parted word) words) p

    by : (b : Bool) → cond b (eqb other.number n) (has_word words n) ≡ true → (has_word words n ≡ true → Fails (letters_read word.letters (word_text words n ++ rest)))
        → Fails (letters_read word.letters (cond b other.letters (word_text words n) ++ rest))
    by true h i = fails word.letters other.letters rest (and_parts (clash word.letters other.letters) _ sides.0).0 (first_of_words limit other words s).blanks
    by false h i = i h

unsuited : (word : Word) (words : List Word) (n : ℕ) → list_all (are_parted word) words ≡ true → has_word words n ≡ true → suits n word ≡ false
unsuited word [] n p h = cc
unsuited word (other ∷ words) n p h = by (suits n other) h (unsuited word words n sides.1)
  where
    sides : (are_parted word other ≡ true) × (list_all (are_parted word) words ≡ true)
    sides = and_parts (are_parted word other) (list_all (are_parted word) words) p

    by : (b : Bool) → cond b (eqb other.number n) (has_word words n) ≡ true → (has_word words n ≡ true → suits n word ≡ false) → suits n word ≡ false
    by true h i = subst (λ (n : ℕ). suits n word ≡ false) (eqb-true other.number n h) (no_is _ (and_parts (clash word.letters other.letters) _ sides.0).1)
    by false h i = i h

module _ (limit : ℕ) where
  word_again : (words : List Word) → are_sound_words limit words ≡ true → (n : ℕ) (rest : List ℕ) → has_word words n ≡ true → word_read words (word_text words n ++ rest) ≡ Some (n, rest)
  word_again [] s n rest h = cc
  word_again (word ∷ words) s n rest h = by (suits n word) h (word_again words is.sound n rest)
    where
      is : First limit word words
      is = first_of_words limit word words s

      by : (b : Bool) → cond b (eqb word.number n) (has_word words n) ≡ true → (has_word words n ≡ true → word_read words (word_text words n ++ rest) ≡ Some (n, rest))
          → word_read (word ∷ words) (cond b word.letters (word_text words n) ++ rest) ≡ Some (n, rest)
      by true h i = rw (letters_again word.letters rest is.blanks) (ap (λ (n : ℕ). Some (n, rest)) (eqb-true _ _ h))
      by false h i = later_stops word limit words n rest is.parted is.sound h word.number _ ∙ i h

  word_goes : (words : List Word) → are_sound_words limit words ≡ true → (text : List ℕ) → OptionGoes (IsNumber limit words) text (word_read words text)
  word_goes [] s text = tt
  word_goes (word ∷ words) s text = by (letters_read word.letters text) (letters_go word.letters text) (word_read words text) (word_goes words is.sound text)
    where
      is : First limit word words
      is = first_of_words limit word words s

      own : has_word (word ∷ words) word.number ≡ true
      own = cond-true _ _ _ is.suited ∙ eq-eqb word.number word.number refl

      by : (r : Read (List ℕ)) → Goes (λ v. v ≡ []) text r → (o : Option (ℕ × List ℕ)) → OptionGoes (IsNumber limit words) text o
          → OptionGoes (IsNumber limit (word ∷ words)) text (or_word word.number r o)
      by (Ok read) t o g = ((is.small, own), t.1)
      by (Err stop) t None g = tt
      by (Err stop) t (Some read) g = ((g.0.0, cond-false _ _ _ (unsuited word words read.0 is.parted g.0.1) ∙ g.0.1), g.1)

  pub word_keeps : (what : Expected) (words : List Word) → are_sound_words limit words ≡ true → Keeps (word_of what words) (IsNumber limit words) (λ rest. true)
  word_keeps what words s = expect_keeps what (word_text words) (word_read words) (IsNumber limit words) (λ rest. true)
      (record { again = λ n rest f e. word_again words s n rest f.1; goes = word_goes words s })

-- a number in decimal, or a word for 0 that begins with no digit
module _ (c : ℕ) (cs : List ℕ) (blanks : have_no_blank (c ∷ cs) ≡ true) (letter : (d : ℕ) → digit_of (to_ascii_uppercase d) < 10 → eqb (to_ascii_uppercase c) (to_ascii_uppercase d) ≡ false)
    (limit : ℕ) (fits : limit ≤ 2 ^ 64) (some : 0 < limit) where
  no_word : (text : List ℕ) → has_digit 10 text ≡ true → past_blanks text ≡ text → Fails (letters_read (c ∷ cs) text)
  no_word [] e b = cc
  no_word (d ∷ ds) e b = fails_first c d cs ds b (letter d (ltb-true _ _ e))

  zero_again : (n : ℕ) (rest : List ℕ) → n < limit → ends_at Number rest ≡ true → zero_read (c ∷ cs) limit (zero_text (c ∷ cs) n ++ rest) ≡ Some (n, rest)
  zero_again n rest low e = by (eqb n 0) refl
    where
      by : (b : Bool) → eqb n 0 ≡ b → zero_read (c ∷ cs) limit (cond b (c ∷ cs) (digits 10 false n) ++ rest) ≡ Some (n, rest)
      by true z = rw (letters_again (c ∷ cs) rest blanks) (ap (λ (n : ℕ). Some (n, rest)) (sym (eqb-true n 0 z)))
      by false z = let o = decimal_over limit fits some n rest low e in no_word _ o.begins o.blanks 0 _ ∙ (decimal_reads limit fits some).again n rest low e

  zero_goes : (text : List ℕ) → OptionGoes (λ n. n < limit) text (zero_read (c ∷ cs) limit text)
  zero_goes text = by (letters_read (c ∷ cs) text) (letters_go (c ∷ cs) text)
    where
      by : (r : Read (List ℕ)) → Goes (λ v. v ≡ []) text r → OptionGoes (λ n. n < limit) text (or_word 0 r (any_number limit (past_blanks text)))
      by (Ok read) t = (some, t.1)
      by (Err stop) t = (decimal_reads limit fits some).goes text

  pub zero_keeps : Keeps (or_zero (c ∷ cs) limit) (λ n. n < limit) (ends_at Number)
  zero_keeps = expect_keeps _ (zero_text (c ∷ cs)) (zero_read (c ∷ cs) limit) (λ n. n < limit) (ends_at Number) (record { again = zero_again; goes = zero_goes })
