-- Words are read back, and what is read is printed so.
use Rattle.std.proofs.Common.{◌≡◌, ℕ, ◌<◌, Bool, true, false, cond, eqb, ltb, List, [], ◌∷◌, ◌||◌, ◌++◌, refl, ap, sym, subst, ◌∙◌}
use Rattle.std.proofs.lemmas.Bool.{and_parts}
use Rattle.std.specs.Prelude.{Option, Some, None, bit_and}
use Rattle.std.specs.List.{list_all}
use borrow.Author.Tests.{eqb-true, ltb-true}
use Rattle.uefi_device_nodes.specs.Words.{Word, suits, word_text}
use Rattle.uefi_node_reader.specs.WordReading.{after, all_clash, are_sound, clash, is_own, or_word, same_text, suit_all, word_number, word_read}
use Rattle.uefi_node_reader.proofs.Digits.{some_pair}
use Rattle.uefi_node_reader.proofs.Literals.{after_again, after_takes, clash_none, same_is}

-- where one word suits each number, and the first does not suit this one, a later one suits each
later : (one test others : Bool) → one || test ≡ false → one || others ≡ true → others ≡ true
later true test others p q = cc
later false test others p q = q

-- a word is not read where another stands
other_word : (one : List ℕ) (words : List Word) → list_all (λ other. clash one other.text) words ≡ true → suit_all words ≡ true
    → (n : ℕ) (rest : List ℕ) → after one (word_text words n ++ rest) ≡ None
other_word one [] c s n rest = cc
other_word one (word ∷ words) c s n rest =
    let parts = and_parts (clash one word.text) (list_all (λ other. clash one other.text) words) c in
    by (suits n word) refl parts.0 (λ h. other_word one words parts.1 h n rest)
  where
    by : (b : Bool) → suits n word ≡ b → clash one word.text ≡ true → (suit_all words ≡ true → after one (word_text words n ++ rest) ≡ None)
        → after one (cond b word.text (word_text words n) ++ rest) ≡ None
    by true p h others = clash_none one word.text rest h
    by false p h others = others (later (eqb word.mask 0) (eqb (bit_and n word.mask) word.number) (suit_all words) p s)

some_again : (words : List Word) → all_clash words ≡ true → suit_all words ≡ true → (n : ℕ) (rest : List ℕ)
    → word_read words (word_text words n ++ rest) ≡ Some (word_number words n, rest)
some_again [] c s n rest = cc
some_again (word ∷ words) c s n rest =
    let parts = and_parts (list_all (λ other. clash word.text other.text) words) (all_clash words) c in
    by (suits n word) refl parts.0 (λ h. some_again words parts.1 h n rest)
  where
    by : (b : Bool) → suits n word ≡ b → list_all (λ other. clash word.text other.text) words ≡ true
        → (suit_all words ≡ true → word_read words (word_text words n ++ rest) ≡ Some (word_number words n, rest))
        → word_read (word ∷ words) (cond b word.text (word_text words n) ++ rest) ≡ Some (cond b word.number (word_number words n), rest)
    by true p h others =
        ap (λ (o : Option (List ℕ)). or_word word.number o (word_read words (word.text ++ rest))) (after_again word.text rest)
    by false p h others =
        let some = later (eqb word.mask 0) (eqb (bit_and n word.mask) word.number) (suit_all words) p s in
        ap (λ (o : Option (List ℕ)). or_word word.number o (word_read words (word_text words n ++ rest))) (other_word word.text words h some n rest)
        ∙ others some

-- the word for a number is read as the number that it stands for
pub word_again : (words : List Word) → are_sound words ≡ true → (n : ℕ) (rest : List ℕ)
    → word_read words (word_text words n ++ rest) ≡ Some (word_number words n, rest)
word_again words h n rest =
    let parts = and_parts (all_clash words) _ h in
    some_again words parts.0 (and_parts (suit_all words) _ parts.1).0 n rest

-- what is known of a word that was read
pub record WordTaken (words : List Word) (text : List ℕ) (n : ℕ) (rest : List ℕ) : Type 0 where
  pub text_is : text ≡ word_text words n ++ rest
  pub own : word_number words n ≡ n
  pub small : n < 256

some_takes : (all words : List Word) → list_all (is_own all) words ≡ true → (text : List ℕ) (n : ℕ) (rest : List ℕ)
    → word_read words text ≡ Some (n, rest) → WordTaken all text n rest
some_takes all [] h text n rest e = cc
some_takes all (word ∷ words) h text n rest e =
    let parts = and_parts (is_own all word) (list_all (is_own all) words) h in
    by (after word.text text) refl e parts.0 (some_takes all words parts.1 text n rest)
  where
    by : (o : Option (List ℕ)) → after word.text text ≡ o → or_word word.number o (word_read words text) ≡ Some (n, rest) → is_own all word ≡ true
        → (word_read words text ≡ Some (n, rest) → WordTaken all text n rest) → WordTaken all text n rest
    by None p q own others = others q
    by (Some left) p q own others =
        let same = some_pair (word.number, left) (n, rest) q in
        let parts = and_parts (same_text (word_text all word.number) word.text) _ own in
        let numbers = and_parts (eqb (word_number all word.number) word.number) (ltb word.number 256) parts.1 in
        let text_is : text ≡ word_text all n ++ rest = after_takes word.text text left p ∙ ap (λ (x : List ℕ). x ++ left) (sym (same_is _ _ parts.0))
        ∙ (λ i. word_text all (same.0 i) ++ same.1 i) in
        record {
          text_is = text_is;
          own = ap (word_number all) (sym same.0) ∙ eqb-true _ _ numbers.0 ∙ same.0;
          small = subst (λ (k : ℕ). k < 256) same.0 (ltb-true _ _ numbers.1);
        }

-- what is read is printed so
pub word_takes : (words : List Word) → are_sound words ≡ true → (text : List ℕ) (n : ℕ) (rest : List ℕ)
    → word_read words text ≡ Some (n, rest) → WordTaken words text n rest
word_takes words h text n rest e =
    let parts = and_parts (all_clash words) _ h in
    some_takes words words (and_parts (suit_all words) _ parts.1).1 text n rest e
