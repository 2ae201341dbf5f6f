-- The laws of bytes and of texts.
use Rattle.std.proofs.Common.{◌≡◌, ℕ, suc, ◌/◌, ◌%◌, ◌<◌, ◌≤◌, Bool, true, false, cond, eqb, List, [], ◌∷◌, ◌++◌, ◌&&◌, ◌||◌, not, length, reverse, refl, ap, subst, sym, ◌∙◌, append_assoc, arith}
use Rattle.std.proofs.lemmas.Bool.{and_from, and_parts, cond-true, cond-false}
use Rattle.std.proofs.lemmas.Grind.{reverse_onto}
use Rattle.std.proofs.lemmas.List.{length-reverse, reverse-reverse}
use Rattle.std.specs.Char.{to_ascii_uppercase}
use Rattle.std.specs.Fmt.{digit_glyph}
use Rattle.std.specs.List.{list_all}
use Rattle.std.specs.Prelude.{Ok}
use borrow.Author.Tests.{lt-ltb}
use Rattle.uefi_device_nodes.specs.FieldTexts.{comma_bytes, hex_back, hex_bytes, hex_two, shown_bytes}
use Rattle.uefi_device_nodes.specs.ShownFields.{is_printable}
use Rattle.uefi_device_nodes.proofs.GuidTexts.{two_digits}
use Rattle.uefi_device_nodes.proofs.ShownFields.{printable_bytes}
use Rattle.uefi_node_steps.specs.Leaves.{Bytes, Clear, Each, IsBytes, Leaf, Number, after_base, after_first, at_digits, backwards, based, bytes_after_comma, clear_run, clear_text, ends_at, first_of, from_digits, has_comma, has_pair, is_blank, is_clear, is_of_number, many, many_text, marked, or_text, pair, pairs, past_blanks, repeat, some, two_decimals}
use Rattle.uefi_node_steps.specs.Steps.{IsClear}
use Rattle.uefi_node_steps.proofs.LeafLaws.{blanks_shorter, no_blank, pair_keeps, upper_digit}
use Rattle.uefi_node_steps.proofs.Combinations.{Goes, Keeps, goes_longer, goes_next, if_case, keeps_as, mapped_keeps, next, no_is}
use Rattle.uefi_node_steps.proofs.Lists.{Tests, many_keeps, repeat_keeps}
use Rattle.uefi_node_steps.proofs.Numbers.{base_none, not_of_number}

-- the text of a byte begins with a digit, and not with `0x`
at_first : (b : ℕ) (rest : List ℕ) → b < 256 → at_digits (hex_two b ++ rest) ≡ hex_two b ++ rest
at_first b rest l =
    let high : ℕ = digit_glyph true (b / 16) in
    let low : ℕ = digit_glyph true (b % 16) in
    let h = upper_digit (b / 16) (omega arith) in
    let m = upper_digit (b % 16) (omega arith) in
    let none = ap (λ t. or_text t (after_base t)) (no_blank high (low ∷ rest) h.no_blank) ∙ ap (or_text (high ∷ low ∷ rest)) (base_none high low rest (rw m.folds m.no_x)) in
    subst (λ t. at_digits (t ++ rest) ≡ t ++ rest) (sym (two_digits b l)) none

at_digits_shorter : (text : List ℕ) → length (at_digits text) ≤ length text
at_digits_shorter text = omega (arith, base (past_blanks text), blanks_shorter text)
  where
    base : (t : List ℕ) → length (or_text t (after_base t)) ≤ length t
    base [] = omega arith
    base (c ∷ []) = omega arith
    base (c ∷ d ∷ cs) = if_case (λ o. length (or_text (c ∷ d ∷ cs) o) ≤ suc (suc (length cs))) (eqb c 48 && eqb (to_ascii_uppercase d) 88) _ _ (λ e. omega arith) (λ e. omega arith)

-- a text that begins with a byte, and a leaf whose texts do
pub record Begins (text : List ℕ) : Type 0 where
  pub byte : ℕ
  pub rest : List ℕ
  pub small : byte < 256
  pub is : text ≡ hex_two byte ++ rest

pub begins_more : (text more : List ℕ) → Begins text → Begins (text ++ more)
begins_more text more b = record {
  byte = b.byte;
  rest = b.rest ++ more;
  small = b.small;
  is = ap (λ (t : List ℕ). t ++ more) b.is ∙ append_assoc (hex_two b.byte) b.rest more;
}

begins_at : (text : List ℕ) → Begins text → at_digits text ≡ text
begins_at text b = subst (λ t. at_digits t ≡ t) (sym b.is) (at_first b.byte b.rest b.small)

module _ {V : Type 0} (leaf : Leaf V) (Fits : V → Type 0) (ends : List ℕ → Bool) (keeps : Keeps leaf Fits ends) where
  from_goes : (text : List ℕ) → Goes Fits text (leaf.read (at_digits text))
  from_goes text = goes_longer Fits text (at_digits text) _ (at_digits_shorter text) (keeps.goes (at_digits text))

  pub from_digits_keeps : ((v : V) → Fits v → Begins (leaf.text v)) → Keeps (from_digits leaf) Fits ends
  from_digits_keeps begins = record {
    again = λ v rest f e. ap leaf.read (begins_at (leaf.text v ++ rest) (begins_more (leaf.text v) rest (begins v f))) ∙ keeps.again v rest f e;
    goes = from_goes;
  }

  pub based_keeps : Keeps (based leaf) Fits ends
  based_keeps = record { again = λ v rest f e. keeps.again v rest f e; goes = from_goes }

-- a leaf whose texts do not begin with two decimal digits
module _ {V : Type 0} (leaf : Leaf V) (Fits : V → Type 0) (ends : List ℕ → Bool) (keeps : Keeps leaf Fits ends)
    (marks : (v : V) (rest : List ℕ) → two_decimals (past_blanks (leaf.text v ++ rest)) ≡ false) where
  pub marked_keeps : Keeps (marked leaf) Fits ends
  marked_keeps = record {
    again = λ v rest f e. cond-false _ _ _ (marks v rest) ∙ keeps.again v rest f e;
    goes = λ text. if_case (Goes Fits text) (two_decimals (past_blanks text)) _ _ (λ e. omega arith) (λ e. keeps.goes text);
  }

-- bytes in order, and from the last to the first
abbrev pub are_small : List ℕ → Type 0
are_small bytes = Each (λ b. b < 256) bytes

pub many_hex : (bytes : List ℕ) → many_text pair bytes ≡ hex_bytes bytes
unfolding hex_bytes
many_hex [] = refl
many_hex (b ∷ bytes) = ap (λ (t : List ℕ). hex_two b ++ t) (many_hex bytes)

pub hex_begins : (bytes : List ℕ) → 0 < length bytes → are_small bytes → Begins (hex_bytes bytes)
hex_begins [] l f = absurd (omega (arith, l))
hex_begins (b ∷ bytes) l f = record { byte = b; rest = many_text pair bytes; small = f.0; is = sym (many_hex (b ∷ bytes)) }

pub pairs_keeps : (count : ℕ) → Keeps (pairs count) (IsBytes count) (λ rest. true)
pairs_keeps count = keeps_as (repeat count pair) hex_bytes (IsBytes count) (IsBytes count) (λ rest. true) (repeat_keeps pair (λ b. b < 256) pair_keeps count)
    (λ v f. (f, sym (many_hex v))) (λ v f. (f, many_hex v))

pub each_append : (xs ys : List ℕ) → are_small xs → are_small ys → are_small (xs ++ ys)
each_append [] ys f g = g
each_append (x ∷ xs) ys f g = (f.0, each_append xs ys f.1 g)

each_reverse : (xs : List ℕ) → are_small xs → are_small (reverse xs)
each_reverse [] f = tt
each_reverse (x ∷ xs) f = subst are_small (sym (reverse_onto xs x [])) (each_append (reverse xs) (x ∷ []) (each_reverse xs f.1) (f.0, tt))

pub reversed : (width : ℕ) (bytes : List ℕ) → IsBytes width bytes → IsBytes width (reverse bytes) × (reverse (reverse bytes) ≡ bytes)
reversed width bytes f = ((length-reverse bytes ∙ f.0, each_reverse bytes f.1), reverse-reverse bytes)

pub backwards_keeps : (count : ℕ) → Keeps (backwards count) (IsBytes count) (λ rest. true)
unfolding hex_back
backwards_keeps count = mapped_keeps reverse reverse (pairs count) (IsBytes count) (IsBytes count) (λ rest. true) (pairs_keeps count) (reversed count) (reversed count)

pub back_begins : (bytes : List ℕ) → 0 < length bytes → are_small bytes → Begins (hex_back bytes)
unfolding hex_back
back_begins bytes l f = hex_begins (reverse bytes) (omega (arith, l, length-reverse bytes)) (each_reverse bytes f)

-- as many bytes as there are
no_digit : (text : List ℕ) → ends_at Number text ≡ true → has_pair text ≡ false
no_digit [] e = refl
no_digit (c ∷ cs) e = not_of_number _ _ e

byte_tests : Tests has_pair pair (λ b. b < 256) (λ rest. true) (ends_at Number)
byte_tests = record {
  no_more = no_digit;
  begins = λ b rest l. let h = upper_digit (b / 16) (omega arith) in rw (two_digits b l, h.folds, h.reads) (lt-ltb (b / 16) 16 (omega arith));
  uses = λ b l. rw (two_digits b l) (omega arith);
  at_more = λ v rest f. refl;
  at_end = λ text e. refl;
}

bytes_keep : Keeps (many has_pair pair) (are_small) (ends_at Number)
bytes_keep = many_keeps has_pair pair (λ b. b < 256) (λ rest. true) (ends_at Number) pair_keeps byte_tests

-- what ends bytes after a comma, or a list, begins with no comma
pub bytes_end : (text : List ℕ) → ends_at Bytes text ≡ true → ends_at Number text ≡ true
bytes_end [] e = refl
bytes_end (c ∷ cs) e = by (is_of_number c) (eqb c 44) (is_blank c) e
  where
    by : (n b w : Bool) → not (n || (b || w)) ≡ true → not n ≡ true
    by true b w e = e
    by false b w e = refl

pub no_comma : (text : List ℕ) → ends_at Bytes text ≡ true → has_comma text ≡ false
no_comma [] e = refl
no_comma (c ∷ cs) e = by (is_of_number c) (eqb c 44) (is_blank c) refl e
  where
    by : (n b w : Bool) → eqb c 44 ≡ b → not (n || (b || w)) ≡ true → eqb (first_of (cond w (past_blanks cs) (c ∷ cs))) 44 ≡ false
    by true b w f e = cc
    by false true w f e = cc
    by false false true f e = cc
    by false false false f e = f

-- bytes after a comma, or none
comma_again : (v rest : List ℕ) → are_small v → ends_at Bytes rest ≡ true → bytes_after_comma.read (comma_bytes v ++ rest) ≡ Ok (v, rest)
unfolding comma_bytes
comma_again [] rest f e = cond-false _ _ _ (no_comma rest e)
comma_again (byte ∷ bytes) rest f e =
    let same = many_hex (byte ∷ bytes) in
    let digits = begins_at (hex_bytes (byte ∷ bytes) ++ rest) (begins_more (hex_bytes (byte ∷ bytes)) rest (hex_begins (byte ∷ bytes) (omega arith) f)) in
    next _ _ _ _ (ap (many has_pair pair).read digits ∙ ap (λ t. (many has_pair pair).read (t ++ rest)) (sym same) ∙ bytes_keep.again (byte ∷ bytes) rest f (bytes_end rest e)) refl

some_goes : (text : List ℕ) (read : List ℕ × List ℕ) → length read.1 ≤ length text → are_small read.0 → Goes (are_small) text (some read)
some_goes text ([], rest) l f = l
some_goes text (byte ∷ bytes, rest) l f = (f, l)

pub first_shorter : (text : List ℕ) → length (after_first text) ≤ length text
first_shorter [] = omega arith
first_shorter (c ∷ cs) = omega arith

comma_goes : (text : List ℕ) → Goes (are_small) text (bytes_after_comma.read text)
comma_goes text = if_case (Goes (are_small) text) (has_comma text) _ _
    (λ e. let inner = at_digits (after_first (past_blanks text)) in
    goes_longer _ text inner _ (omega (arith, at_digits_shorter (after_first (past_blanks text)), first_shorter (past_blanks text), blanks_shorter text))
    (goes_next (are_small) (are_small) inner _ _ (bytes_keep.goes inner) (λ v rest f. some_goes rest (v, rest) (omega arith) f)))
    (λ e. (tt, omega arith))

pub comma_keeps : Keeps bytes_after_comma (are_small) (ends_at Bytes)
comma_keeps = record { again = comma_again; goes = comma_goes }

-- text
clear_again : (stop : ℕ) (v rest : List ℕ) → list_all (is_clear stop) v ≡ true → ends_at (Clear stop) rest ≡ true → clear_run stop (v ++ rest) ≡ (v, rest)
clear_again stop [] [] f e = refl
clear_again stop [] (c ∷ cs) f e = cond-false _ _ _ (no_is (is_clear stop c) e)
clear_again stop (c ∷ cs) rest f e =
    let parts = and_parts (is_clear stop c) (list_all (is_clear stop) cs) f in
    cond-true _ _ _ parts.0 ∙ ap (λ (x : List ℕ × List ℕ). (c ∷ x.0, x.1)) (clear_again stop cs rest parts.1 e)

clear_is : (stop : ℕ) (text : List ℕ) → (list_all (is_clear stop) (clear_run stop text).0 ≡ true) × (length (clear_run stop text).1 ≤ length text)
clear_is stop [] = (refl, omega arith)
clear_is stop (c ∷ cs) =
    let others = clear_is stop cs in
    if_case (λ (x : List ℕ × List ℕ). (list_all (is_clear stop) x.0 ≡ true) × (length x.1 ≤ suc (length cs))) (is_clear stop c) _ _
    (λ e. (and_from _ _ e others.0, omega (arith, others.1))) (λ e. (refl, omega arith))

pub printable : (stop : ℕ) (v : List ℕ) → list_all (is_clear stop) v ≡ true → list_all is_printable v ≡ true
printable stop [] e = refl
printable stop (c ∷ cs) e =
    let parts = and_parts (is_clear stop c) (list_all (is_clear stop) cs) e in
    and_from _ _ (and_parts (is_printable c) _ parts.0).0 (printable stop cs parts.1)

pub clear_shown : (stop : ℕ) (v : List ℕ) → list_all (is_clear stop) v ≡ true → shown_bytes v ≡ v
clear_shown stop v e = sym (printable_bytes v (printable stop v e))

pub clear_keeps : (stop : ℕ) → Keeps (clear_text stop) (IsClear stop) (ends_at (Clear stop))
clear_keeps stop = record {
  again = λ v rest f e. ap (λ t. (clear_text stop).read (t ++ rest)) (clear_shown stop v f) ∙ ap (λ x. Ok x) (clear_again stop v rest f e);
  goes = λ text. clear_is stop text;
}
