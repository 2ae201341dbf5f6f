-- Fields of digits alone, which part from others where they end.
use Rattle.std.proofs.Common.{◌≡◌, ◌≢◌, ℕ, zero, suc, ◌/◌, ◌%◌, ◌^◌, ◌<◌, ◌≤◌, Bool, true, false, true≢false, eqb, ltb, not, ◌&&◌, List, [], ◌∷◌, ◌++◌, reverse, refl, sym, ap, ◌∙◌, arith}
use Rattle.std.proofs.lemmas.Bool.{and_from, and_parts}
use Rattle.std.specs.Prelude.{All, Option, Some, None, option_and_then}
use Rattle.std.specs.Fmt.{digits, digit_glyph}
use Rattle.std.specs.List.{list_all}
use Rattle.std.proofs.lemmas.List.Elements.{All-head, All-tail}
use Rattle.std.proofs.lemmas.List.Folds.{list_all-append}
use native.Mathlib.Nat.{pow-suc, pow-zero}
use borrow.Author.Tests.{eq-eqb, eqb-true, lt-ltb}
use Rattle.uefi_text.specs.Packed.{IsByte, little_endian}
use Rattle.uefi_device_nodes.specs.FieldTexts.{hex_back, hex_bytes, hex_two}
use Rattle.uefi_device_nodes.specs.Fields.{field_text, fits_shape}
use Rattle.uefi_device_nodes.specs.Rows.{Piece}
use Rattle.uefi_device_nodes.specs.declared.node_table.rows.Shape.{Shape}
use Rattle.uefi_device_nodes.specs.declared.node_table.rows.Shape.TheVariants.{Hexadecimal, Decimal, OrDefault, Back, Forth, Dashed, Next, Eisa, Word}
use Rattle.uefi_node_reader.specs.FieldReading.{IsValue, field_read}
use Rattle.uefi_node_reader.specs.Numerals.{digit_of}
use Rattle.uefi_node_reader.specs.TableReading.{are_parted, ends_apart, is_digits, piece_put, put_at}
use Rattle.uefi_node_reader.specs.WordReading.{after}
use Rattle.uefi_node_reader.proofs.Digits.{IsBase, decimal_base, digits_one, digits_step, hexadecimal}
use Rattle.uefi_node_reader.proofs.FieldLaws.{field_takes, limits, number_bounds, reversed_is, value_bound}
use Rattle.uefi_device_nodes.proofs.GuidTexts.{two_digits}
use Rattle.uefi_node_reader.proofs.Literals.{after_takes}

-- the test for texts of digits alone
abbrev is_digit : ℕ → Bool
is_digit c = ltb (digit_of c) 16

abbrev are_digits : List ℕ → Bool
are_digits text = list_all is_digit text

one_digit : (base : ℕ) (upper : Bool) → IsBase base upper → base ≤ 16 → (d : ℕ) → d < base → is_digit (digit_glyph upper d) ≡ true
one_digit base upper is small d low = lt-ltb (digit_of (digit_glyph upper d)) 16 (omega (arith, is.reads d low))

joined : (xs ys : List ℕ) → are_digits xs ≡ true → are_digits ys ≡ true → are_digits (xs ++ ys) ≡ true
joined xs ys e f = list_all-append is_digit xs ys ∙ and_from _ _ e f

-- a number
number_digits : (base : ℕ) (upper : Bool) → IsBase base upper → base ≤ 16 → (k n : ℕ) → n < 2 ^ k → n < 2 ^ 64 → are_digits (digits base upper n) ≡ true
number_digits base upper is small zero n l fits =
    let low : n < base = omega (arith, pow-zero 2, is.some) in
    ap are_digits (digits_one base upper is n low) ∙ and_from _ true (one_digit base upper is small n low) refl
number_digits base upper is small (suc k) n l fits =
    by (eqb (n / base) 0) refl (number_digits base upper is small k (n / base) (omega (arith, is.halves n, pow-suc 2 k)) (omega (arith, is.halves n)))
  where
    by : (b : Bool) → eqb (n / base) 0 ≡ b → are_digits (digits base upper (n / base)) ≡ true → are_digits (digits base upper n) ≡ true
    by true p h =
        let low = is.small n (eqb-true _ 0 p) in
        ap are_digits (digits_one base upper is n low) ∙ and_from _ true (one_digit base upper is small n low) refl
    by false p h =
        let other : n / base ≢ 0 = λ z. true≢false (sym (eq-eqb _ 0 z) ∙ p) in
        ap are_digits (digits_step base upper is n fits (omega arith))
        ∙ joined (digits base upper (n / base)) (digit_glyph upper (n % base) ∷ []) h
        (and_from _ true (one_digit base upper is small (n % base) (is.remainder n)) refl)

-- bytes
bytes_digits : (bytes : List ℕ) → All IsByte bytes → are_digits (hex_bytes bytes) ≡ true
unfolding hex_bytes
bytes_digits [] all = refl
bytes_digits (b ∷ bs) all =
    let small = All-head IsByte b bs all in
    let two : are_digits (hex_two b) ≡ true = ap are_digits (two_digits b small)
    ∙ and_from _ _ (one_digit 16 true hexadecimal (omega arith) (b / 16) (omega arith))
    (and_from _ true (one_digit 16 true hexadecimal (omega arith) (b % 16) (omega arith)) refl) in
    joined (hex_two b) (hex_bytes bs) two (bytes_digits bs (All-tail IsByte b bs all))

back_digits : (width : ℕ) (bytes : List ℕ) → IsValue width bytes → are_digits (hex_back bytes) ≡ true
unfolding hex_back
back_digits width bytes is = bytes_digits (reverse bytes) (reversed_is width bytes is).1

field_number : (base : ℕ) (upper : Bool) → IsBase base upper → base ≤ 16 → (width : ℕ) → 1 ≤ width → width ≤ 8 → (value : List ℕ) → IsValue width value
    → are_digits (digits base upper (little_endian value)) ≡ true
field_number base upper is small width low high value h =
    let n : ℕ = little_endian value in
    let fits : n < 2 ^ 64 = omega (arith, value_bound width value h, (limits width low high).1) in
    number_digits base upper is small 64 n fits fits

field_digits : (shape : Shape) (width : ℕ) → fits_shape shape width ≡ true → is_digits shape ≡ true → (value : List ℕ) → IsValue width value
    → are_digits (field_text shape value) ≡ true
field_digits Hexadecimal width f d value is = let bounds = number_bounds width f in field_number 16 true hexadecimal (omega arith) width bounds.0 bounds.1 value is
field_digits Decimal width f d value is = let bounds = number_bounds width f in field_number 10 false decimal_base (omega arith) width bounds.0 bounds.1 value is
field_digits Back width f d value is = back_digits width value is
field_digits Forth width f d value is = bytes_digits value is.1
field_digits OrDefault width f d value is = cc
field_digits Dashed width f d value is = cc
field_digits Next width f d value is = cc
field_digits Eisa width f d value is = cc
field_digits (Word list) width f d value is = cc

no_digit : (b : Bool) → not b ≡ true → b ≡ true → (Z : Type 0) → Z
no_digit true e f Z = cc
no_digit false e f Z = cc

-- after digits alone the first byte that is not a digit is the same
parts : (c d : ℕ) (xs ys r s : List ℕ) → are_digits xs ≡ true → are_digits ys ≡ true → not (is_digit c) ≡ true → not (is_digit d) ≡ true
    → xs ++ c ∷ r ≡ ys ++ d ∷ s → c ≡ d
parts c d [] [] r s e f g h is = cc
parts c d [] (y ∷ ys) r s e f g h is =
    let same : c ≡ y = cc in
    no_digit (is_digit c) g (ap is_digit same ∙ (and_parts (is_digit y) (are_digits ys) f).0) _
parts c d (x ∷ xs) [] r s e f g h is =
    let same : d ≡ x = cc in
    no_digit (is_digit d) h (ap is_digit same ∙ (and_parts (is_digit x) (are_digits xs) e).0) _
parts c d (x ∷ xs) (y ∷ ys) r s e f g h is =
    let left : xs ++ c ∷ r ≡ ys ++ d ∷ s = cc in
    parts c d xs ys r s (and_parts (is_digit x) (are_digits xs) e).1 (and_parts (is_digit y) (are_digits ys) f).1 g h left

unlike : (one other xs ys r s : List ℕ) → ends_apart one other ≡ true → are_digits xs ≡ true → are_digits ys ≡ true
    → xs ++ (one ++ r) ≡ ys ++ (other ++ s) → (Z : Type 0) → Z
unlike [] other xs ys r s a e f is Z = cc
unlike (c ∷ cs) [] xs ys r s a e f is Z = cc
unlike (c ∷ cs) (d ∷ ds) xs ys r s a e f is Z =
    let tests = and_parts (not (eqb c d)) _ a in
    let digits = and_parts (not (is_digit c)) (not (is_digit d)) tests.1 in
    no_digit (eqb c d) tests.0 (eq-eqb c d (parts c d xs ys (cs ++ r) (ds ++ s) e f digits.0 digits.1 is)) Z

-- a field is not read where one stands that it parts from
pub parted_none : (p q : Piece) → are_parted p q ≡ true → fits_shape q.shape q.width ≡ true → (content value tail : List ℕ) → IsValue q.width value
    → piece_put p content (field_text q.shape value ++ (q.ending ++ tail)) ≡ None
parted_none p q a fits content value tail is = first (field_read p.shape p.width text) refl
  where
    text : List ℕ
    text = field_text q.shape value ++ (q.ending ++ tail)

    put : List ℕ → List ℕ → Option (List ℕ × List ℕ)
    put found left = Some (put_at p found content, left)

    from_value : List ℕ × List ℕ → Option (List ℕ × List ℕ)
    from_value v = option_and_then (put v.0) (after p.ending v.1)

    none : (v : List ℕ × List ℕ) → field_read p.shape p.width text ≡ Some v → (o : Option (List ℕ)) → after p.ending v.1 ≡ o → option_and_then (put v.0) o ≡ None
    none v e None i = refl
    none v e (Some rest) i =
        let tests = and_parts (is_digits p.shape && is_digits q.shape) _ a in
        let kinds = and_parts (is_digits p.shape) (is_digits q.shape) tests.0 in
        let more = and_parts (fits_shape p.shape p.width) (ends_apart p.ending q.ending) tests.1 in
        let read = field_takes p.shape p.width more.0 text v.0 v.1 e in
        let same : field_text p.shape v.0 ++ (p.ending ++ rest) ≡ text =
        ap (λ (x : List ℕ). field_text p.shape v.0 ++ x) (sym (after_takes p.ending v.1 rest i)) ∙ sym read.0 in
        unlike p.ending q.ending (field_text p.shape v.0) (field_text q.shape value) rest tail more.1
        (field_digits p.shape p.width more.0 kinds.0 v.0 read.1) (field_digits q.shape q.width fits kinds.1 value is) same _

    first : (o : Option (List ℕ × List ℕ)) → field_read p.shape p.width text ≡ o → option_and_then from_value (field_read p.shape p.width text) ≡ None
    first None e = ap (λ (o : Option (List ℕ × List ℕ)). option_and_then from_value o) e
    first (Some v) e = ap (λ (o : Option (List ℕ × List ℕ)). option_and_then from_value o) e ∙ none v e (after p.ending v.1) refl
