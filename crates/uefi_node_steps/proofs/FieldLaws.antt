-- The laws of fields, and of all steps.
use Rattle.std.proofs.Common.{◌≡◌, ℕ, zero, suc, ◌^◌, ◌-◌, ◌<◌, ◌≤◌, Bool, true, false, cond, eqb, leb, List, [], ◌∷◌, ◌++◌, ◌&&◌, refl, sym, subst, ◌∙◌, arith}
use Rattle.std.proofs.Math.Nat.{pow-le-pow_right}
use Rattle.std.proofs.lemmas.Bool.{and_parts, cond-false, leb-true}
use Rattle.std.proofs.lemmas.Bool.Decides.{nat_tests}
use Rattle.std.specs.Char.{to_ascii_uppercase}
use Rattle.std.specs.Option.{option_map}
use Rattle.std.specs.Prelude.{nat_le, Option, Some, None, Ok, Err, codes}
use Rattle.std.proofs.Math.ListN.{replicate}
use borrow.Author.Tests.{eqb-true, ltb-true}
use Rattle.uefi_node_steps.specs.Leaves.{ByteLeaf, Bytes, Clear, IsBytes, IsId, IsNumber, Number, ◌>>=◌, any_number, backwards, based, digit_of, eisa, ends_at, expect, first_of, hexadecimal, ids_text, is_spare, low_bytes, name_text, next_number, pairs, past_blanks, spared, stop_at, two_decimals, uid_text, word_of}
use Rattle.uefi_node_steps.specs.Steps.{AreIds, FitsData, FitsShape, FitsStep, IsName, IsUid, Step, class_of, class_of_data, class_of_shape, data_leaf, field_leaf, fits_shape, is_sound_spare, is_sound_step, shape_leaf, step_leaf, words_of}
use Rattle.uefi_node_steps.specs.declared.steps.Encoding.{Encoding}
use Rattle.uefi_node_steps.specs.declared.steps.Encoding.TheVariants as encoding
use Rattle.uefi_node_steps.specs.declared.steps.Expected.TheVariants as expected
use Rattle.uefi_node_steps.specs.declared.steps.Field.{Field as FieldOf}
use Rattle.uefi_node_steps.specs.declared.steps.Items.{Items}
use Rattle.uefi_node_steps.specs.declared.steps.Shape.{Shape}
use Rattle.uefi_node_steps.specs.declared.steps.Shape.TheVariants.{Hexadecimal, Marked, Decimal, OrDefault, Next, Forth, Back, BaseForth, BaseBack, Apart, Dashed, Guid, Ipv4, Ipv6, Eisa, Word}
use Rattle.uefi_node_steps.specs.declared.steps.Stop.{Stop}
use Rattle.uefi_node_steps.specs.declared.steps.StepOf.TheVariants.{Literal, Field, Data, Many}
use Rattle.uefi_node_steps.proofs.Addresses.{apart_keeps, dashed_keeps, guid_keeps, in_bytes_keeps, ipv4_keeps, number_keeps}
use Rattle.uefi_node_steps.proofs.DataLaws.{back_begins, backwards_keeps, based_keeps, clear_keeps, comma_keeps, from_digits_keeps, hex_begins, marked_keeps, pairs_keeps}
use Rattle.uefi_node_steps.proofs.Ids.{eisa_keeps}
use Rattle.uefi_node_steps.proofs.Combinations.{Goes, Keeps, if_case}
use Rattle.uefi_node_steps.proofs.LeafLaws.{after_keeps, literal_keeps}
use Rattle.uefi_node_steps.proofs.Numbers.{decimal_keeps, hexadecimal_keeps, next_keeps}
use Rattle.uefi_node_steps.proofs.ShortAddresses.{ipv6_keeps}
use Rattle.uefi_node_steps.proofs.TextLaws.{ids_keep, name_keeps, padded_keeps, uid_keeps, units_keep}
use Rattle.uefi_node_steps.proofs.WordLaws.{word_keeps, zero_keeps}

-- the limits of numbers
limits : (width : ℕ) → nat_le 1 width && nat_le width 8 ≡ true → (256 ^ width ≤ 2 ^ 64) × (0 < 256 ^ width)
limits width e =
    let parts = and_parts (leb 1 width) (leb width 8) e in
    let least = pow-le-pow_right {n = 256} (omega arith) {i = 1} {j = width} (leb-true _ _ parts.0) in
    let most = pow-le-pow_right {n = 256} (omega arith) {i = width} {j = 8} (leb-true _ _ parts.1) in
    (omega arith, omega arith)

not_default : (d : ℕ) → digit_of (to_ascii_uppercase d) < 10 → eqb (to_ascii_uppercase 68) (to_ascii_uppercase d) ≡ false
not_default d l = grind (arith, nat_tests)

-- the same leaf at the width that it has
at_width : (leaf : ByteLeaf) (count width : ℕ) (ends : List ℕ → Bool) → eqb width count ≡ true → Keeps leaf (IsBytes count) ends → Keeps leaf (IsBytes width) ends
at_width leaf count width ends e keeps = subst (λ (n : ℕ). Keeps leaf (IsBytes n) ends) (sym (eqb-true width count e)) keeps

shape_keeps : (shape : Shape) (width : ℕ) → fits_shape shape width ≡ true → Keeps (shape_leaf shape width) (FitsShape shape width) (ends_at (class_of_shape shape))
shape_keeps Hexadecimal width e = let l = limits width e in number_keeps width _ (hexadecimal_keeps (256 ^ width) l.0 l.1 _)
shape_keeps Marked width e = let l = limits width e in number_keeps width _ (marked_keeps (hexadecimal (256 ^ width)) _ _ (hexadecimal_keeps (256 ^ width) l.0 l.1 _) (λ v rest. refl))
shape_keeps Decimal width e = let l = limits width e in number_keeps width _ (decimal_keeps (256 ^ width) l.0 l.1)
shape_keeps OrDefault width e = let l = limits width e in number_keeps width _ (zero_keeps 68 (codes "EFAULT") refl not_default (256 ^ width) l.0 l.1)
shape_keeps Next width e = number_keeps width (next_number (256 ^ width)) (subst (λ (n : ℕ). Keeps (next_number (256 ^ n)) (λ k. k < 256 ^ n) (ends_at Number)) (sym (eqb-true width 1 e))
    (next_keeps 256 (omega arith)))
shape_keeps Forth width e = from_digits_keeps (pairs width) (IsBytes width) (λ rest. true) (pairs_keeps width) (λ v f. hex_begins v (omega (arith, leb-true 1 width e, f.0)) f.1)
shape_keeps Back width e = from_digits_keeps (backwards width) (IsBytes width) (λ rest. true) (backwards_keeps width) (λ v f. back_begins v (omega (arith, leb-true 1 width e, f.0)) f.1)
shape_keeps BaseForth width e = based_keeps (pairs width) (IsBytes width) (λ rest. true) (pairs_keeps width)
shape_keeps BaseBack width e = marked_keeps (based (backwards width)) (IsBytes width) (λ rest. true) (based_keeps (backwards width) (IsBytes width) (λ rest. true)
    (backwards_keeps width)) (λ v rest. refl)
shape_keeps (Apart letter) width e = apart_keeps letter width e
shape_keeps Dashed width e = dashed_keeps width
shape_keeps Guid width e = at_width _ 16 width _ e guid_keeps
shape_keeps Ipv4 width e = at_width _ 4 width _ e ipv4_keeps
shape_keeps Ipv6 width e = at_width _ 16 width _ e ipv6_keeps
shape_keeps Eisa width e =
    let four : width ≡ 4 = eqb-true width 4 e in
    in_bytes_keeps width eisa IsId _ eisa_keeps (λ n f. rw four f.0)
shape_keeps (Word words) width e =
    let parts = and_parts (leb 1 width && leb width 8) _ e in
    in_bytes_keeps width (word_of (expected.Word words) (words_of words)) (IsNumber (256 ^ width) (words_of words)) _ (word_keeps (256 ^ width) (expected.Word words)
    (words_of words) parts.1) (λ n f. f.0)

err_ok : {V : Type 0} (stop : Stop) (v : V) → Err stop ≡ Ok v → ⊥
err_ok stop v e = cc

-- a leaf that people may leave out, which does not begin with the end of a call
module _ (leaf : ByteLeaf) (Fits : List ℕ → Type 0) (ends : List ℕ → Bool) (keeps : Keeps leaf Fits ends) (spare : List ℕ) (fits : Fits spare)
    (not_end : (text : List ℕ) → first_of (past_blanks text) ≡ 41 → (read : List ℕ × List ℕ) → leaf.read text ≡ Ok read → ⊥) where
  not_spare : (text : List ℕ) (read : List ℕ × List ℕ) → leaf.read text ≡ Ok read → is_spare (codes ",") (past_blanks text) ≡ false
  not_spare text read e = by (eqb (first_of (past_blanks text)) 41) refl
    where
      by : (b : Bool) → eqb (first_of (past_blanks text)) 41 ≡ b → b ≡ false
      by true f = absurd (not_end text (eqb-true _ _ f) read e)
      by false f = refl

  pub spared_keeps : Keeps (spared (Some spare) leaf) Fits ends
  spared_keeps = record {
    again = λ v rest f e. let read = keeps.again v rest f e in cond-false _ _ _ (not_spare (leaf.text v ++ rest) (v, rest) read) ∙ read;
    goes = λ text. if_case (Goes Fits text) (is_spare (codes ",") (past_blanks text)) _ _ (λ e. (fits, omega arith)) (λ e. keeps.goes text);
  }

-- no number begins with the end of a call
no_number : (limit : ℕ) (text : List ℕ) → first_of (past_blanks text) ≡ 41 → any_number limit (past_blanks text) ≡ None
no_number limit text e = by (past_blanks text) e
  where
    by : (t : List ℕ) → first_of t ≡ 41 → any_number limit t ≡ None
    by [] e = refl
    by (c ∷ []) e = subst (λ (c : ℕ). any_number limit (c ∷ []) ≡ None) (sym e) refl
    by (c ∷ d ∷ cs) e = subst (λ (c : ℕ). any_number limit (c ∷ d ∷ cs) ≡ None) (sym e) refl

marked_none : (width : ℕ) (b : Bool) (text : List ℕ) (read : List ℕ × List ℕ) → any_number (256 ^ width) (past_blanks text) ≡ None
    → ((cond b (Err (stop_at text expected.Base)) (expect (expected.Number (256 ^ width - 1)) text (any_number (256 ^ width) (past_blanks text)))) >>= λ v. Ok (low_bytes width v.0, v.1)) ≡ Ok read → ⊥
marked_none width true text read n r = err_ok _ _ r
marked_none width false text read n r = err_ok _ _ (rw n at r)

copies : (width spare : ℕ) → spare < 256 → IsBytes width (replicate width spare)
copies zero spare l = (refl, tt)
copies (suc width) spare l = let others = copies width spare l in (omega (arith, others.0), (l, others.1))

spare_keeps : (shape : Shape) (width spare : ℕ) → fits_shape shape width ≡ true → is_sound_spare shape (Some spare) ≡ true
    → Keeps (spared (Some (replicate width spare)) (shape_leaf shape width)) (FitsShape shape width) (ends_at (class_of_shape shape))
spare_keeps Hexadecimal width spare w s = spared_keeps (shape_leaf Hexadecimal width) (IsBytes width) (ends_at Number) (shape_keeps Hexadecimal width w) (replicate width spare)
    (copies width spare (ltb-true _ _ s))
    (λ text e read r. let n = no_number (256 ^ width) text e in absurd (err_ok _ _ (rw n at r)))
spare_keeps Decimal width spare w s = spared_keeps (shape_leaf Decimal width) (IsBytes width) (ends_at Number) (shape_keeps Decimal width w) (replicate width spare) (copies width spare
    (ltb-true _ _ s))
    (λ text e read r. let n = no_number (256 ^ width) text e in absurd (err_ok _ _ (rw n at r)))
spare_keeps Marked width spare w s = spared_keeps (shape_leaf Marked width) (IsBytes width) (ends_at Number) (shape_keeps Marked width w) (replicate width spare)
    (copies width spare (ltb-true _ _ s))
    (λ text e read r. marked_none width (two_decimals (past_blanks text)) text read (no_number (256 ^ width) text e) r)
spare_keeps OrDefault width spare w s = cc
spare_keeps Next width spare w s = cc
spare_keeps Forth width spare w s = cc
spare_keeps Back width spare w s = cc
spare_keeps BaseForth width spare w s = cc
spare_keeps BaseBack width spare w s = cc
spare_keeps (Apart letter) width spare w s = cc
spare_keeps Dashed width spare w s = cc
spare_keeps Guid width spare w s = cc
spare_keeps Ipv4 width spare w s = cc
spare_keeps Ipv6 width spare w s = cc
spare_keeps Eisa width spare w s = cc
spare_keeps (Word words) width spare w s = cc

pub field_keeps : (f : FieldOf) → fits_shape f.shape f.width ≡ true → is_sound_spare f.shape f.spare ≡ true → Keeps (field_leaf f) (FitsShape f.shape f.width) (ends_at (class_of_shape f.shape))
field_keeps f w s = by f.spare s
  where
    by : (spare : Option ℕ) → is_sound_spare f.shape spare ≡ true
        → Keeps (spared (option_map (replicate f.width) spare) (shape_leaf f.shape f.width)) (FitsShape f.shape f.width) (ends_at (class_of_shape f.shape))
    by None s = shape_keeps f.shape f.width w
    by (Some spare) s = spare_keeps f.shape f.width spare w s

data_keeps : (encoding : Encoding) → Keeps (data_leaf encoding) (FitsData encoding) (ends_at (class_of_data encoding))
data_keeps encoding.Bytes = comma_keeps
data_keeps (encoding.Text stop) = clear_keeps stop
data_keeps (encoding.Utf16 stop) = units_keep stop
data_keeps (encoding.Name stop) = name_keeps stop
data_keeps (encoding.NameAfterComma stop) = after_keeps (codes ",") refl (name_text stop) (IsName stop) (ends_at (Clear stop)) (name_keeps stop)
data_keeps (encoding.Padded stop) = padded_keeps stop
data_keeps (encoding.Ids stop) = after_keeps (codes ",") refl (ids_text stop) (AreIds stop) (ends_at (Clear stop)) (ids_keep stop)
data_keeps (encoding.Uid stop) = after_keeps (codes ",") refl (uid_text stop) (IsUid stop) (ends_at (Clear stop)) (uid_keeps stop)

-- all steps, given the lists
module _ (lists : Items → ByteLeaf) (fits : Items → List ℕ → Type 0) (keep : (items : Items) → Keeps (lists items) (fits items) (ends_at Bytes)) (size : ℕ) where
  pub step_keeps : (step : Step) → is_sound_step size step ≡ true → Keeps (step_leaf lists step) (FitsStep fits step) (ends_at (class_of step))
  step_keeps (Literal letters) s = literal_keeps letters.now s
  step_keeps (Field f) s = let parts = and_parts _ _ (and_parts _ _ s).1 in field_keeps f parts.0 parts.1
  step_keeps (Data encoding) s = data_keeps encoding
  step_keeps (Many items) s = keep items
