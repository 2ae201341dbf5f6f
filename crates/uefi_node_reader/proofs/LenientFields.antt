-- What is read leniently of fields are bytes, as many as the data had.
use Rattle.std.proofs.Common.{◌≡◌, ℕ, zero, suc, ◌+◌, ◌^◌, ◌<◌, ◌≤◌, Bool, true, false, cond, eqb, ◌&&◌, List, [], ◌∷◌, ◌++◌, length, drop, refl, sym, ap, subst, ◌∙◌, arith}
use Rattle.std.specs.Prelude.{All, Option, Some, None, Ok}
use Rattle.std.specs.List.{list_all}
use Rattle.std.proofs.Math.ListN.{replicate}
use Rattle.std.proofs.Math.Seq.{drop-append_seam}
use Rattle.std.proofs.lemmas.Bool.{and_parts}
use Rattle.std.proofs.lemmas.List.Elements.{All-append, All-cons, All-nil}
use Rattle.uefi_text.specs.Packed.{IsByte}
use Rattle.uefi_device_nodes.specs.Fields.{fits_shape}
use Rattle.uefi_device_nodes.specs.Rows.{Form, Piece, is_within}
use Rattle.uefi_device_nodes.specs.declared.node_table.rows.Shape.{Shape}
use Rattle.uefi_device_nodes.specs.declared.node_table.rows.Spare.{Spare}
use Rattle.uefi_device_nodes.specs.declared.node_table.rows.Spare.TheVariants.{Zeros, Ones}
use Rattle.uefi_device_nodes.specs.declared.node_table.rows.Shape.TheVariants.{Hexadecimal, Decimal, OrDefault, Back, Forth, Dashed, Next, Eisa, Word as WordShape}
use Rattle.uefi_node_reader.specs.FieldReading.{◌>>=◌, IsValue, as_bytes, less_one, low_bytes}
use Rattle.uefi_node_reader.specs.LenientFields.{after_ending, any_field, any_number, any_word, expected_field, is_number, number_or_word, past_base, spare_byte, value_or_spare}
use Rattle.uefi_node_reader.specs.Notations.{lenient, piece_in, pieces_in}
use Rattle.uefi_node_reader.specs.Stops.{stop_at}
use Rattle.uefi_node_reader.specs.TableReading.{IsTailTold, blank, first_of, followed, is_read, is_sound, pieces_put, put_at, rest_read, tail_read}
use Rattle.uefi_device_nodes.specs.Words.{words_of}
use Rattle.uefi_node_reader.specs.WordReading.{after}
use Rattle.uefi_node_reader.proofs.Digits.{some_pair}
use Rattle.uefi_node_reader.proofs.FieldLaws.{field_takes, low_is}
use Rattle.uefi_node_reader.proofs.Literals.{bind_ok, bind_some, ok_same, ok_some}
use Rattle.uefi_node_reader.proofs.PieceLaws.{pieces_takes, within_parts}
use Rattle.uefi_node_reader.proofs.Places.{length-put, put_bytes}
use Rattle.uefi_node_reader.proofs.TableLaws.{sound}
use Rattle.uefi_node_reader.proofs.TailLaws.{tail_takes}

-- the bytes of a number
low_value_is : (width : ℕ) (o : Option (ℕ × List ℕ)) (value rest : List ℕ)
    → (o >>= as_bytes width) ≡ Some (value, rest) → IsValue width value
low_value_is width None value rest e = cc
low_value_is width (Some n) value rest e =
    let same = some_pair (low_bytes width n.0, n.1) (value, rest) e in
    subst (λ (x : List ℕ). IsValue width x) same.0 (low_is width n.0)

-- the bytes of a field
any_value : (shape : Shape) (width : ℕ) → fits_shape shape width ≡ true → (text value rest : List ℕ)
    → any_field shape width text ≡ Some (value, rest) → IsValue width value
any_value Hexadecimal width f text value rest e = low_value_is width (any_number (256 ^ width) text) value rest e
any_value Decimal width f text value rest e = low_value_is width (any_number (256 ^ width) text) value rest e
any_value OrDefault width f text value rest e = low_value_is width (number_or_word (256 ^ width) text) value rest e
any_value Next width f text value rest e = low_value_is width (any_number 257 text >>= less_one) value rest e
any_value (WordShape list) width f text value rest e = low_value_is width (any_word (words_of list) text) value rest e
any_value Back width f text value rest e = (field_takes Back width f (past_base text) value rest e).1
any_value Forth width f text value rest e = (field_takes Forth width f (past_base text) value rest e).1
any_value Dashed width f text value rest e = (field_takes Dashed width f (past_base text) value rest e).1
any_value Eisa width f text value rest e = (field_takes Eisa width f (past_base text) value rest e).1

-- bytes that are left out
spares : (width spare : ℕ) → spare < 256 → IsValue width (replicate width spare)
spares zero spare l = (refl, All-nil IsByte)
spares (suc width) spare l =
    let others = spares width spare l in
    (ap suc others.0, All-cons IsByte spare (replicate width spare) l others.1)

pub spare_small : (spare : Spare) → spare_byte spare < 256
spare_small Zeros = omega arith
spare_small Ones = omega arith

spare_value : (shape : Shape) (spare : Spare) (width : ℕ) → fits_shape shape width ≡ true → (text value rest : List ℕ)
    → value_or_spare shape spare width text ≡ Some (value, rest) → IsValue width value
spare_value shape spare width f text value rest e = by (is_number shape && eqb (first_of text) 41) e
  where
    by : (b : Bool) → cond b (Some (replicate width (spare_byte spare), text)) (any_field shape width text) ≡ Some (value, rest)
        → IsValue width value
    by true p = let same = some_pair (replicate width (spare_byte spare), text) (value, rest) p in
        subst (λ (x : List ℕ). IsValue width x) same.0 (spares width (spare_byte spare) (spare_small spare))
    by false p = any_value shape width f text value rest p

-- fields in their places
pub pieces_in_bytes : (n : ℕ) (pieces : List Piece) (content text found rest : List ℕ)
    → list_all (is_within n) pieces ≡ true → length content ≡ n → All IsByte content
    → pieces_in lenient pieces content text ≡ Ok (found, rest)
    → (length found ≡ n) × All IsByte found
pieces_in_bytes n [] content text found rest w l c e =
    let same : content ≡ found = ap (λ (x : List ℕ × List ℕ). x.0) (ok_same (Ok (found, rest)) (content, text) (found, rest) (sym e) refl) in
    (sym (ap length same) ∙ l, subst (λ (x : List ℕ). All IsByte x) same c)
pieces_in_bytes n (p ∷ ps) content text found rest w l c e =
    let ws = and_parts (is_within n p) (list_all (is_within n) ps) w in
    let here = within_parts n p ws.0 in
    let x = bind_ok (piece_in lenient p content text) _ (found, rest) e in
    let v = bind_ok (lenient.value p text) _ x.0 x.1 in
    let t = bind_ok (after_ending p.ending v.0.1) _ x.0 v.2 in
    let read = ok_some (value_or_spare p.shape p.spare p.width text) (stop_at text (expected_field p.shape p.width)) v.0 v.1 in
    let same : put_at p v.0.0 content ≡ x.0.0 =
    ap (λ (y : List ℕ × List ℕ). y.0) (ok_same (Ok x.0) (put_at p v.0.0 content, t.0) x.0 (sym t.2) refl) in
    let value = spare_value p.shape p.spare p.width here.1 text v.0.0 v.0.1 read in
    let long : p.place + p.width ≤ length content = omega (arith, here.0, l) in
    pieces_in_bytes n ps x.0.0 x.0.1 found rest ws.1
    (sym (ap length same) ∙ length-put p v.0.0 content value.0 long ∙ l)
    (subst (λ (y : List ℕ). All IsByte y) same (put_bytes p v.0.0 content value.1 c)) x.2

-- what is known of data that were read in a form
pub record SetIn (form : Form) (content : List ℕ) : Type 0 where
  pub bytes : All IsByte content
  pub tail : IsTailTold form.tail form.close (drop form.least content)

-- a fixed part, and data after it that are told
pub set_of : (form : Form) (head tail : List ℕ) → length head ≡ form.least → All IsByte head → All IsByte tail
    → IsTailTold form.tail form.close tail → SetIn form (head ++ tail)
set_of form head tail size bytes others told =
    let left : drop form.least (head ++ tail) ≡ tail =
    ap (λ (k : ℕ). drop k (head ++ tail)) (sym size) ∙ drop-append_seam head tail in
    record {
      bytes = All-append IsByte head tail bytes others;
      tail = subst (λ (y : List ℕ). IsTailTold form.tail form.close y) (sym left) told;
    }

pub form_set_in : (form : Form) → is_sound form ≡ true → is_read form.mode ≡ true → (text content rest : List ℕ) (head : List ℕ × List ℕ)
    → pieces_in lenient form.pieces (blank form) text ≡ Ok head → rest_read form head ≡ Some (content, rest)
    → SetIn form content
form_set_in form s p text content rest h set e =
    let is = sound form p s in
    let x = bind_some (tail_read form.tail form.close h.1) _ (content, rest) e in
    let c = bind_some (after form.close x.0.1) _ (content, rest) x.2 in
    let f = bind_some (pieces_put form.rest h.0 c.0) (followed x.0.0) (content, rest) c.2 in
    let same = some_pair (f.0.0 ++ x.0.0, f.0.1) (content, rest) f.2 in
    let n : ℕ = length (blank form) in
    let fields = pieces_in_bytes n form.pieces (blank form) text h.0 h.1 is.within refl is.bytes set in
    let others = pieces_takes n form.rest h.0 c.0 f.0.0 f.0.1 is.rest_within is.apart.back fields.0 fields.1 f.1 in
    let tail = tail_takes form.tail form.close h.1 x.0.0 x.0.1 x.1 in
    subst (λ (y : List ℕ). SetIn form y) same.0
    (set_of form f.0.0 x.0.0 (others.size ∙ fields.0 ∙ is.size) others.bytes tail.1 tail.2)
