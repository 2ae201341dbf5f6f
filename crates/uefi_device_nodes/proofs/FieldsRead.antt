-- What is read of data in which fields were put.
use Rattle.std.proofs.Common.{◌≡◌, ℕ, zero, suc, ◌+◌, ◌*◌, ◌/◌, ◌%◌, ◌^◌, ◌<◌, ◌≤◌, Bool, true, false, List, [], ◌∷◌, ◌++◌, length, take, drop, refl, sym, ap, ◌∙◌, arith, length-append, length-drop}
use Rattle.std.specs.Prelude.{◌&&◌, nat_le}
use Rattle.std.specs.Int.{bytes_low_first, byte_at, to_le_bytes, w32}
use Rattle.std.specs.List.{flat_map}
use Rattle.std.proofs.Math.Nat.{div-div-eq-div-mul, div-one}
use Rattle.std.proofs.lemmas.Bool.{and_parts, leb-true}
use Rattle.std.proofs.lemmas.List.{length-take, drop_at}
use Rattle.std.proofs.lemmas.Slice.{between_is, between-put_mid, drop-put_mid, take-put_mid_below}
use Rattle.uefi_text.specs.Packed.{little_endian}
use Rattle.uefi_device_nodes.specs.TypedNodes.{bytes_in}
use Rattle.uefi_device_nodes.specs.NodeFields.{FieldValue, number, bytes, field_of, bytes_of_value, FitsField, HasValue, with_value, with_values, lie_apart, content_of, AllFit, HasValues}
use Rattle.std.proofs.Math.ListN.{replicate, length-replicate}

-- the power of one more
power : (k : ℕ) → 256 ^ suc k ≡ 256 ^ k * 256
power k = grind arith

div_step : (i n : ℕ) → n / 256 ^ suc i ≡ n / 256 ^ i / 256
div_step i n = ap (λ m. n / m) (power i) ∙ sym (div-div-eq-div-mul n (256 ^ i) 256)

byte_is : (i n : ℕ) → byte_at i n ≡ n / 256 ^ i % 256
byte_is zero n = ap (λ m. m % 256) (sym (div-one n))
byte_is (suc i) n = refl

-- the number that its bytes encode
pub encoded : (k i n : ℕ) → n / 256 ^ i < 256 ^ k → little_endian (bytes_low_first i k n) ≡ n / 256 ^ i
encoded zero i n small = omega (arith, small)
encoded (suc k) i n small =
    let q = power k in
    let within : n / 256 ^ i < 256 ^ k * 256 = omega (arith, small, q) in
    let d = div_step i n in
    let lower : n / 256 ^ suc i < 256 ^ k = omega (arith, d, within) in
    omega (arith, byte_is i n, encoded k (suc i) n lower ∙ d)

-- and of all its bytes
pub encoded_all : (k n : ℕ) → n < 256 ^ k → little_endian (bytes_low_first 0 k n) ≡ n
encoded_all k n small =
    let one = div-one n in
    let h : n / 256 ^ 0 < 256 ^ k = omega (arith, one, small) in encoded k 0 n h ∙ one

pub length-low_first : (i k n : ℕ) → length (bytes_low_first i k n) ≡ k
length-low_first i zero n = refl
length-low_first i (suc k) n = let e = length-low_first (suc i) k n in omega (arith, e)

-- what is written is as wide as its field
pub width_is : (f : FieldValue) → FitsField f → length (bytes_of_value f) ≡ (field_of f).width
width_is (number field n) fit = length-low_first 0 field.width n
width_is (bytes field bs) fit = fit

-- what is written says the value
pub says : (f : FieldValue) (content : List ℕ) → FitsField f → bytes_in (field_of f) content ≡ bytes_of_value f → HasValue content f
says (number field n) content fit e = ap little_endian e ∙ encoded_all field.width n fit
says (bytes field bs) content fit e = e

-- fields that lie apart end within the length
pub ends : (from len : ℕ) (fs : List FieldValue) → lie_apart from fs len ≡ true → from ≤ len
ends from len [] a = leb-true from len a
ends from len (f ∷ fs) a =
    let (first, rest) = and_parts (nat_le from (field_of f).place) (lie_apart ((field_of f).place + (field_of f).width) fs len) a in
    let h = leb-true from (field_of f).place first in
    let e = ends ((field_of f).place + (field_of f).width) len fs rest in omega (arith, h, e)

pub length-with_value : (f : FieldValue) (content : List ℕ) → FitsField f → (field_of f).place + (field_of f).width ≤ length content
    → length (with_value f content) ≡ length content
unfolding with_value
length-with_value f content fit l =
    let w = width_is f fit in
    let a = length-append (take (field_of f).place content) (bytes_of_value f ++ drop (field_of f).width (drop (field_of f).place content)) in
    let b = length-append (bytes_of_value f) (drop (field_of f).width (drop (field_of f).place content)) in
    let c = length-drop (field_of f).width (drop (field_of f).place content) in
    let d = length-drop (field_of f).place content in
    let e = length-take (field_of f).place content in omega arith

-- what lies before the fields stays
pub with_values_below : (fs : List FieldValue) (from len n : ℕ) (content : List ℕ) → n ≤ from → lie_apart from fs len ≡ true
    → len ≤ length content → AllFit fs → take n (with_values fs content) ≡ take n content
unfolding with_value
with_values_below [] from len n content h a l fits = refl
with_values_below (f ∷ fs) from len n content h a l (fit, fits) =
    let (first, rest) = and_parts (nat_le from (field_of f).place) (lie_apart ((field_of f).place + (field_of f).width) fs len) a in
    let p = leb-true from (field_of f).place first in
    let e = ends ((field_of f).place + (field_of f).width) len fs rest in
    let s = length-with_value f content fit (omega arith) in
    with_values_below fs ((field_of f).place + (field_of f).width) len n (with_value f content) (omega arith) rest (omega arith) fits
    ∙ take-put_mid_below (field_of f).place (field_of f).width content (bytes_of_value f) n (omega arith) (omega arith)

-- what lies after them stays
pub with_values_above : (fs : List FieldValue) (from len : ℕ) (content : List ℕ) → lie_apart from fs len ≡ true
    → len ≤ length content → AllFit fs → drop len (with_values fs content) ≡ drop len content
unfolding with_value
with_values_above [] from len content a l fits = refl
with_values_above (f ∷ fs) from len content a l (fit, fits) =
    let (first, rest) = and_parts (nat_le from (field_of f).place) (lie_apart ((field_of f).place + (field_of f).width) fs len) a in
    let e = ends ((field_of f).place + (field_of f).width) len fs rest in
    let s = length-with_value f content fit (omega arith) in
    with_values_above fs ((field_of f).place + (field_of f).width) len (with_value f content) rest (omega arith) fits
    ∙ drop-put_mid (field_of f).place (field_of f).width content (bytes_of_value f) len (omega arith) (omega arith) (width_is f fit)

pub length-with_values : (fs : List FieldValue) (from len : ℕ) (content : List ℕ) → lie_apart from fs len ≡ true
    → len ≤ length content → AllFit fs → length (with_values fs content) ≡ length content
length-with_values [] from len content a l fits = refl
length-with_values (f ∷ fs) from len content a l (fit, fits) =
    let (first, rest) = and_parts (nat_le from (field_of f).place) (lie_apart ((field_of f).place + (field_of f).width) fs len) a in
    let e = ends ((field_of f).place + (field_of f).width) len fs rest in
    let s = length-with_value f content fit (omega arith) in
    length-with_values fs ((field_of f).place + (field_of f).width) len (with_value f content) rest (omega arith) fits ∙ s

-- each field has its value
pub held : (fs : List FieldValue) (from len : ℕ) (content after : List ℕ) → after ≡ with_values fs content
    → lie_apart from fs len ≡ true → len ≤ length content → AllFit fs → HasValues after fs
unfolding with_value
held [] from len content after is a l fits = fits
held (f ∷ fs) from len content after is a l (fit, fits) =
    let (first, rest) = and_parts (nat_le from (field_of f).place) (lie_apart ((field_of f).place + (field_of f).width) fs len) a in
    let end : ℕ = (field_of f).place + (field_of f).width in
    let e = ends end len fs rest in
    let s = length-with_value f content fit (omega arith) in
    let w = width_is f fit in
    let same : take end after ≡ take end (with_value f content) =
    ap (take end) is ∙ with_values_below fs end len end (with_value f content) (omega arith) rest (omega arith) fits in
    let there : bytes_in (field_of f) after ≡ bytes_of_value f =
    between_is after (field_of f).place end
    ∙ ap (λ (x : List ℕ). drop (field_of f).place x) same
    ∙ sym (between_is (with_value f content) (field_of f).place end)
    ∙ between-put_mid (field_of f).place (field_of f).width content (bytes_of_value f) end (omega arith) (omega arith) in
    (says f after fit there, held fs end len (with_value f content) after is rest (omega arith) fits)

module _ (least : ℕ) (fs : List FieldValue) (tail : List ℕ) (a : lie_apart 0 fs least ≡ true) (fits : AllFit fs) where
  blank : List ℕ
  blank = replicate least 0 ++ tail

  pub length-blank : length (replicate least 0 ++ tail) ≡ least + length tail
  length-blank = let b = length-append (replicate {A = ℕ} least 0) tail in let c = length-replicate {A = ℕ} least 0 in omega arith

  pub length-content : length (content_of least fs tail) ≡ least + length tail
  length-content = let b = length-blank in length-with_values fs 0 least (replicate least 0 ++ tail) a (omega arith) fits ∙ b

  pub fields_of_content : HasValues (content_of least fs tail) fs
  fields_of_content = let b = length-blank in held fs 0 least (replicate least 0 ++ tail) (content_of least fs tail) refl a (omega arith) fits

  pub tail_of_content : drop least (content_of least fs tail) ≡ tail
  tail_of_content = let b = length-blank in
      with_values_above fs 0 least (replicate least 0 ++ tail) a (omega arith) fits ∙ drop_at (replicate {A = ℕ} least 0) tail least (length-replicate {A = ℕ} least 0)

-- the bytes of numbers, four each
pub length-words : (ws : List ℕ) → length (flat_map (to_le_bytes w32) ws) ≡ 4 * length ws
length-words [] = refl
length-words (w ∷ ws) = omega (arith, length-words ws)
