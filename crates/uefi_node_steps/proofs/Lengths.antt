-- How long texts are: each byte of a node makes room for four letters.
use Rattle.std.proofs.Common.{◌≡◌, ℕ, zero, suc, ◌+◌, ◌-◌, ◌*◌, ◌/◌, ◌<◌, ◌≤◌, max, Bool, true, false, cond, eqb, leb, List, [], ◌∷◌, ◌++◌, ◌&&◌, length, length-append, length-drop, length-take, map, take, drop, refl, arith}
use Rattle.std.proofs.lemmas.Bool.{and_parts, leb-true}
use Rattle.std.proofs.lemmas.List.Elements.{All-drop, All-take}
use Rattle.std.proofs.Math.Nat.{div-mul-le_self}
use Rattle.std.specs.Fmt.{digits}
use Rattle.std.specs.List.{list_all}
use Rattle.std.specs.Prelude.{All, Option, Some, None, codes, nat_le, slice_range}
use Rattle.std.specs.Option.{option_map}
use Rattle.std.specs.Simd.{first_chunks}
use Rattle.std.proofs.Math.ListN.{replicate}
use borrow.Author.Tests.{eqb-true, ltb-true}
use Rattle.uefi_text.specs.Packed.{IsByte, little_endian}
use Rattle.uefi_device_nodes.specs.FieldTexts.{hex_back, hex_bytes}
use Rattle.uefi_device_nodes.specs.Guids.{guid_text}
use Rattle.uefi_device_nodes.proofs.FieldLengths.{back_within, comma_within, dashed_within, decimal_field, eisa_within, forth_within, hex_field, ids_within, name_within, next_field, number_within, shown_within, uid_within, utf16_within}
use Rattle.uefi_node_steps.specs.Leaves.{ByteLeaf, Word, behind_each, between, decimal, in_bytes, many_text, pairs, spared, suits, word_text}
use Rattle.uefi_node_steps.specs.Lengths.{NodeTextsAreBounded, TextsAreBounded, has_width, is_bounded, longest, most_of_shape, most_of_step, most_of_steps, tails}
use Rattle.uefi_node_steps.specs.NodeForms.{group_forms, node_forms}
use Rattle.uefi_node_steps.specs.Nodes.{find_form, parts_in, prints, text_in}
use Rattle.uefi_node_steps.specs.Steps.{Parts, Step, data_leaf, field_leaf, fits_shape, item_leaf, item_of, lists, no_list, part_of, shape_leaf, step_leaf, steps_leaf, words_of}
use Rattle.uefi_node_steps.specs.Table.{Form, form_leaf}
use Rattle.uefi_node_steps.specs.declared.steps.Encoding.{Encoding}
use Rattle.uefi_node_steps.specs.declared.steps.Encoding.TheVariants as encoding
use Rattle.uefi_node_steps.specs.declared.steps.Field.{Field as FieldOf}
use Rattle.uefi_node_steps.specs.declared.steps.Items.{Items}
use Rattle.uefi_node_steps.specs.declared.steps.Items.TheVariants.{Numbers, Ipv4 as Ipv4Items, Ipv6 as Ipv6Items}
use Rattle.uefi_node_steps.specs.declared.steps.Shape.{Shape}
use Rattle.uefi_node_steps.specs.declared.steps.Shape.TheVariants.{Hexadecimal, Marked, Decimal, OrDefault, Next, Forth, Back, BaseForth, BaseBack, Apart, Dashed, Guid, Ipv4, Ipv6, Eisa, Word as WordOf}
use Rattle.uefi_node_steps.specs.declared.steps.StepOf.TheVariants.{Literal, Field, Data, Many}
use Rattle.uefi_node_steps.proofs.NodeLaws.{found_is}
use Rattle.uefi_node_steps.proofs.Printed.{suc_times}
use Rattle.uefi_node_steps.proofs.TableLaws.{of_all}

-- values of a width with letters before each, and between each two
module _ (letters : List ℕ) (width : ℕ) (leaf : ByteLeaf) (most : ℕ) (within : (v : List ℕ) → length v ≤ width → All IsByte v → length (leaf.text v) ≤ most) where
  first_within : (bytes : List ℕ) → All IsByte bytes → length (leaf.text (take width bytes)) ≤ most
  first_within bytes all = within (take width bytes) (omega (arith, length-take width bytes)) (All-take IsByte width bytes all)

  behind_within : (count : ℕ) (bytes : List ℕ) → All IsByte bytes → length ((behind_each letters width leaf count).text bytes) ≤ count * (length letters + most)
  behind_within zero bytes all = omega arith
  behind_within (suc count) bytes all = omega (
    arith,
    length-append (letters ++ leaf.text (take width bytes)) ((behind_each letters width leaf count).text (drop width bytes)),
    length-append letters (leaf.text (take width bytes)),
    first_within bytes all,
    behind_within count (drop width bytes) (All-drop IsByte width bytes all),
    suc_times count (length letters + most),
  )

  between_within : (count : ℕ) (bytes : List ℕ) → All IsByte bytes → length ((between letters width leaf count).text bytes) ≤ most + count * (length letters + most)
  between_within count bytes all = omega (
    arith,
    length-append (leaf.text (take width bytes)) ((behind_each letters width leaf count).text (drop width bytes)),
    first_within bytes all,
    behind_within count (drop width bytes) (All-drop IsByte width bytes all),
  )

octet_within : (v : List ℕ) → length v ≤ 1 → All IsByte v → length ((in_bytes 1 (decimal 256)).text v) ≤ 3
octet_within v short all = decimal_field 1 v (omega arith) (omega arith) short all

pairs_within : (count : ℕ) (v : List ℕ) → length v ≤ count → All IsByte v → length ((pairs count).text v) ≤ 2 * count
pairs_within count v short all = omega (arith, forth_within v all, short)

slice_within : (text : List ℕ → List ℕ) → ((v : List ℕ) → All IsByte v → length (text v) ≤ 2 * length v)
    → (bytes : List ℕ) (from to : ℕ) → All IsByte bytes → length (text (slice_range bytes from to)) ≤ 2 * (to - from)
slice_within text within bytes from to all = omega (
  arith,
  within (slice_range bytes from to) (All-take IsByte (to - from) (drop from bytes) (All-drop IsByte from bytes all)),
  length-take (to - from) (drop from bytes),
)

guid_within : (bytes : List ℕ) → All IsByte bytes → length (guid_text bytes) ≤ 36
unfolding guid_text
guid_within bytes all =
    let a : List ℕ = hex_back (slice_range bytes 0 4) in
    let b : List ℕ = hex_back (slice_range bytes 4 6) in
    let c : List ℕ = hex_back (slice_range bytes 6 8) in
    let d : List ℕ = hex_bytes (slice_range bytes 8 10) in
    let e : List ℕ = hex_bytes (slice_range bytes 10 16) in
    omega (
      arith,
      length-append a (codes "-" ++ (b ++ (codes "-" ++ (c ++ (codes "-" ++ (d ++ (codes "-" ++ e))))))),
      length-append b (codes "-" ++ (c ++ (codes "-" ++ (d ++ (codes "-" ++ e))))),
      length-append c (codes "-" ++ (d ++ (codes "-" ++ e))),
      length-append d (codes "-" ++ e),
      slice_within hex_back back_within bytes 0 4 all,
      slice_within hex_back back_within bytes 4 6 all,
      slice_within hex_back back_within bytes 6 8 all,
      slice_within hex_bytes forth_within bytes 8 10 all,
      slice_within hex_bytes forth_within bytes 10 16 all,
    )

word_within : (words : List Word) (n : ℕ) → length (word_text words n) ≤ longest words
word_within [] n = omega arith
word_within (w ∷ ws) n = by (suits n w) (word_within ws n)
  where
    by : (t : Bool) → length (word_text ws n) ≤ longest ws → length (cond t w.letters (word_text ws n)) ≤ max (length w.letters) (longest ws)
    by true others = omega arith
    by false others = omega (arith, others)

some_width : (width : ℕ) → (nat_le 1 width && nat_le width 8) ≡ true → (1 ≤ width) × (width ≤ 8)
some_width width e = let p = and_parts (leb 1 width) (leb width 8) e in (leb-true 1 width p.0, leb-true width 8 p.1)

shape_within : (shape : Shape) (width : ℕ) (bytes : List ℕ) → fits_shape shape width ≡ true → length bytes ≤ width → All IsByte bytes
    → length ((shape_leaf shape width).text bytes) ≤ most_of_shape shape width
shape_within Hexadecimal width bytes fits short all = omega (arith, hex_field width bytes (some_width width fits).0 short all)
shape_within Marked width bytes fits short all = omega (arith, hex_field width bytes (some_width width fits).0 short all)
shape_within Decimal width bytes fits short all = decimal_field width bytes (some_width width fits).0 (some_width width fits).1 short all
shape_within OrDefault width bytes fits short all = by (eqb (little_endian bytes) 0)
  where
    by : (t : Bool) → length (cond t (codes "DEFAULT") (digits 10 false (little_endian bytes))) ≤ max 7 (3 * width)
    by true = omega arith
    by false = omega (arith, decimal_field width bytes (some_width width fits).0 (some_width width fits).1 short all)
shape_within Next width bytes fits short all = omega (arith, next_field width bytes short all)
shape_within Forth width bytes fits short all = pairs_within width bytes short all
shape_within Back width bytes fits short all = omega (arith, back_within bytes all, short)
shape_within BaseForth width bytes fits short all = omega (arith, forth_within bytes all, short)
shape_within BaseBack width bytes fits short all = omega (arith, back_within bytes all, short)
shape_within (Apart letter) zero bytes fits short all = omega arith
shape_within (Apart letter) (suc count) bytes fits short all = omega (arith, between_within (letter ∷ []) 1 (pairs 1) 2 (pairs_within 1) count bytes all)
shape_within Dashed width bytes fits short all = omega (arith, dashed_within bytes all, short)
shape_within Guid width bytes fits short all = guid_within bytes all
shape_within Ipv4 width bytes fits short all = omega (arith, between_within (codes ".") 1 (in_bytes 1 (decimal 256)) 3 octet_within 3 bytes all)
shape_within Ipv6 width bytes fits short all = omega (arith, between_within (codes ":") 2 (pairs 2) 4 (pairs_within 2) 7 bytes all)
shape_within Eisa width bytes fits short all = eisa_within (little_endian bytes) (omega (arith, number_within 4 bytes (omega (arith, short, eqb-true width 4 fits)) all))
shape_within (WordOf words) width bytes fits short all = word_within (words_of words) (little_endian bytes)

field_within : (f : FieldOf) (v : List ℕ) → fits_shape f.shape f.width ≡ true → length v ≤ f.width → All IsByte v → length ((field_leaf f).text v) ≤ most_of_shape f.shape f.width
field_within f v fits short all = by f.spare
  where
    by : (spare : Option ℕ) → length ((spared (option_map (replicate f.width) spare) (shape_leaf f.shape f.width)).text v) ≤ most_of_shape f.shape f.width
    by None = shape_within f.shape f.width v fits short all
    by (Some spare) = shape_within f.shape f.width v fits short all

data_within : (encoding : Encoding) (bytes : List ℕ) → All IsByte bytes → length ((data_leaf encoding).text bytes) ≤ 4 * length bytes + most_of_step (Data encoding)
data_within encoding.Bytes bytes all = omega (arith, comma_within bytes all)
data_within (encoding.Text stop) bytes all = omega (arith, shown_within bytes all)
data_within (encoding.Utf16 stop) bytes all = omega (arith, utf16_within bytes)
data_within (encoding.Name stop) bytes all = omega (arith, name_within bytes all)
data_within (encoding.NameAfterComma stop) bytes all = omega (arith, name_within bytes all)
data_within (encoding.Padded stop) bytes all = omega (arith, name_within (take 32 bytes) (All-take IsByte 32 bytes all), length-take 32 bytes)
data_within (encoding.Ids stop) bytes all = omega (arith, ids_within bytes all)
data_within (encoding.Uid stop) bytes all = omega (arith, uid_within bytes all)

-- steps, given how long the texts of lists are
module _ (lists : Items → ByteLeaf) (list_within : (items : Items) (bytes : List ℕ) → All IsByte bytes → length ((lists items).text bytes) ≤ 4 * length bytes) where
  steps_within : (steps : List Step) (data_ : Parts) → list_all has_width steps ≡ true → All IsByte data_.0 → All IsByte data_.1
      → length ((steps_leaf (step_leaf lists) steps).text (map (part_of data_) steps)) ≤ most_of_steps steps + tails steps * (4 * length data_.1)
  steps_within [] data_ fits all tail = omega arith
  steps_within (Literal letters ∷ steps) data_ fits all tail = omega (
    arith,
    length-append letters.now ((steps_leaf (step_leaf lists) steps).text (map (part_of data_) steps)),
    steps_within steps data_ fits all tail,
  )
  steps_within (Field f ∷ steps) data_ fits all tail =
      let p = and_parts (fits_shape f.shape f.width) (list_all has_width steps) fits in
      let size : ℕ = f.place + f.width - f.place in
      let v : List ℕ = slice_range data_.0 f.place (f.place + f.width) in
      let short : length v ≤ f.width = omega (arith, length-take size (drop f.place data_.0)) in
      let each : All IsByte v = All-take IsByte size (drop f.place data_.0) (All-drop IsByte f.place data_.0 all) in
      omega (
        arith,
        length-append ((field_leaf f).text v) ((steps_leaf (step_leaf lists) steps).text (map (part_of data_) steps)),
        field_within f v p.0 short each,
        steps_within steps data_ p.1 all tail,
      )
  steps_within (Data encoding ∷ steps) data_ fits all tail = omega (
    arith,
    length-append ((data_leaf encoding).text data_.1) ((steps_leaf (step_leaf lists) steps).text (map (part_of data_) steps)),
    data_within encoding data_.1 tail,
    steps_within steps data_ fits all tail,
    suc_times (tails steps) (4 * length data_.1),
  )
  steps_within (Many items ∷ steps) data_ fits all tail = omega (
    arith,
    length-append ((lists items).text data_.1) ((steps_leaf (step_leaf lists) steps).text (map (part_of data_) steps)),
    list_within items data_.1 tail,
    steps_within steps data_ fits all tail,
    suc_times (tails steps) (4 * length data_.1),
  )

-- lists: an item has no data after its fixed part
items_bounded : (items : Items) → (nat_le (most_of_steps (item_of items).steps) (4 * (item_of items).size) && list_all has_width (item_of items).steps) ≡ true
items_bounded Numbers = refl
items_bounded Ipv4Items = refl
items_bounded Ipv6Items = refl

item_within : (items : Items) (bytes : List ℕ) → All IsByte bytes → length ((item_leaf (item_of items)).text bytes) ≤ 4 * (item_of items).size
item_within items bytes all =
    let p = and_parts (leb (most_of_steps (item_of items).steps) (4 * (item_of items).size)) (list_all has_width (item_of items).steps) (items_bounded items) in
    let none : All IsByte [] = All-take IsByte 0 bytes all in
    omega (
      arith,
      leb-true (most_of_steps (item_of items).steps) (4 * (item_of items).size) p.0,
      steps_within no_list (λ items bytes all. omega arith) (item_of items).steps (bytes, []) p.1 all none,
      no_tails (tails (item_of items).steps),
    )
  where
    no_tails : (k : ℕ) → k * (4 * 0) ≡ 0
    no_tails k = omega arith

items_within : (items : Items) (k : ℕ) (bytes : List ℕ) → All IsByte bytes
    → length (many_text (item_leaf (item_of items)) (first_chunks (item_of items).size k bytes)) ≤ 4 * ((item_of items).size * k)
items_within items zero bytes all = omega arith
items_within items (suc k) bytes all =
    let size = (item_of items).size in
    let item = item_leaf (item_of items) in
    omega (
      arith,
      length-append (item.text (take size bytes)) (many_text item (first_chunks size k (drop size bytes))),
      item_within items (take size bytes) (All-take IsByte size bytes all),
      items_within items k (drop size bytes) (All-drop IsByte size bytes all),
    )

list_within : (items : Items) (bytes : List ℕ) → All IsByte bytes → length ((lists items).text bytes) ≤ 4 * length bytes
list_within items bytes all =
    let size = (item_of items).size in
    omega (arith, items_within items (length bytes / size) bytes all, div-mul-le_self (length bytes) size)

at_most_one : (k m : ℕ) → k ≤ 1 → k * m ≤ m
at_most_one zero m l = omega arith
at_most_one (suc zero) m l = omega arith
at_most_one (suc (suc k)) m l = absurd (omega arith)

-- forms, and nodes
form_within : (form : Form) (content : List ℕ) → is_bounded form.laid ≡ true → form.laid.size ≤ length content → All IsByte content
    → length ((form_leaf form).text (parts_in form content)) < 4 * (length content + 4)
form_within form content e long all =
    let size = form.laid.size in
    let p = and_parts _ (leb (tails form.laid.steps) 1 && list_all has_width form.laid.steps) e in
    let q = and_parts (leb (tails form.laid.steps) 1) (list_all has_width form.laid.steps) p.1 in
    let tail : List ℕ = drop size content in
    omega (
      arith,
      ltb-true (most_of_steps form.laid.steps) (4 * (size + 4)) p.0,
      long,
      steps_within lists list_within form.laid.steps (parts_in form content) q.1 (All-take IsByte size content all) (All-drop IsByte size content all),
      at_most_one (tails form.laid.steps) (4 * length tail) (leb-true _ _ q.0),
      length-drop size content,
    )

pub texts_are_bounded : TextsAreBounded
texts_are_bounded forms bounded display_only node all = by (find_form (prints display_only node) forms) refl
  where
    by : (found : Option Form) → find_form (prints display_only node) forms ≡ found → length (text_in found node.content) < 4 * (length node.content + 4)
    by None e = omega arith
    by (Some form) e =
        let is = found_is (prints display_only node) forms form e in
        let long : form.laid.size + form.more ≤ length node.content = leb-true _ _ (and_parts _ _ (and_parts _ _ is.1).1).0 in
        form_within form node.content (of_all (λ (f : Form). is_bounded f.laid) form forms is.0 bounded) (omega (arith, long)) all

-- by computation
forms_bounded : list_all (λ form. is_bounded form.laid) node_forms ≡ true
unfolding group_forms
forms_bounded = refl

pub node_texts_are_bounded : NodeTextsAreBounded
node_texts_are_bounded = texts_are_bounded node_forms forms_bounded
