-- How long the texts of the table are: each byte of a node makes room for four.
use Rattle.std.proofs.Common.{◌≡◌, ℕ, zero, suc, ◌+◌, ◌-◌, ◌*◌, ◌/◌, ◌<◌, ◌≤◌, ◌==◌, ◌&&◌, max, Bool, true, false, if◌then◌else◌, List, [], ◌∷◌, ◌++◌, codes, length, length-append, length-drop, length-take, take, drop, nat_le, nat_lt, refl, arith}
use Rattle.std.proofs.lemmas.Bool.{and_parts, eqb-true, leb-true, ltb-true}
use Rattle.std.proofs.Math.Nat.{div-mul-le_self}
use Rattle.std.specs.Prelude.{All, Option, Some, None}
use Rattle.std.specs.Fmt.{decimal}
use Rattle.std.specs.List.{flat_map, list_all}
use Rattle.std.specs.Simd.{first_chunks}
use Rattle.std.proofs.lemmas.List.Elements.{All-drop, All-take}
use Rattle.uefi_text.specs.Packed.{IsByte, little_endian}
use Rattle.uefi_device_nodes.proofs.FieldLengths.{back_within, comma_within, dashed_within, decimal_field, eisa_within, forth_within, hex_field, ids_within, name_within, next_field, number_within, shown_within, utf16_within}
use Rattle.uefi_device_nodes.specs.Fields.{field_text, fits_shape}
use Rattle.uefi_device_nodes.specs.Rows.{Form, Piece, form_text, item_of, item_text, list_items, matches, pieces_text, tail_text, value_at}
use Rattle.uefi_device_nodes.specs.Table.{form_of, forms, group_forms, table_text, text_in}
use Rattle.uefi_device_nodes.specs.Words.{Word, suits, word_text, words_of}
use Rattle.uefi_device_nodes.specs.declared.node_table.rows.Items.{Items}
use Rattle.uefi_device_nodes.specs.declared.node_table.rows.Items.TheVariants.{Ipv4, Ipv6, Numbers}
use Rattle.uefi_device_nodes.specs.declared.node_table.rows.Shape.{Shape}
use Rattle.uefi_device_nodes.specs.declared.node_table.rows.Shape.TheVariants.{Back, Dashed, Decimal, Forth, Hexadecimal, Next, OrDefault, Eisa, Word as AWord}
use Rattle.uefi_device_nodes.specs.declared.node_table.rows.Tail.{Tail}
use Rattle.uefi_device_nodes.specs.declared.node_table.rows.Tail.TheVariants.{Bytes, Ids, Name, Nothing, Padded, Repeated, Text, Utf16}
use Rattle.uefi_device_nodes.proofs.Forms.{found, long_enough}

-- the longest word
longest : List Word → ℕ
longest [] = 0
longest (word ∷ words) = max (length word.text) (longest words)

-- the most that a field of a width prints
most_of : Shape → ℕ → ℕ
most_of Hexadecimal width = 2 * width
most_of Decimal width = 3 * width
most_of OrDefault width = max 7 (3 * width)
most_of Back width = 2 * width
most_of Forth width = 2 * width
most_of Dashed width = 3 * width
most_of Next width = 2 * width + 1
most_of Eisa width = 7
most_of (AWord words) width = longest (words_of words)

-- the most that fields and what stands after each print
most_of_pieces : List Piece → ℕ
most_of_pieces [] = 0
most_of_pieces (piece ∷ pieces) = most_of piece.shape piece.width + (length piece.ending + most_of_pieces pieces)

-- the test for fields of widths that their shapes may have
piece_fits : Piece → Bool
piece_fits piece = fits_shape piece.shape piece.width

-- how much the data after the fixed part print at most beyond four for each byte
most_beyond : Tail → ℕ
most_beyond Nothing = 0
most_beyond Bytes = 1
most_beyond Text = 0
most_beyond Utf16 = 0
most_beyond Name = 0
most_beyond Padded = 0
most_beyond Ids = 2
most_beyond (Repeated items) = 0

-- the test for a form that prints less than four for each byte of a node
is_bounded : Form → Bool
is_bounded form = nat_lt (length form.start + (most_of_pieces form.pieces + (most_beyond form.tail + (length form.close + most_of_pieces form.rest)))) (4 * (form.least + 4))
    && (list_all piece_fits form.pieces && list_all piece_fits form.rest)

-- each form is: computed
table_bounded : list_all is_bounded forms ≡ true
unfolding group_forms is_bounded most_of most_of_pieces most_beyond piece_fits longest words_of
table_bounded = refl

-- and each item of a list prints at most four for each byte
items_bounded : (items : Items) → (nat_le (length (item_of items).start + most_of_pieces (item_of items).pieces) (4 * (item_of items).size)
    && list_all piece_fits (item_of items).pieces) ≡ true
unfolding item_of most_of most_of_pieces piece_fits
items_bounded Numbers = refl
items_bounded Ipv4 = refl
items_bounded Ipv6 = refl

word_within : (words : List Word) (n : ℕ) → length (word_text words n) ≤ longest words
unfolding longest
word_within [] n = omega arith
word_within (w ∷ ws) n = by (suits n w) (word_within ws n)
  where
    by : (t : Bool) → length (word_text ws n) ≤ longest ws → length (if t then w.text else word_text ws n) ≤ max (length w.text) (longest ws)
    by true others = omega arith
    by false others = omega (arith, others)

some_width : (width : ℕ) → (nat_le 1 width && nat_le width 8) ≡ true → (1 ≤ width) × (width ≤ 8)
some_width width e = let p = and_parts (nat_le 1 width) (nat_le width 8) e in (leb-true 1 width p.0, leb-true width 8 p.1)

field_within : (shape : Shape) (width : ℕ) (bytes : List ℕ) → fits_shape shape width ≡ true → length bytes ≤ width → All IsByte bytes
    → length (field_text shape bytes) ≤ most_of shape width
unfolding most_of
field_within Hexadecimal width bytes fits short all = hex_field width bytes (some_width width fits).0 short all
field_within Decimal width bytes fits short all =
    decimal_field width bytes (some_width width fits).0 (some_width width fits).1 short all
field_within OrDefault width bytes fits short all = by (little_endian bytes == 0)
  where
    by : (t : Bool) → length (if t then codes "DEFAULT" else decimal (little_endian bytes)) ≤ max 7 (3 * width)
    by true = omega arith
    by false = omega (arith, decimal_field width bytes (some_width width fits).0 (some_width width fits).1 short all)
field_within Back width bytes fits short all = omega (arith, back_within bytes all, short)
field_within Forth width bytes fits short all = omega (arith, forth_within bytes all, short)
field_within Dashed width bytes fits short all = omega (arith, dashed_within bytes all, short)
field_within Next width bytes fits short all = next_field width bytes short all
field_within Eisa width bytes fits short all =
    eisa_within (little_endian bytes)
    (omega (arith, number_within 4 bytes (omega (arith, short, eqb-true width 4 fits)) all))
field_within (AWord words) width bytes fits short all = word_within (words_of words) (little_endian bytes)

pieces_within : (pieces : List Piece) (content : List ℕ) → list_all piece_fits pieces ≡ true → All IsByte content
    → length (pieces_text pieces content) ≤ most_of_pieces pieces
unfolding most_of_pieces piece_fits
pieces_within [] content fits all = omega arith
pieces_within (piece ∷ pieces) content fits all =
    let p = and_parts (fits_shape piece.shape piece.width) (list_all piece_fits pieces) fits in
    let value : List ℕ = value_at piece content in
    let after = drop piece.place content in
    let size = piece.place + piece.width - piece.place in
    let short : length value ≤ piece.width = omega (arith, length-take size after) in
    let each = All-take IsByte size after (All-drop IsByte piece.place content all) in
    omega (
      arith,
      length-append (field_text piece.shape value ++ piece.ending) (pieces_text pieces content),
      length-append (field_text piece.shape value) piece.ending,
      field_within piece.shape piece.width value p.0 short each,
      pieces_within pieces content p.1 all,
    )

items_within : (items : Items) (k : ℕ) (bytes : List ℕ) → All IsByte bytes
    → length (flat_map (item_text (item_of items)) (first_chunks (item_of items).size k bytes)) ≤ 4 * ((item_of items).size * k)
items_within items zero bytes all = omega arith
items_within items (suc k) bytes all =
    let item = item_of items in
    let p = and_parts (nat_le (length item.start + most_of_pieces item.pieces) (4 * item.size)) (list_all piece_fits item.pieces) (items_bounded items) in
    let most : length item.start + most_of_pieces item.pieces ≤ 4 * item.size = leb-true _ _ p.0 in
    let first = take item.size bytes in
    omega (
      arith,
      most,
      length-append (item.start ++ pieces_text item.pieces first) (flat_map (item_text item) (first_chunks item.size k (drop item.size bytes))),
      length-append item.start (pieces_text item.pieces first),
      pieces_within item.pieces first p.1 (All-take IsByte item.size bytes all),
      items_within items k (drop item.size bytes) (All-drop IsByte item.size bytes all),
    )

list_within : (items : Items) (bytes : List ℕ) → All IsByte bytes
    → length (flat_map (item_text (item_of items)) (list_items (item_of items).size bytes)) ≤ 4 * length bytes
list_within items bytes all =
    let size = (item_of items).size in
    omega (arith, items_within items (length bytes / size) bytes all, div-mul-le_self (length bytes) size)

tail_within : (tail : Tail) (bytes : List ℕ) → All IsByte bytes → length (tail_text tail bytes) ≤ 4 * length bytes + most_beyond tail
unfolding most_beyond
tail_within Nothing bytes all = omega arith
tail_within Bytes bytes all = omega (arith, comma_within bytes all)
tail_within Text bytes all = omega (arith, shown_within bytes all)
tail_within Utf16 bytes all = omega (arith, utf16_within bytes)
tail_within Name bytes all = omega (arith, name_within bytes all)
tail_within Padded bytes all = omega (arith, name_within (take 32 bytes) (All-take IsByte 32 bytes all), length-take 32 bytes)
tail_within Ids bytes all = ids_within bytes all
tail_within (Repeated items) bytes all = omega (arith, list_within items bytes all)

form_within : (form : Form) (content : List ℕ) → is_bounded form ≡ true → form.least ≤ length content → All IsByte content
    → length (form_text form content) < 4 * (length content + 4)
unfolding is_bounded
form_within form content e long all =
    let fixed = length form.start + (most_of_pieces form.pieces + (most_beyond form.tail + (length form.close + most_of_pieces form.rest))) in
    let p = and_parts (nat_lt fixed (4 * (form.least + 4))) (list_all piece_fits form.pieces && list_all piece_fits form.rest) e in
    let fits = and_parts (list_all piece_fits form.pieces) (list_all piece_fits form.rest) p.1 in
    let most : fixed < 4 * (form.least + 4) = ltb-true _ _ p.0 in
    let after = drop form.least content in
    let pieces = pieces_text form.pieces content in
    let tail = tail_text form.tail after in
    let end = pieces_text form.rest content in
    omega (
      arith,
      most,
      long,
      length-append form.start (pieces ++ (tail ++ (form.close ++ end))),
      length-append pieces (tail ++ (form.close ++ end)),
      length-append tail (form.close ++ end),
      length-append form.close end,
      pieces_within form.pieces content fits.0 all,
      tail_within form.tail after (All-drop IsByte form.least content all),
      length-drop form.least content,
      pieces_within form.rest content fits.1 all,
    )

-- the text of a node in its form, or no text
pub table_within : (display_only : Bool) (kind sub_kind : ℕ) (content : List ℕ) → All IsByte content
    → length (table_text display_only kind sub_kind content) < 4 * (length content + 4)
unfolding table_text
table_within display_only kind sub_kind content all = by (form_of display_only kind sub_kind content) refl
  where
    by : (o : Option Form) → form_of display_only kind sub_kind content ≡ o → length (text_in o content) < 4 * (length content + 4)
    by None e = omega arith
    by (Some form) e =
        let is = found (matches display_only kind sub_kind content) is_bounded forms form e table_bounded in
        form_within form content is.0 (long_enough display_only kind sub_kind content form is.1) all
