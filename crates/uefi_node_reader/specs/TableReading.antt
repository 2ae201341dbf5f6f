-- How the table's forms, which print nodes, read them from their texts.
use Rattle.std.specs.Prelude.{◌≡◌, ℕ, zero, suc, ◌+◌, ◌-◌, Bool, true, false, nat_le, nat_lt, not, ◌==◌, ◌&&◌, ◌||◌, if◌then◌else◌, List, [], ◌∷◌, ◌++◌, codes, length, take, drop, slice_set, All, Option, Some, None}
use Rattle.std.proofs.Math.ListN.{replicate}
use Rattle.std.specs.List.{concat, list_all}
use Rattle.uefi_text.specs.Packed.{IsByte}
use Rattle.uefi_text.specs.UnitBytes.{unit_bytes}
use Rattle.uefi_device_nodes.specs.Rows.{Piece, Form, Item, fields_of, find_form, is_within, item_of, matches, value_at}
use Rattle.uefi_device_nodes.specs.Table.{text_in}
use Rattle.uefi_device_nodes.specs.Fields.{fits_shape}
use Rattle.uefi_device_nodes.specs.declared.node_table.rows.Mode.{Mode}
use Rattle.uefi_device_nodes.specs.declared.node_table.rows.Mode.TheVariants.{Read, Printed, Display, Libefivar, People}
use Rattle.uefi_device_nodes.specs.declared.node_table.rows.Shape.{Shape}
use Rattle.uefi_device_nodes.specs.declared.node_table.rows.Shape.TheVariants.{Hexadecimal, Decimal, OrDefault, Back, Forth, Dashed, Next, Eisa, Word}
use Rattle.uefi_device_nodes.specs.declared.node_table.rows.Tail.{Tail}
use Rattle.uefi_device_nodes.specs.declared.node_table.rows.Tail.TheVariants.{Nothing, Bytes, Text, Utf16, Name, Padded, Ids, Repeated}
use Rattle.uefi_device_nodes.specs.Nodes.{Node, node_with}
use Rattle.uefi_device_nodes.specs.declared.node_table.words.Words.{Words}
use Rattle.uefi_device_nodes.specs.declared.node_table.words.Words.TheVariants.{Parity, StopBits, Digests, Login, Protocol}
use Rattle.uefi_node_reader.specs.FieldReading.{◌>>=◌, clear_run, comma_read, either_read, field_kept, field_read, is_clear, read_if}
use Rattle.uefi_node_reader.specs.Numerals.{digit_of, has_digit}
use Rattle.uefi_node_reader.specs.WordReading.{after, clash, same_text}

-- data with these bytes at their places
abbrev pub put_all : List (ℕ × ℕ) → List ℕ → List ℕ
put_all [] content = content
put_all (b ∷ bs) content = put_all bs (slice_set content b.0 b.1)

-- the fixed part of a form's data, with a zero for each byte of a field
abbrev pub blank : Form → List ℕ
blank form = put_all form.also (put_all form.when (replicate form.least 0))

-- data with a value in place of a field's bytes
abbrev pub put_at : Piece → List ℕ → List ℕ → List ℕ
put_at piece value content =
    take piece.place content ++ (value ++ drop piece.width (drop piece.place content))

-- data with a field from a text, and the rest of the text after the field's ending
abbrev pub piece_put : Piece → List ℕ → List ℕ → Option (List ℕ × List ℕ)
piece_put piece content text = do
  value ← field_read piece.shape piece.width text
  rest ← after piece.ending value.1
  Some (put_at piece value.0 content, rest)

-- data with several fields from a text, and the rest of the text after their endings
abbrev pub pieces_put : List Piece → List ℕ → List ℕ → Option (List ℕ × List ℕ)
pieces_put [] content text = Some (content, text)
pieces_put (piece ∷ pieces) content text = do
  read ← piece_put piece content text
  pieces_put pieces read.0 read.1

-- the items of a list that continue in a text, given the text after the start of the first, if an item begins
-- there
abbrev pub more_items : (List ℕ → Option (List ℕ × List ℕ)) → Item → List ℕ → Option (List ℕ)
    → Option (List ℕ × List ℕ)
more_items others item text None = Some ([], text)
more_items others item text (Some fields) = do
  first ← pieces_put item.pieces (replicate item.size 0) fields
  read ← others first.1
  Some (first.0 ++ read.0, read.1)

-- the items at the start of a text, at most `most`, and the rest of the text
abbrev pub items_read : ℕ → Item → List ℕ → Option (List ℕ × List ℕ)
items_read zero item text = Some ([], text)
items_read (suc most) item text = more_items (items_read most item) item text (after item.start text)

-- all items at the start of a text, and the rest of the text
abbrev pub list_read : Item → List ℕ → Option (List ℕ × List ℕ)
list_read item text = items_read (length text) item text

-- the first byte of a text, or 0 if it is empty
abbrev pub first_of : List ℕ → ℕ
first_of [] = 0
first_of (c ∷ cs) = c

-- the units of characters that were read
abbrev pub as_units : List ℕ × List ℕ → Option (List ℕ × List ℕ)
as_units run = Some (unit_bytes run.0, run.1)

-- a text that was read, and a NUL
abbrev pub as_name : List ℕ × List ℕ → Option (List ℕ × List ℕ)
as_name run = Some (run.0 ++ 0 ∷ [], run.1)

-- a text with zeros after it, in 32 bytes
abbrev pub padded : List ℕ → List ℕ
padded text = text ++ replicate (32 - length text) 0

-- the padded data of a text that was read, if the text has at most 32 bytes
abbrev pub as_padded : List ℕ × List ℕ → Option (List ℕ × List ℕ)
as_padded run = if nat_le (length run.0) 32 then Some (padded run.0, run.1) else None

-- the ID strings of a device in the order of its data, each with a NUL
abbrev pub as_ids : List ℕ → List ℕ → List ℕ → List ℕ
as_ids hid cid uid = hid ++ (0 ∷ (uid ++ (0 ∷ (cid ++ (0 ∷ [])))))

-- the ID strings of a device from a text: the strings of _HID and of _CID up to a comma, and then the string
-- of _UID
abbrev pub ids_read : ℕ → List ℕ → Option (List ℕ × List ℕ)
ids_read stop text = do
  t ← after (codes ",") (clear_run 44 text).1
  u ← after (codes ",") (clear_run 44 t).1
  Some (as_ids (clear_run 44 text).0 (clear_run 44 t).0 (clear_run stop u).0, (clear_run stop u).1)

-- the data after the fields, before the end of the text, and the rest of the text
abbrev pub tail_read : Tail → List ℕ → List ℕ → Option (List ℕ × List ℕ)
tail_read Nothing close text = Some ([], text)
tail_read Bytes close text = comma_read text
tail_read Text close text = Some (clear_run (first_of close) text)
tail_read Utf16 close text = as_units (clear_run (first_of close) text)
tail_read Name close text = as_name (clear_run (first_of close) text)
tail_read Padded close text = as_padded (clear_run (first_of close) text)
tail_read Ids close text = ids_read (first_of close) text
tail_read (Repeated items) close text = list_read (item_of items) text

-- data, and the data after it that was read
abbrev pub added : List ℕ → List ℕ × List ℕ → Option (List ℕ × List ℕ)
added content tail = Some (content ++ tail.0, tail.1)

-- a fixed part that was read, and the data after it
abbrev pub followed : List ℕ → List ℕ × List ℕ → Option (List ℕ × List ℕ)
followed tail fixed = Some (fixed.0 ++ tail, fixed.1)

-- all data of a node, from the data after the fields on, given the fixed part
abbrev pub rest_read : Form → List ℕ × List ℕ → Option (List ℕ × List ℕ)
rest_read form head = do
  tail ← tail_read form.tail form.close head.1
  rest ← after form.close tail.1
  pieces_put form.rest head.0 rest >>= followed tail.0

-- whether texts of a form are read
abbrev pub is_read : Mode → Bool
is_read Read = true
is_read Printed = false
is_read Display = false
is_read Libefivar = true
is_read People = true

-- whether texts of a form are read exactly as they are printed
abbrev pub is_exact : Mode → Bool
is_exact Read = true
is_exact Printed = false
is_exact Display = false
is_exact Libefivar = true
is_exact People = false

-- the data of a node of a form, and the rest of the text
abbrev pub form_read : Form → List ℕ → Option (List ℕ × List ℕ)
form_read form text = if is_exact form.mode
    then (after form.start text >>= λ t. pieces_put form.pieces (blank form) t >>= rest_read form) else None

-- the index of the first form that passes a test, or the number of forms if none does
abbrev pub form_place : (Form → Bool) → List Form → ℕ
form_place test [] = 0
form_place test (form ∷ forms) = if test form then 0 else form_place test forms + 1

-- whether a form prints a node in a text that can be read back
abbrev pub prints : Node → Form → Bool
prints node = matches false node.device_type node.sub_type node.content

-- whether a node that was read in the form at an index is printed in that form, and fits into a path
abbrev pub is_kept : List Form → ℕ → Node → Bool
is_kept all place node = (form_place (prints node) all == place) && nat_le (length node.content) 0xfffb

-- a node that is printed in the form at an index, and the rest of the text
abbrev pub kept : List Form → ℕ → Form → Option (List ℕ × List ℕ) → Option (Node × List ℕ)
kept all place form None = None
kept all place form (Some read) = read_if (is_kept all place (node_with form.kind form.sub_kind read.0))
    (node_with form.kind form.sub_kind read.0) read.1

-- the node at the start of a text in one of these forms, which have the indices from `place` on in the table,
-- and the rest of the text
abbrev pub forms_read : List Form → ℕ → List Form → List ℕ → Option (Node × List ℕ)
forms_read all place [] text = None
forms_read all place (form ∷ forms) text =
    either_read (kept all place form (form_read form text)) (forms_read all (place + 1) forms text)

-- the node at the start of a text in a form of the table, and the rest of the text
abbrev pub table_read : List Form → List ℕ → Option (Node × List ℕ)
table_read forms text = forms_read forms 0 forms text

-- data with each field replaced by a field of other data, as that is read back from its text
abbrev pub overlay : List Piece → List ℕ → List ℕ → List ℕ
overlay [] data_ content = content
overlay (piece ∷ pieces) data_ content =
    overlay pieces data_ (put_at piece (field_kept piece.shape (value_at piece data_)) content)

-- bytes that the text of an item describes completely: fields, and 0 for each other byte
abbrev pub IsItem : Item → List ℕ → Type 0
IsItem item bytes = (length bytes ≡ item.size) × (overlay item.pieces bytes (replicate item.size 0) ≡ bytes)

-- bytes that are items of a list
abbrev pub AreItems : Item → List ℕ → Type 0
AreItems item bytes = (items : List (List ℕ)) × ((bytes ≡ concat items) × All (IsItem item) items)

-- data after the fields that its text describes completely, before the end of the text
abbrev pub IsTailTold : Tail → List ℕ → List ℕ → Type 0
IsTailTold Nothing close bytes = bytes ≡ []
IsTailTold Bytes close bytes = Unit {0}
IsTailTold Text close bytes = list_all (is_clear (first_of close)) bytes ≡ true
IsTailTold Utf16 close bytes =
    (text : List ℕ) × ((bytes ≡ unit_bytes text) × (list_all (is_clear (first_of close)) text ≡ true))
IsTailTold Name close bytes =
    (name : List ℕ) × ((bytes ≡ name ++ 0 ∷ []) × (list_all (is_clear (first_of close)) name ≡ true))
IsTailTold Padded close bytes = (text : List ℕ) × (bytes ≡ padded text)
    × (nat_le (length text) 32 ≡ true) × (list_all (is_clear (first_of close)) text ≡ true)
IsTailTold Ids close bytes = (hid cid uid : List ℕ) × (bytes ≡ as_ids hid cid uid)
    × (list_all (is_clear 44) hid ≡ true) × (list_all (is_clear 44) cid ≡ true)
    × (list_all (is_clear (first_of close)) uid ≡ true)
IsTailTold (Repeated items) close bytes = AreItems (item_of items) bytes

-- data that its text in a form describes completely: the fixed bytes, the fields, and the data after them
abbrev pub IsWhole : Form → List ℕ → Type 0
IsWhole form content = (overlay (fields_of form) content (blank form) ++ drop form.least content ≡ content)
    × IsTailTold form.tail form.close (drop form.least content)

-- the text of a node in its form of the table, or an empty text
abbrev pub printed_in : List Form → Node → List ℕ
printed_in forms node = text_in (find_form (prints node) forms) node.content

-- a node that its text in the table describes completely
pub record IsTabled (forms : List Form) (node : Node) : Type 0 where
  pub form : Form
  pub found : find_form (prints node) forms ≡ Some form
  pub read : is_exact form.mode ≡ true
  pub whole : IsWhole form node.content
  pub bytes : All IsByte node.content
  pub fits : nat_le (length node.content) 0xfffb ≡ true

-- whether fields do not overlap
abbrev pub is_apart : Piece → Piece → Bool
is_apart one other =
    nat_le (one.place + one.width) other.place || nat_le (other.place + other.width) one.place

abbrev pub are_apart : List Piece → Bool
are_apart [] = true
are_apart (piece ∷ pieces) = list_all (is_apart piece) pieces && are_apart pieces

-- whether a field would continue into a text
abbrev pub goes_on : Shape → List ℕ → Bool
goes_on Hexadecimal text = has_digit 16 text
goes_on Decimal text = has_digit 10 text
goes_on OrDefault text = has_digit 10 text
goes_on Back text = false
goes_on Forth text = false
goes_on Dashed text = false
goes_on Next text = has_digit 16 text
goes_on Eisa text = false
goes_on (Word list) text = false

-- whether the text of a shape shows where it ends
abbrev pub is_closed : Shape → Bool
is_closed Hexadecimal = false
is_closed Decimal = false
is_closed OrDefault = false
is_closed Back = true
is_closed Forth = true
is_closed Dashed = true
is_closed Next = false
is_closed Eisa = true
is_closed (Word list) = true

-- whether no field of a shape continues into an ending
abbrev pub ends_field : Shape → List ℕ → Bool
ends_field shape [] = is_closed shape
ends_field shape (c ∷ cs) = not (goes_on shape (c ∷ []))

-- whether a list is empty
abbrev pub is_empty : {X : Type 0} → List X → Bool
is_empty [] = true
is_empty (x ∷ xs) = false

-- whether the endings of fields end them; if `free`, the last ending may be empty
abbrev pub ends_pieces : Bool → List Piece → Bool
ends_pieces free [] = true
ends_pieces free (piece ∷ pieces) =
    (ends_field piece.shape piece.ending || (free
    && (is_empty pieces && (is_empty piece.ending && not (goes_on piece.shape [])))))
    && ends_pieces free pieces

-- whether a text begins with a byte that is no hexadecimal digit
abbrev pub begins_apart : List ℕ → Bool
begins_apart [] = false
begins_apart (c ∷ cs) = not (nat_lt (digit_of c) 16)

-- whether a tail, and what follows it if it is empty, begins with no digit
abbrev pub is_open : Tail → Bool
is_open Nothing = false
is_open Bytes = false
is_open Text = false
is_open Utf16 = false
is_open Name = false
is_open Padded = false
is_open Ids = false
is_open (Repeated items) = true

-- whether the end of a text ends a tail: after bytes, it begins with no digit and no comma; after a list,
-- with no digit and no item; after a text, it is not empty
abbrev pub ends_tail : Tail → List ℕ → Bool
ends_tail Nothing close = true
ends_tail (Repeated items) close = clash (item_of items).start close && begins_apart close
ends_tail Name [] = false
ends_tail Name (c ∷ cs) = true
ends_tail Padded [] = false
ends_tail Padded (c ∷ cs) = true
ends_tail Ids [] = false
ends_tail Ids (c ∷ cs) = true
ends_tail Text [] = false
ends_tail Text (c ∷ cs) = true
ends_tail Utf16 [] = false
ends_tail Utf16 (c ∷ cs) = true
ends_tail Bytes [] = false
ends_tail Bytes (c ∷ cs) = not (nat_lt (digit_of c) 16) && not (c == 44)

-- whether all bytes are placed within `size` bytes
abbrev pub are_within : ℕ → List (ℕ × ℕ) → Bool
are_within size bytes = list_all (λ b. nat_lt b.0 size) bytes

-- whether a form reads back what it prints
abbrev pub is_sound : Form → Bool
is_sound form = not (is_read form.mode)
    || ((list_all (is_within (length (blank form))) (fields_of form) && are_apart (fields_of form))
    && ((ends_pieces (is_open form.tail) form.pieces && ends_pieces false form.rest)
    && (ends_tail form.tail form.close
    && (list_all (λ b. nat_lt b 256) (blank form) && (length (blank form) == form.least)))))

-- whether the items of a list are read back from what they print
abbrev pub is_sound_item : Item → Bool
is_sound_item item = (list_all (is_within item.size) item.pieces && are_apart item.pieces)
    && (ends_pieces true item.pieces && (begins_apart item.start && nat_lt 0 item.size))

-- whether a form's fixed part has at most 56 bytes, and contains its fixed bytes
abbrev pub is_filled : Form → Bool
is_filled form = nat_le form.least 56 && (are_within form.least form.when && are_within form.least form.also)

-- the number of a list of words
abbrev pub list_number : Words → ℕ
list_number Parity = 0
list_number StopBits = 1
list_number Digests = 2
list_number Login = 3
list_number Protocol = 4

-- whether shapes are equal
abbrev pub same_shape : Shape → Shape → Bool
same_shape Hexadecimal Hexadecimal = true
same_shape Decimal Decimal = true
same_shape OrDefault OrDefault = true
same_shape Back Back = true
same_shape Forth Forth = true
same_shape Dashed Dashed = true
same_shape Next Next = true
same_shape Eisa Eisa = true
same_shape (Word one) (Word other) = list_number one == list_number other
same_shape one other = false

-- whether all texts of a shape consist of digits
abbrev pub is_digits : Shape → Bool
is_digits Hexadecimal = true
is_digits Decimal = true
is_digits Back = true
is_digits Forth = true
is_digits shape = false

-- whether endings begin with different bytes, neither of which is a digit
abbrev pub ends_apart : List ℕ → List ℕ → Bool
ends_apart [] others = false
ends_apart (c ∷ cs) [] = false
ends_apart (c ∷ cs) (d ∷ ds) = not (c == d) && (not (nat_lt (digit_of c) 16) && not (nat_lt (digit_of d) 16))

-- whether a field is not read where the other is printed: different bytes follow their digits
abbrev pub are_parted : Piece → Piece → Bool
are_parted p q = (is_digits p.shape && is_digits q.shape)
    && (fits_shape p.shape p.width && ends_apart p.ending q.ending)

-- whether fields are not read where others are printed: two fields differ so, or they are alike up to two
-- endings that differ
abbrev pub pieces_differ : List Piece → List Piece → Bool
pieces_differ [] others = false
pieces_differ (p ∷ ps) [] = false
pieces_differ (p ∷ ps) (q ∷ qs) = are_parted p q || ((same_shape p.shape q.shape && (p.width == q.width))
    && (clash p.ending q.ending || (same_text p.ending q.ending && pieces_differ ps qs)))

-- whether a form does not read what the other prints
abbrev pub differ : Form → Form → Bool
differ one other = not (is_exact one.mode) || (not (is_exact other.mode) || (clash one.start other.start
    || (same_text one.start other.start && pieces_differ one.pieces other.pieces)))

-- whether no form reads what a later form prints
abbrev pub all_differ : List Form → Bool
all_differ [] = true
all_differ (form ∷ forms) = list_all (differ form) forms && all_differ forms
