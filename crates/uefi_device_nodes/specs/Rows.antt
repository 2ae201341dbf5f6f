-- The forms of nodes, and how they are printed (UEFI Specification 2.10, section 10.6.1).
use Rattle.std.specs.Prelude.{ℕ, ◌+◌, ◌/◌, Bool, true, false, nat_le, ◌==◌, ◌&&◌, if◌then◌else◌, List, [], ◌∷◌, ◌++◌, length, drop, take, slice_range, slice_index, map, Option, Some, None}
use Rattle.std.specs.List.{flat_map, list_all}
use Rattle.std.specs.Simd.{first_chunks}
use Rattle.uefi_device_nodes.specs.FieldTexts.{comma_bytes, id_strings_text, shown_bytes, until_nul, utf16_text}
use Rattle.uefi_device_nodes.specs.Fields.{field_text, fits_shape}
use Rattle.uefi_device_nodes.specs.Parts.{packed_bytes, packed_pieces, packed_text}
use Rattle.uefi_device_nodes.specs.declared.node_table.parts.Bytes.{Bytes as PackedBytes}
use Rattle.uefi_device_nodes.specs.declared.node_table.parts.Pieces.{Pieces}
use Rattle.uefi_device_nodes.specs.declared.node_table.parts.Text.{Text as PackedText}
use Rattle.uefi_device_nodes.specs.declared.node_table.rows.Mode.{Mode}
use Rattle.uefi_device_nodes.specs.declared.node_table.rows.Mode.TheVariants.{Read, Printed, Display, Libefivar, People}
use Rattle.uefi_device_nodes.specs.declared.node_table.rows.Shape.{Shape}
use Rattle.uefi_device_nodes.specs.declared.node_table.rows.Tail.{Tail}
use Rattle.uefi_device_nodes.specs.declared.node_table.rows.Tail.TheVariants.{Nothing, Bytes, Text, Utf16, Name, Padded, Ids, Repeated}
use Rattle.uefi_device_nodes.specs.declared.node_table.rows.PieceOf.{PieceOf}
use Rattle.uefi_device_nodes.specs.declared.node_table.rows.RowOf.{RowOf}
use Rattle.uefi_device_nodes.specs.declared.node_table.rows.ItemOf.{ItemOf}
use Rattle.uefi_device_nodes.specs.declared.node_table.rows.Spare.{Spare}
use Rattle.uefi_device_nodes.specs.declared.node_table.rows.Items.{Items}
use Rattle.uefi_device_nodes.specs.declared.node_table.rows.Items.TheVariants.{Numbers, Ipv4, Ipv6}
use Rattle.uefi_device_nodes.specs.declared.node_table.table.TheConstants.{NUMBERS, IPV4_ADDRESSES, IPV6_ADDRESSES}

-- a field: its shape in the text, its offset and width in the data, the text after it, and its bytes if it is
-- omitted
pub record Piece : Type 0 where
  pub shape : Shape
  pub place : ℕ
  pub width : ℕ
  pub ending : List ℕ
  pub spare : Spare

-- a form of nodes: a row of the table
pub record Form : Type 0 where
  pub kind : ℕ
  pub sub_kind : ℕ
  pub mode : Mode
  pub least : ℕ
  pub more : ℕ
  pub when : List (ℕ × ℕ)
  pub also : List (ℕ × ℕ)
  pub start : List ℕ
  pub pieces : List Piece
  pub tail : Tail
  pub close : List ℕ
  pub rest : List Piece

-- a packed field, unpacked
abbrev pub as_piece : PieceOf ℕ PackedText → Piece
as_piece p = record {
  shape = p.shape;
  place = p.place;
  width = p.width;
  ending = packed_text p.ending;
  spare = p.spare;
}

-- a packed form, unpacked
abbrev pub as_form : RowOf ℕ PackedText PackedBytes Pieces → Form
as_form r = record {
  kind = r.kind;
  sub_kind = r.sub_kind;
  mode = r.mode;
  least = r.least;
  more = r.more;
  when = packed_bytes r.when;
  also = packed_bytes r.also;
  start = packed_text r.start;
  pieces = map as_piece (packed_pieces r.pieces);
  tail = r.tail;
  close = packed_text r.close;
  rest = map as_piece (packed_pieces r.rest);
}

-- a field in the source of the table
abbrev pub const_piece : PieceOf ℕ (record { now : List ℕ }) → Piece
const_piece p = record {
  shape = p.shape;
  place = p.place;
  width = p.width;
  ending = p.ending.now;
  spare = p.spare;
}

-- a form in the source of the table
abbrev pub const_form : RowOf ℕ (record { now : List ℕ }) (record { now : List (ℕ × ℕ) })
    (record { now : List (PieceOf ℕ (record { now : List ℕ })) }) → Form
const_form r = record {
  kind = r.kind;
  sub_kind = r.sub_kind;
  mode = r.mode;
  least = r.least;
  more = r.more;
  when = r.when.now;
  also = r.also.now;
  start = r.start.now;
  pieces = map const_piece r.pieces.now;
  tail = r.tail;
  close = r.close.now;
  rest = map const_piece r.rest.now;
}

-- the bytes of a field of data
abbrev pub value_at : Piece → List ℕ → List ℕ
value_at piece content = slice_range content piece.place (piece.place + piece.width)

-- the text of a field, and its ending
abbrev pub piece_text : List ℕ → Piece → List ℕ
piece_text content piece = field_text piece.shape (value_at piece content) ++ piece.ending

-- the text of fields, and their endings
abbrev pub pieces_text : List Piece → List ℕ → List ℕ
pieces_text pieces content = flat_map (piece_text content) pieces

-- an item of a list: the number of its bytes, the start of its text, and its fields
pub record Item : Type 0 where
  pub size : ℕ
  pub start : List ℕ
  pub pieces : List Piece

-- a packed item, unpacked
abbrev pub as_item : ItemOf PackedText Pieces → Item
as_item i = record {
  size = i.size;
  start = packed_text i.start;
  pieces = map as_piece (packed_pieces i.pieces);
}

-- an item in the source of the table
abbrev pub const_item :
    ItemOf (record { now : List ℕ }) (record { now : List (PieceOf ℕ (record { now : List ℕ })) }) → Item
const_item i = record { size = i.size; start = i.start.now; pieces = map const_piece i.pieces.now }

-- the item of a list
unfoldable pub item_of : Items → Item
item_of Numbers = const_item NUMBERS
item_of Ipv4 = const_item IPV4_ADDRESSES
item_of Ipv6 = const_item IPV6_ADDRESSES

-- the text of an item
abbrev pub item_text : Item → List ℕ → List ℕ
item_text item bytes = item.start ++ pieces_text item.pieces bytes

-- the bytes of each whole item
abbrev pub list_items : ℕ → List ℕ → List (List ℕ)
list_items size bytes = first_chunks size (length bytes / size) bytes

-- the text of a list
abbrev pub list_text : Item → List ℕ → List ℕ
list_text item bytes = flat_map (item_text item) (list_items item.size bytes)

-- the text of the data after the fixed part
abbrev pub tail_text : Tail → List ℕ → List ℕ
tail_text Nothing bytes = []
tail_text Bytes bytes = comma_bytes bytes
tail_text Text bytes = shown_bytes bytes
tail_text Utf16 bytes = utf16_text bytes
tail_text Name bytes = shown_bytes (until_nul bytes)
tail_text Padded bytes = shown_bytes (until_nul (take 32 bytes))
tail_text Ids bytes = id_strings_text bytes
tail_text (Repeated items) bytes = list_text (item_of items) bytes

-- the text of a node in a form, from its data
abbrev pub form_text : Form → List ℕ → List ℕ
form_text form content = form.start ++ (pieces_text form.pieces content
    ++ (tail_text form.tail (drop (form.least) content) ++ (form.close ++ pieces_text form.rest content)))

-- whether data contains these bytes
abbrev pub has_bytes : List (ℕ × ℕ) → List ℕ → Bool
has_bytes bytes content = list_all (λ b. slice_index content b.0 == b.1) bytes

-- whether a form is used for a text, which may be only for display
abbrev pub is_used : Bool → Mode → Bool
is_used display_only Read = true
is_used display_only Printed = true
is_used display_only Display = display_only
is_used display_only Libefivar = false
is_used display_only People = false

-- whether a form can print a node of a type, a sub-type and data
abbrev pub matches : Bool → ℕ → ℕ → List ℕ → Form → Bool
matches display_only kind sub_kind content form =
    ((form.kind == kind) && ((form.sub_kind == sub_kind) && is_used display_only form.mode))
    && (nat_le (form.least + form.more) (length content) && has_bytes form.when content)

-- the first form that passes a test
abbrev pub find_form : (Form → Bool) → List Form → Option Form
find_form test [] = None
find_form test (form ∷ forms) = if test form then Some form else find_form test forms

-- whether all forms are for nodes of one type
abbrev pub have_one_kind : List Form → Bool
have_one_kind [] = true
have_one_kind (form ∷ forms) = list_all (λ other. other.kind == form.kind) forms

-- whether the first of these forms is for nodes of this type
abbrev pub begin_with_kind : ℕ → List Form → Bool
begin_with_kind kind [] = false
begin_with_kind kind (form ∷ forms) = form.kind == kind

-- whether a field ends within `size` bytes, and its width fits its shape
abbrev pub is_within : ℕ → Piece → Bool
is_within size piece = nat_le (piece.place + piece.width) size && fits_shape piece.shape piece.width

-- all fields of a form
abbrev pub fields_of : Form → List Piece
fields_of form = form.pieces ++ form.rest

-- whether all fields of a form end within the fixed part
abbrev pub is_laid_out : Form → Bool
is_laid_out form = list_all (is_within (form.least)) (fields_of form)
