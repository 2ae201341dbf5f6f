-- The steps of forms: the text of each, and the data of several.
use Rattle.std.specs.Prelude.{◌≡◌, ◌<◌, ℕ, ◌+◌, ◌/◌, ◌^◌, nat_le, nat_lt, not, Bool, true, false, ◌==◌, ◌&&◌, ◌||◌, if◌then◌else◌, List, [], ◌∷◌, ◌++◌, codes, length, take, drop, map, slice_range, slice_set, Option, Some, None, Ok}
use Rattle.std.specs.List.{concat, list_all}
use Rattle.std.specs.Option.{option_map}
use Rattle.std.specs.Simd.{first_chunks}
use Rattle.std.proofs.Math.ListN.{replicate}
use Rattle.uefi_text.specs.Packed.{little_endian}
use Rattle.uefi_text.specs.UnitBytes.{unit_bytes, units_of_bytes}
use Rattle.uefi_device_nodes.specs.FieldTexts.{uid_string, until_nul}
use Rattle.uefi_node_steps.specs.Leaves.{ByteLeaf, Bytes, Class, Clear, Each, FitBoth, IsBytes, IsId, IsNumber, Leaf, Nobody, Number, Word, after, apart, are_sound_words, backwards, based, both, bytes_after_comma, clear_text, dashed, decimal, eisa, ends_at, first_of, from_digits, guid, has_comma, have_no_blank, hexadecimal, id_strings, ids_text, in_bytes, ipv4, ipv6, is_blank, is_clear, literal, many, mapped, marked, name_text, next_number, nothing, or_zero, padded, padded_text, pairs, spared, stored_strings, uid_text, units_text, word_of}
use Rattle.uefi_node_steps.specs.declared.items.TheConstants.{NUMBERS, IPV4_ADDRESSES, IPV6_ADDRESSES}
use Rattle.uefi_node_steps.specs.declared.steps.Encoding.{Encoding}
use Rattle.uefi_node_steps.specs.declared.steps.Encoding.TheVariants as encoding
use Rattle.uefi_node_steps.specs.declared.steps.Expected.TheVariants as expected
use Rattle.uefi_node_steps.specs.declared.steps.Field.{Field as FieldOf}
use Rattle.uefi_node_steps.specs.declared.steps.Items.{Items}
use Rattle.uefi_node_steps.specs.declared.steps.Items.TheVariants.{Numbers, Ipv4 as Ipv4Items, Ipv6 as Ipv6Items}
use Rattle.uefi_node_steps.specs.declared.steps.LayoutOf.{LayoutOf}
use Rattle.uefi_node_steps.specs.declared.steps.Shape.{Shape}
use Rattle.uefi_node_steps.specs.declared.steps.Shape.TheVariants.{Hexadecimal, Marked, Decimal, OrDefault, Next, Forth, Back, BaseForth, BaseBack, Apart, Dashed, Guid, Ipv4, Ipv6, Eisa, Word as WordOf}
use Rattle.uefi_node_steps.specs.declared.steps.StepOf.{StepOf}
use Rattle.uefi_node_steps.specs.declared.steps.StepOf.TheVariants.{Literal, Field, Data, Many}
use Rattle.uefi_node_steps.specs.declared.steps.Words.{Words}
use Rattle.uefi_node_steps.specs.declared.steps.Words.TheVariants.{Parity, StopBits, Digests, Login, Protocol}
use Rattle.uefi_node_steps.specs.declared.words.TheConstants.{PARITY, STOP_BITS, DIGESTS, LOGIN, PROTOCOL}
use Rattle.uefi_node_steps.specs.declared.words.WordOf.{WordOf as WordIn}

-- a step of the table
abbrev pub Step : Type 0
Step = StepOf (record { now : List ℕ })

-- a word of the table, given its letters, and the words of a list
abbrev pub word_by : {L : Type 0} → (L → List ℕ) → WordIn L → Word
word_by now word = record { mask = word.mask; number = word.number; letters = now word.letters }

abbrev pub as_word : WordIn (record { now : List ℕ }) → Word
as_word word = word_by (λ (l : record { now : List ℕ }). l.now) word

abbrev pub words_of : Words → List Word
words_of Parity = map as_word PARITY.now
words_of StopBits = map as_word STOP_BITS.now
words_of Digests = map as_word DIGESTS.now
words_of Login = map as_word LOGIN.now
words_of Protocol = map as_word PROTOCOL.now

-- the text of a field
abbrev pub shape_leaf : Shape → ℕ → ByteLeaf
shape_leaf Hexadecimal width = in_bytes width (hexadecimal (256 ^ width))
shape_leaf Marked width = in_bytes width (marked (hexadecimal (256 ^ width)))
shape_leaf Decimal width = in_bytes width (decimal (256 ^ width))
shape_leaf OrDefault width = in_bytes width (or_zero (codes "DEFAULT") (256 ^ width))
shape_leaf Next width = in_bytes width (next_number (256 ^ width))
shape_leaf Forth width = from_digits (pairs width)
shape_leaf Back width = from_digits (backwards width)
shape_leaf BaseForth width = based (pairs width)
shape_leaf BaseBack width = marked (based (backwards width))
shape_leaf (Apart letter) width = apart (letter ∷ []) width
shape_leaf Dashed width = dashed width
shape_leaf Guid width = guid
shape_leaf Ipv4 width = ipv4
shape_leaf Ipv6 width = ipv6
shape_leaf Eisa width = in_bytes width eisa
shape_leaf (WordOf words) width = in_bytes width (word_of (expected.Word words) (words_of words))

abbrev pub field_leaf : FieldOf → ByteLeaf
field_leaf f = spared (option_map (replicate f.width) f.spare) (shape_leaf f.shape f.width)

-- the text of data after the fixed part
abbrev pub data_leaf : Encoding → ByteLeaf
data_leaf encoding.Bytes = bytes_after_comma
data_leaf (encoding.Text stop) = clear_text stop
data_leaf (encoding.Utf16 stop) = units_text stop
data_leaf (encoding.Name stop) = name_text stop
data_leaf (encoding.Padded stop) = padded_text stop
data_leaf (encoding.NameAfterComma stop) = after (codes ",") (name_text stop)
data_leaf (encoding.Ids stop) = after (codes ",") (ids_text stop)
data_leaf (encoding.Uid stop) = after (codes ",") (uid_text stop)

-- the text of a step, given that of the lists
abbrev pub step_leaf : (Items → ByteLeaf) → Step → ByteLeaf
step_leaf lists (Literal text) = literal text.now
step_leaf lists (Field field) = field_leaf field
step_leaf lists (Data encoding) = data_leaf encoding
step_leaf lists (Many items) = lists items

-- the texts of steps, one after the other
abbrev pub steps_leaf : (Step → ByteLeaf) → List Step → Leaf (List (List ℕ))
steps_leaf leaf [] = nothing
steps_leaf leaf (step ∷ steps) = both (leaf step) (steps_leaf leaf steps)

-- the fixed part of data, and the data after it
abbrev pub Parts : Type 0
Parts = List ℕ × List ℕ

-- the bytes that a step prints
abbrev pub part_of : Parts → Step → List ℕ
part_of data_ (Literal text) = []
part_of data_ (Field f) = slice_range data_.0 f.place (f.place + f.width)
part_of data_ (Data encoding) = data_.1
part_of data_ (Many items) = data_.1

-- data with these bytes for a step
abbrev pub put_part : Step → List ℕ → Parts → Parts
put_part (Literal text) bytes data_ = data_
put_part (Field f) bytes data_ =
    (take f.place data_.0 ++ (bytes ++ drop f.width (drop f.place data_.0)), data_.1)
put_part (Data encoding) bytes data_ = (data_.0, bytes)
put_part (Many items) bytes data_ = (data_.0, bytes)

abbrev pub put_parts : List Step → List (List ℕ) → Parts → Parts
put_parts [] vs data_ = data_
put_parts (step ∷ steps) [] data_ = data_
put_parts (step ∷ steps) (v ∷ vs) data_ = put_parts steps vs (put_part step v data_)

-- data with these bytes at their places
abbrev pub put_all : List (ℕ × ℕ) → List ℕ → List ℕ
put_all [] content = content
put_all (b ∷ bs) content = put_all bs (slice_set content b.0 b.1)

-- the data of a layout, and its text
pub record Laid : Type 0 where
  pub size : ℕ
  pub bytes : List (ℕ × ℕ)
  pub steps : List Step

-- a layout of the table
abbrev pub as_laid : LayoutOf (record { now : List Step }) (record { now : List (ℕ × ℕ) }) → Laid
as_laid layout = record { size = layout.size; bytes = layout.bytes.now; steps = layout.steps.now }

-- data with a zero for each byte of a field
abbrev pub blank : Laid → Parts
blank laid = (put_all laid.bytes (replicate laid.size 0), [])

abbrev pub laid_leaf : (Step → ByteLeaf) → Laid → Leaf Parts
laid_leaf leaf laid = mapped (λ vs. put_parts laid.steps vs (blank laid)) (λ data_. map
    (part_of data_) laid.steps)
    (steps_leaf leaf laid.steps)

-- the whole items of data
abbrev pub chunks : ℕ → List ℕ → List (List ℕ)
chunks size bytes = first_chunks size (length bytes / size) bytes

-- a list of items; a list within a list is read as nothing
abbrev pub no_list : Items → ByteLeaf
no_list items = record { text = λ v. []; read = λ text. Ok ([], text) }

abbrev pub item_leaf : Laid → ByteLeaf
item_leaf item = mapped (λ (p : Parts). p.0) (λ bytes. (bytes, [])) (laid_leaf (step_leaf no_list) item)

abbrev pub list_leaf : Laid → ByteLeaf
list_leaf item = mapped concat (chunks item.size) (many has_comma (item_leaf item))

abbrev pub item_of : Items → Laid
item_of Numbers = as_laid NUMBERS
item_of Ipv4Items = as_laid IPV4_ADDRESSES
item_of Ipv6Items = as_laid IPV6_ADDRESSES

abbrev pub lists : Items → ByteLeaf
lists items = list_leaf (item_of items)

-- the letters that may continue a step
abbrev pub class_of_shape : Shape → Class
class_of_shape Hexadecimal = Number
class_of_shape Marked = Number
class_of_shape Decimal = Number
class_of_shape OrDefault = Number
class_of_shape Next = Number
class_of_shape Ipv4 = Number
class_of_shape shape = Nobody

abbrev pub class_of_data : Encoding → Class
class_of_data encoding.Bytes = Bytes
class_of_data (encoding.Text stop) = Clear stop
class_of_data (encoding.Utf16 stop) = Clear stop
class_of_data (encoding.Name stop) = Clear stop
class_of_data (encoding.NameAfterComma stop) = Clear stop
class_of_data (encoding.Padded stop) = Clear stop
class_of_data (encoding.Ids stop) = Clear stop
class_of_data (encoding.Uid stop) = Clear stop

abbrev pub class_of : Step → Class
class_of (Literal text) = Nobody
class_of (Field f) = class_of_shape f.shape
class_of (Data encoding) = class_of_data encoding
class_of (Many items) = Bytes

-- whether nothing continues a value, and whether at most digits and an `x` do
abbrev pub is_closed : Class → Bool
is_closed Nobody = true
is_closed class = false

abbrev pub is_numeric : Class → Bool
is_numeric Nobody = true
is_numeric Number = true
is_numeric class = false

-- whether a list is empty
abbrev pub is_empty : {X : Type 0} → List X → Bool
is_empty [] = true
is_empty (x ∷ xs) = false

-- whether the texts of steps, and then what is allowed to follow them, end a value before them
abbrev pub follow : (Class → Bool) → Class → List Step → Bool
follow last class [] = last class
follow last class (Literal letters ∷ steps) =
    if is_empty letters.now then follow last class steps else ends_at class letters.now
follow last class (Field f ∷ steps) = is_closed class
follow last class (Data encoding.Bytes ∷ steps) = ends_at class (codes ",") && follow last class steps
follow last class (Data (encoding.NameAfterComma stop) ∷ steps) = ends_at class (codes ",")
follow last class (Data (encoding.Ids stop) ∷ steps) = ends_at class (codes ",")
follow last class (Data (encoding.Uid stop) ∷ steps) = ends_at class (codes ",")
follow last class (Data encoding ∷ steps) = is_closed class
follow last class (Many items ∷ steps) = ends_at class (codes ",") && follow last class steps

-- whether each of these steps ends where the next begins
abbrev pub ends_all : (Class → Bool) → List Step → Bool
ends_all last [] = true
ends_all last (step ∷ steps) = follow last (class_of step) steps && ends_all last steps

-- whether a field of a width can be of this shape
abbrev pub fits_shape : Shape → ℕ → Bool
fits_shape Hexadecimal width = nat_le 1 width && nat_le width 8
fits_shape Marked width = nat_le 1 width && nat_le width 8
fits_shape Decimal width = nat_le 1 width && nat_le width 8
fits_shape OrDefault width = nat_le 1 width && nat_le width 8
fits_shape Next width = width == 1
fits_shape Forth width = nat_le 1 width
fits_shape Back width = nat_le 1 width
fits_shape BaseForth width = nat_le 1 width
fits_shape BaseBack width = nat_le 1 width
fits_shape (Apart letter) width = not (is_blank letter)
fits_shape Dashed width = true
fits_shape Guid width = width == 16
fits_shape Ipv4 width = width == 4
fits_shape Ipv6 width = width == 16
fits_shape Eisa width = width == 4
fits_shape (WordOf words) width = (nat_le 1 width && nat_le width 8)
    && are_sound_words (256 ^ width) (words_of words)

-- whether people may leave out a field
abbrev pub is_sound_spare : Shape → Option ℕ → Bool
is_sound_spare shape None = true
is_sound_spare Hexadecimal (Some spare) = nat_lt spare 256
is_sound_spare Marked (Some spare) = nat_lt spare 256
is_sound_spare Decimal (Some spare) = nat_lt spare 256
is_sound_spare shape (Some spare) = false

-- whether a step reads back what it prints
abbrev pub is_sound_step : ℕ → Step → Bool
is_sound_step size (Literal letters) = have_no_blank letters.now
is_sound_step size (Field f) = nat_le (f.place + f.width) size && (fits_shape f.shape f.width
    && is_sound_spare f.shape f.spare)
is_sound_step size step = true

-- whether steps print different parts of the data
abbrev pub is_apart : Step → Step → Bool
is_apart (Field f) (Field g) = nat_le (f.place + f.width) g.place || nat_le (g.place + g.width) f.place
is_apart (Field f) other = true
is_apart (Literal letters) other = true
is_apart one (Field g) = true
is_apart one (Literal letters) = true
is_apart one other = false

abbrev pub are_apart : List Step → Bool
are_apart [] = true
are_apart (step ∷ steps) = list_all (is_apart step) steps && are_apart steps

-- whether data is read back from its text
abbrev pub is_sound : Laid → Bool
is_sound laid = list_all (is_sound_step laid.size) laid.steps && (are_apart laid.steps
    && (length (blank laid).0 == laid.size))

-- a value of a shape
abbrev pub FitsShape : Shape → ℕ → List ℕ → Type 0
FitsShape Eisa width bytes = IsBytes width bytes × IsId (little_endian bytes)
FitsShape (WordOf words) width bytes = IsBytes width bytes
    × IsNumber (256 ^ width) (words_of words) (little_endian bytes)
FitsShape shape width bytes = IsBytes width bytes

-- letters up to `stop`
abbrev pub IsClear : ℕ → List ℕ → Type 0
IsClear stop letters = list_all (is_clear stop) letters ≡ true

-- data that is a text and its NUL; a text with zeros after it, in 32 bytes; and a text in UTF-16
abbrev pub IsName : ℕ → List ℕ → Type 0
IsName stop bytes = IsClear stop (until_nul bytes) × (until_nul bytes ++ 0 ∷ [] ≡ bytes)

abbrev pub IsPadded : ℕ → List ℕ → Type 0
IsPadded stop bytes = IsClear stop (until_nul (take 32 bytes))
    × (nat_le (length (until_nul (take 32 bytes))) 32 ≡ true)
    × (padded (until_nul (take 32 bytes)) ≡ bytes)

abbrev pub AreUnits : ℕ → List ℕ → Type 0
AreUnits stop bytes = IsClear stop (units_of_bytes bytes) × (unit_bytes (units_of_bytes bytes) ≡ bytes)

-- data that is the strings of an ACPI device
abbrev pub FitStrings : ℕ → List (List ℕ) → Type 0
FitStrings stop = FitBoth (IsClear 44) (FitBoth (IsClear 44) (FitBoth (IsClear stop) (λ vs. vs ≡ [])))

abbrev pub AreIds : ℕ → List ℕ → Type 0
AreIds stop bytes = FitStrings stop (id_strings bytes) × (stored_strings (id_strings bytes) ≡ bytes)

-- data of a device without other strings than that of _UID
abbrev pub IsUid : ℕ → List ℕ → Type 0
IsUid stop bytes = IsClear stop (uid_string bytes)
    × (stored_strings ([] ∷ [] ∷ uid_string bytes ∷ []) ≡ bytes)

-- data that its encoding describes completely
abbrev pub FitsData : Encoding → List ℕ → Type 0
FitsData encoding.Bytes bytes = Each (λ b. b < 256) bytes
FitsData (encoding.Text stop) bytes = IsClear stop bytes
FitsData (encoding.Utf16 stop) bytes = AreUnits stop bytes
FitsData (encoding.Name stop) bytes = IsName stop bytes
FitsData (encoding.NameAfterComma stop) bytes = IsName stop bytes
FitsData (encoding.Padded stop) bytes = IsPadded stop bytes
FitsData (encoding.Ids stop) bytes = AreIds stop bytes
FitsData (encoding.Uid stop) bytes = IsUid stop bytes

-- a value of a step, given those of the lists
abbrev pub FitsStep : (Items → List ℕ → Type 0) → Step → List ℕ → Type 0
FitsStep lists (Literal letters) bytes = bytes ≡ []
FitsStep lists (Field f) bytes = FitsShape f.shape f.width bytes
FitsStep lists (Data encoding) bytes = FitsData encoding bytes
FitsStep lists (Many items) bytes = lists items bytes

-- the values of steps, one for each
abbrev pub FitSteps : (Step → List ℕ → Type 0) → List Step → List (List ℕ) → Type 0
FitSteps fits [] = λ vs. vs ≡ []
FitSteps fits (step ∷ steps) = FitBoth (fits step) (FitSteps fits steps)

-- data that its text describes completely
pub record IsTold (fits : Step → List ℕ → Type 0) (laid : Laid) (data_ : Parts) : Type 0 where
  pub parts : FitSteps fits laid.steps (map (part_of data_) laid.steps)
  pub whole : put_parts laid.steps (map (part_of data_) laid.steps) (blank laid) ≡ data_

-- whether a step is a literal or a field
abbrev pub is_flat : Step → Bool
is_flat (Literal letters) = true
is_flat (Field f) = true
is_flat step = false

-- whether the texts of steps begin with a comma
abbrev pub begin_with_comma : List Step → Bool
begin_with_comma [] = false
begin_with_comma (Literal letters ∷ steps) = first_of letters.now == 44
begin_with_comma (step ∷ steps) = false

-- whether the items of a list are read back from what they print
abbrev pub is_sound_item : Laid → Bool
is_sound_item item = (is_sound item && nat_lt 0 item.size)
    && (list_all is_flat item.steps && (begin_with_comma item.steps && ends_all is_numeric item.steps))

-- a list within a list is empty
abbrev pub FitsNoList : Items → List ℕ → Type 0
FitsNoList items v = v ≡ []

-- items, and lists of them, that their texts describe completely
abbrev pub FitsItem : Laid → List ℕ → Type 0
FitsItem item bytes = IsTold (FitsStep FitsNoList) item (bytes, [])

abbrev pub FitsList : Laid → List ℕ → Type 0
FitsList item bytes = Each (FitsItem item) (chunks item.size bytes)
    × (concat (chunks item.size bytes) ≡ bytes)

abbrev pub FitsLists : Items → List ℕ → Type 0
FitsLists items bytes = FitsList (item_of items) bytes
