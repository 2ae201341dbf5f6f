-- The fields of nodes: how data is made from values, and what it contains afterwards.
use Rattle.std.specs.Prelude.{◌≡◌, ℕ, ◌<◌, ◌^◌, nat_le, Bool, ◌&&◌, List, [], ◌∷◌, ◌++◌, take, drop, length}
use Rattle.std.proofs.Math.ListN.{replicate}
use Rattle.std.specs.Int.{bytes_low_first}
use Rattle.uefi_device_nodes.specs.declared.node_table.layouts.Field.{Field}
use Rattle.uefi_device_nodes.specs.TypedNodes.{bytes_in, end_of, number_in}

-- a field, and the number or the bytes in it
pub data FieldValue : Type 0 where
  -- a number in a field
  number : Field → ℕ → FieldValue
  -- bytes in a field
  bytes : Field → List ℕ → FieldValue

-- the field of a value
abbrev pub field_of : FieldValue → Field
field_of (number field n) = field
field_of (bytes field bs) = field

-- the bytes of a value; those of a number with the low byte first
abbrev pub bytes_of_value : FieldValue → List ℕ
bytes_of_value (number field n) = bytes_low_first 0 field.width n
bytes_of_value (bytes field bs) = bs

-- a value that fits its field
abbrev pub FitsField : FieldValue → Type 0
FitsField (number field n) = n < 256 ^ field.width
FitsField (bytes field bs) = length bs ≡ field.width

-- data contains a value in the value's field
abbrev pub HasValue : List ℕ → FieldValue → Type 0
HasValue content (number field n) = number_in field content ≡ n
HasValue content (bytes field bs) = bytes_in field content ≡ bs

-- data with a value put into the value's field
unfoldable pub with_value : FieldValue → List ℕ → List ℕ
with_value value content = take (field_of value).place content
    ++ (bytes_of_value value ++ drop (field_of value).width (drop (field_of value).place content))

-- data with each value put into its field
abbrev pub with_values : List FieldValue → List ℕ → List ℕ
with_values [] content = content
with_values (value ∷ values) content = with_values values (with_value value content)

-- whether fields do not overlap: each begins at or after the end of the one before it, the first at or after
-- a place, and the last ends within a length
abbrev pub lie_apart : ℕ → List FieldValue → ℕ → Bool
lie_apart from [] len = nat_le from len
lie_apart from (value ∷ values) len =
    nat_le from (field_of value).place && lie_apart (end_of (field_of value)) values len

-- values that fit their fields
abbrev pub AllFit : List FieldValue → Type 0
AllFit [] = Unit {0}
AllFit (value ∷ values) = FitsField value × AllFit values

-- data contains each value in its field
abbrev pub HasValues : List ℕ → List FieldValue → Type 0
HasValues content [] = Unit {0}
HasValues content (value ∷ values) = HasValue content value × HasValues content values

-- the data of a node: zeros with the fields put into them, and then the bytes after the fields
abbrev pub content_of : ℕ → List FieldValue → List ℕ → List ℕ
content_of size values tail = with_values values (replicate size 0 ++ tail)
