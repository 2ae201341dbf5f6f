-- Nodes whose data has fields at fixed offsets.
use Rattle.std.specs.Prelude.{◌≡◌, ℕ, ◌+◌, ◌≤◌, ◌==◌, ◌&&◌, nat_le, nat_lt, Bool, if◌then◌else◌, List, drop, length, slice_range, Option, Some, None}
use Rattle.uefi_text.specs.Packed.{little_endian}
use Rattle.uefi_device_nodes.specs.declared.node_table.layouts.Field.{Field}
use Rattle.uefi_device_nodes.specs.Nodes.{Node}
use Rattle.uefi_device_nodes.specs.declared.errors.NodeConversionError.{NodeConversionError}
use Rattle.uefi_device_nodes.specs.declared.errors.NodeConversionError.TheVariants.{DifferentType, InvalidLength}

-- a node of a kind: of its type, its sub-type, and at least `least` bytes of data
pub record IsOfKind (kind sub_kind least : ℕ) (node : Node) : Type 0 where
  pub device_type : node.device_type ≡ kind
  pub sub_type : node.sub_type ≡ sub_kind
  pub long : least ≤ length node.content

-- whether a node is of a kind
abbrev pub is_kind : ℕ → ℕ → ℕ → Node → Bool
is_kind kind sub_kind least node =
    (node.device_type == kind) && ((node.sub_type == sub_kind) && nat_le least (length node.content))

-- why a node is not of a kind, or none
abbrev pub kind_refusal : ℕ → ℕ → ℕ → Node → Option NodeConversionError
kind_refusal kind sub_kind least node =
    if (node.device_type == kind) && (node.sub_type == sub_kind)
    then (if nat_lt (length node.content) least then Some InvalidLength else None)
    else Some DifferentType

-- the number that `size` bytes of data from a place on encode, the low byte first
abbrev pub number_at : ℕ → ℕ → List ℕ → ℕ
number_at place size content = little_endian (slice_range content place (place + size))

-- where a field ends
abbrev pub end_of : Field → ℕ
end_of field = field.place + field.width

-- the number in a field of data
abbrev pub number_in : Field → List ℕ → ℕ
number_in field content = number_at field.place field.width content

-- the bytes of a field of data
abbrev pub bytes_in : Field → List ℕ → List ℕ
bytes_in field content = slice_range content field.place (end_of field)

-- the bytes of data from the start of a field
abbrev pub bytes_from : Field → List ℕ → List ℕ
bytes_from field content = drop field.place content
