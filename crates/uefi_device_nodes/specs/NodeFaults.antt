-- Why bytes do not begin with a node.
use Rattle.std.specs.Prelude.{ℕ, Bool, ◌==◌, ◌&&◌, ◌||◌, not, nat_lt, if◌then◌else◌, List, length, slice_index, Option, Some, None}
use Rattle.uefi_device_nodes.specs.Nodes.{stated_length}
use Rattle.uefi_device_nodes.specs.declared.errors.NodeError.{NodeError}
use Rattle.uefi_device_nodes.specs.declared.errors.NodeError.TheVariants.{Missing, TruncatedHeader, UnknownEnd, LengthBelowHeader, EndWithData, BeyondEnd}

-- whether a header states the type End, and a sub-type of an end node
abbrev pub is_type_end : List ℕ → Bool
is_type_end bytes = slice_index bytes 0 == 0x7f

abbrev pub is_sub_type_end : List ℕ → Bool
is_sub_type_end bytes = (slice_index bytes 1 == 0x01) || (slice_index bytes 1 == 0xff)

-- why no node begins at these bytes: the first reason that holds, or none
abbrev pub node_fault : List ℕ → Option NodeError
node_fault bytes =
    if length bytes == 0 then Some Missing
    else if nat_lt (length bytes) 4 then Some TruncatedHeader
    else if is_type_end bytes && not (is_sub_type_end bytes) then Some UnknownEnd
    else if nat_lt (stated_length bytes) 4 then Some LengthBelowHeader
    else if is_type_end bytes && not (stated_length bytes == 4) then Some EndWithData
    else if nat_lt (length bytes) (stated_length bytes) then Some BeyondEnd
    else None

-- where in a node the faulty bytes begin: at its start, at its sub-type or at its length
abbrev pub fault_place : NodeError → ℕ
fault_place Missing = 0
fault_place TruncatedHeader = 0
fault_place UnknownEnd = 1
fault_place LengthBelowHeader = 2
fault_place EndWithData = 2
fault_place BeyondEnd = 2
