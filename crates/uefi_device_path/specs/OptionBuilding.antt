-- Which load options are not written, and what a caller's buffer holds after one was.
use Rattle.std.specs.Prelude.{ℕ, ◌==◌, nat_lt, if◌then◌else◌, List, length, Option, Some, None, position}
use Rattle.uefi_text.specs.UnalignedCStr16.{with_prefix}
use Rattle.uefi_text.specs.Units.{is_nul}
use Rattle.uefi_device_path.specs.LoadOptions.{Entry, entry_bytes}
use Rattle.uefi_device_path.specs.PathLists.{list_bytes}
use Rattle.uefi_device_path.specs.declared.errors.OptionBuildError.{OptionBuildError}
use Rattle.uefi_device_path.specs.declared.errors.OptionBuildError.TheVariants.{BufferTooSmall, EmptyList, ListTooLong, NulInDescription, TooLong}

-- the same by the place of the first NUL of the description
abbrev pub fields_fault_at : Entry → Option ℕ → Option OptionBuildError
fields_fault_at entry (Some place) = Some (NulInDescription place)
fields_fault_at entry None =
    if length entry.paths == 0 then Some EmptyList
    else if nat_lt 0xffff (length (list_bytes entry.paths)) then Some ListTooLong
    else if nat_lt 0xffffffffffffffff (length (entry_bytes entry)) then Some TooLong
    else None

-- why fields cannot be written as a load option, or none: the first fault that holds
abbrev pub fields_fault : Entry → Option OptionBuildError
fields_fault entry = fields_fault_at entry (position is_nul entry.description)

-- why these bytes are not written into this room: a fault of the fields comes first
abbrev pub room_fault : List ℕ → ℕ → Option OptionBuildError → Option OptionBuildError
room_fault bytes room (Some error) = Some error
room_fault bytes room None = if nat_lt room (length bytes) then Some (BufferTooSmall (length bytes)) else None

-- why a load option is not written to a buffer of `room` bytes, or none: a fault of its fields
-- comes first
abbrev pub write_fault : Entry → ℕ → Option OptionBuildError
write_fault entry room = room_fault (entry_bytes entry) room (fields_fault entry)

-- what a buffer holds after that, by what is wrong with the fields
abbrev pub written_where : List ℕ → List ℕ → Option OptionBuildError → List ℕ
written_where bytes buffer (Some error) = buffer
written_where bytes buffer None = with_prefix bytes buffer

-- the buffer afterwards: it begins with the load option, or is unchanged
abbrev pub option_over : Entry → List ℕ → List ℕ
option_over entry buffer = written_where (entry_bytes entry) buffer (fields_fault entry)
