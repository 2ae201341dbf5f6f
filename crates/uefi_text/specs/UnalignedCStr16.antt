-- Which packed code units are refused as a string in a buffer, why, and what the buffer then holds.
use Rattle.std.specs.Prelude.{ℕ, nat_lt, if◌then◌else◌, List, ◌++◌, length, drop, Option, Some, option_map}
use Rattle.uefi_text.specs.FromSliceWithNul.{with_nul_refusal}
use Rattle.uefi_text.specs.declared.errors.FromSliceWithNulError.{FromSliceWithNulError}
use Rattle.uefi_text.specs.declared.errors.FromSliceWithNulError.TheVariants as with_nul
use Rattle.uefi_text.specs.declared.errors.UnalignedCStr16Error.{UnalignedCStr16Error}
use Rattle.uefi_text.specs.declared.errors.UnalignedCStr16Error.TheVariants as unaligned

-- the refusal at a buffer that has room, by that of the units; units are never refused for their
-- place in memory, nor for memory
abbrev pub refusal_in_buffer : FromSliceWithNulError → UnalignedCStr16Error
refusal_in_buffer (with_nul.InvalidChar place) = unaligned.InvalidChar place
refusal_in_buffer (with_nul.InteriorNul place) = unaligned.InteriorNul place
refusal_in_buffer with_nul.NotNulTerminated = unaligned.NotNulTerminated
refusal_in_buffer with_nul.NotAligned = unaligned.NotNulTerminated
refusal_in_buffer with_nul.OutOfMemory = unaligned.BufferTooSmall

-- the refusal of units at a buffer of `room` places
abbrev pub unaligned_refusal : List ℕ → ℕ → Option UnalignedCStr16Error
unaligned_refusal units room =
    if nat_lt room (length units)
    then Some unaligned.BufferTooSmall
    else option_map refusal_in_buffer (with_nul_refusal units)

-- a buffer with units written to its start, or unchanged if they do not fit
abbrev pub with_prefix : List ℕ → List ℕ → List ℕ
with_prefix units buffer =
    if nat_lt (length buffer) (length units) then buffer else units ++ drop (length units) buffer
