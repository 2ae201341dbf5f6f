-- Which Rust texts are refused as a string in a buffer, why, and what the buffer then holds.
use Rattle.std.specs.Prelude.{ℕ, ◌==◌, nat_lt, if◌then◌else◌, List, ◌++◌, length, take, drop, slice_index, Option, Some, None, position}
use Rattle.std.specs.Char.Escape.{encode_utf16}
use Rattle.std.specs.List.{flat_map}
use Rattle.uefi_text.specs.FromStr.{is_deciding_char}
use Rattle.uefi_text.specs.Units.{nul_terminated}
use Rattle.uefi_text.specs.declared.errors.FromStrWithBufError.{FromStrWithBufError}
use Rattle.uefi_text.specs.declared.errors.FromStrWithBufError.TheVariants.{InvalidChar, InteriorNul, BufferTooSmall}

-- the UTF-16 of characters: the one or two units of each
abbrev pub utf16 : List ℕ → List ℕ
utf16 characters = flat_map encode_utf16 characters

-- a buffer with units written to its start, as many as fit
abbrev pub with_units : List ℕ → List ℕ → List ℕ
with_units units buffer = take (length buffer) units ++ drop (length units) buffer

-- a buffer with the UTF-16 of characters and a NUL written to its start, as many as fit
abbrev pub with_text : List ℕ → List ℕ → List ℕ
with_text characters buffer = with_units (nul_terminated (utf16 characters)) buffer

-- the refusal of a character that no UCS-2 text holds, after `i` others
abbrev pub refusal_of_char_at : ℕ → ℕ → FromStrWithBufError
refusal_of_char_at c i = if c == 0 then InteriorNul i else InvalidChar i

-- the refusal by the place of the first such character
abbrev pub from_str_with_buf_refusal_at : List ℕ → Option ℕ → Option FromStrWithBufError
from_str_with_buf_refusal_at characters None = None
from_str_with_buf_refusal_at characters (Some i) = Some (refusal_of_char_at (slice_index characters i) i)

-- the refusal of characters at a buffer of `room` places, which must be more than their units
abbrev pub from_str_with_buf_refusal : List ℕ → ℕ → Option FromStrWithBufError
from_str_with_buf_refusal characters room =
    if nat_lt (length (utf16 characters)) room
    then from_str_with_buf_refusal_at characters (position is_deciding_char characters)
    else Some BufferTooSmall
