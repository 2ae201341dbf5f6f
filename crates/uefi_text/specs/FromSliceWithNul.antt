-- Which code units, and which bytes of Latin-1, are refused as a NUL-terminated string, and why.
use Rattle.std.specs.Prelude.{ℕ, ◌+◌, ◌==◌, if◌then◌else◌, List, length, slice_index, Option, Some, None, position}
use Rattle.uefi_text.specs.Units.{deciding_place, is_nul}
use Rattle.uefi_text.specs.declared.errors.FromSliceWithNulError.{FromSliceWithNulError}
use Rattle.uefi_text.specs.declared.errors.FromSliceWithNulError.TheVariants.{InvalidChar, InteriorNul, NotNulTerminated}

-- the refusal by the deciding unit, its place and the number of units: a NUL is right where it is the
-- last unit, a surrogate never is
abbrev pub deciding_refusal : ℕ → ℕ → ℕ → Option FromSliceWithNulError
deciding_refusal unit i count =
    if unit == 0
    then (if i + 1 == count then None else Some (InteriorNul i))
    else Some (InvalidChar i)

-- the refusal by the deciding place
abbrev pub with_nul_refusal_at : List ℕ → Option ℕ → Option FromSliceWithNulError
with_nul_refusal_at units None = Some NotNulTerminated
with_nul_refusal_at units (Some i) = deciding_refusal (slice_index units i) i (length units)

-- the refusal of units, or none if they are a NUL-terminated string
abbrev pub with_nul_refusal : List ℕ → Option FromSliceWithNulError
with_nul_refusal units = with_nul_refusal_at units (deciding_place units)

-- the refusal by the first NUL: it is right where it is the last element
abbrev pub first_nul_refusal_at : List ℕ → Option ℕ → Option FromSliceWithNulError
first_nul_refusal_at elements None = Some NotNulTerminated
first_nul_refusal_at elements (Some i) = if i + 1 == length elements then None else Some (InteriorNul i)

-- the refusal of Latin-1 bytes, or of characters, which are never surrogates; or none if they are a
-- NUL-terminated string
abbrev pub first_nul_refusal : List ℕ → Option FromSliceWithNulError
first_nul_refusal elements = first_nul_refusal_at elements (position is_nul elements)
