-- Which code units have no prefix that is a NUL-terminated string, and why.
use Rattle.std.specs.Prelude.{ℕ, ◌==◌, if◌then◌else◌, List, slice_index, Option, Some, None, position}
use Rattle.uefi_text.specs.Units.{deciding_place, is_nul}
use Rattle.uefi_text.specs.declared.errors.FromSliceUntilNulError.{FromSliceUntilNulError}
use Rattle.uefi_text.specs.declared.errors.FromSliceUntilNulError.TheVariants.{InvalidChar, NoNul}

-- the refusal by the deciding place: a NUL there is right, whatever follows it, a surrogate never is
abbrev pub until_nul_refusal_at : List ℕ → Option ℕ → Option FromSliceUntilNulError
until_nul_refusal_at units None = Some NoNul
until_nul_refusal_at units (Some i) = if slice_index units i == 0 then None else Some (InvalidChar i)

-- the refusal of units, or none if the units before their first NUL are a text
abbrev pub until_nul_refusal : List ℕ → Option FromSliceUntilNulError
until_nul_refusal units = until_nul_refusal_at units (deciding_place units)

-- the refusal by the place of the first NUL: any is right
abbrev pub missing_nul_refusal_at : Option ℕ → Option FromSliceUntilNulError
missing_nul_refusal_at None = Some NoNul
missing_nul_refusal_at (Some i) = None

-- the refusal of characters, which are never surrogates, or none if one of them is a NUL
abbrev pub missing_nul_refusal : List ℕ → Option FromSliceUntilNulError
missing_nul_refusal characters = missing_nul_refusal_at (position is_nul characters)
