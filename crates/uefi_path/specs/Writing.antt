-- What a call returns that writes a path with a NUL into a caller's buffer, if there is such a path, and what
-- the buffer becomes.
use Rattle.std.specs.Prelude.{◌≡◌, ◌+◌, ◌<◌, ◌^◌, ℕ, nat_lt, if◌then◌else◌, List, length, Option, Some, None, Result, Ok, Err}
use Rattle.uefi_text.specs.UnalignedCStr16.{with_prefix}
use Rattle.uefi_text.specs.Units.{IsText, nul_terminated}
use Rattle.uefi_text.specs.UnitTexts.{AreSunk, places_needed}
use Rattle.uefi_text.specs.declared.unit_sink.BufferTooSmall as unit_sink
use Rattle.uefi_path.specs.Components.{components_of}
use Rattle.uefi_path.specs.NormalForms.{normal_of, normal_text}
use Rattle.uefi_path.specs.Parents.{parent_of_components}
use Rattle.uefi_path.specs.Separators.{with_separators}
use Rattle.uefi_path.specs.Verdicts.{verdict}
use Rattle.uefi_path.specs.declared.path_in_buf.NormalWriteError.{NormalWriteError}
use Rattle.uefi_path.specs.declared.path_in_buf.NormalWriteError.TheVariants.{BufferTooSmall, Invalid}
use Rattle.uefi_path.specs.declared.validation.PathError.{PathError}

-- the normal path of a text, by the verdict on it: a text that is refused has none
abbrev pub normal_where : Option PathError → List (List ℕ) → Option (List ℕ)
normal_where None normal = Some (normal_text normal)
normal_where (Some error) normal = None

-- the normal path of a text that is not refused
abbrev pub normal_path : List ℕ → Option (List ℕ)
normal_path text = normal_where (verdict text) (normal_of (components_of text))

-- the result of writing a normal path, by the verdict on its text
abbrev pub normal_written : Option PathError → List ℕ → List ℕ → Result ℕ NormalWriteError
normal_written (Some error) normal buffer = Err (Invalid error)
normal_written None normal buffer = if nat_lt (length normal) (length buffer)
    then Ok (length normal) else Err (BufferTooSmall (places_needed normal))

-- the result of writing a path, if there is one
abbrev pub path_written : Option (List ℕ) → List ℕ → Result (Option ℕ) unit_sink.BufferTooSmall
path_written None buffer = Ok None
path_written (Some path) buffer = if nat_lt (length path) (length buffer)
    then Ok (Some (length path)) else Err (record { 0 = places_needed path })

-- the buffer afterwards
abbrev pub written_over : Option (List ℕ) → List ℕ → List ℕ
written_over None buffer = buffer
written_over (Some path) buffer = with_prefix (nul_terminated path) buffer

-- a path was added to what a buffer was given, which was nothing yet, if there is such a path
abbrev pub IsSunk : Option (List ℕ) → Option ℕ → List ℕ → List ℕ → Type 0
IsSunk None told old buffer = told ≡ None
IsSunk (Some path) None old buffer = ⊥
IsSunk (Some path) (Some len) old buffer = AreSunk path old buffer len

-- the parent of pieces, by the number of its units, which a `usize` counts with a NUL: a text without slashes
pub record HasParent (pieces : List (List ℕ)) (len : ℕ) : Type 0 where
  pub parent : List ℕ
  pub is : parent_of_components pieces ≡ Some parent
  pub long : len ≡ length parent
  pub fits : len + 1 < 2 ^ 64
  pub is_text : IsText parent
  pub plain : with_separators parent ≡ parent

-- how many units the parent of pieces has, if they have one
abbrev pub IsParentLen : List (List ℕ) → Option ℕ → Type 0
IsParentLen pieces None = parent_of_components pieces ≡ None
IsParentLen pieces (Some len) = HasParent pieces len
