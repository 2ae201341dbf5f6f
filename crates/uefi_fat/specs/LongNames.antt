-- Which names files on FAT volumes have, and why the others are none.
use Rattle.std.specs.Prelude.{◌≡◌, ◌≢◌, ◌≤◌, ℕ, Bool, false, ◌||◌, ◌==◌, nat_lt, if◌then◌else◌, All, List, [], ◌∷◌, Option, Some, find, length, option_map}
use Rattle.std.specs.List.{list_any}
use Rattle.uefi_text.specs.Units.{denied_characters}
use Rattle.uefi_fat.specs.Trimming.{trimmed}
use Rattle.uefi_fat.specs.declared.long_names.FatNameError.{FatNameError}
use Rattle.uefi_fat.specs.declared.long_names.FatNameError.TheVariants.{Empty, IllegalChar, TooLong}

-- the test for a character that no name on a FAT volume holds: one below U+0020, or one that no
-- file's name holds
abbrev pub is_illegal : ℕ → Bool
is_illegal unit = nat_lt unit 0x20 || list_any (λ other. other == unit) denied_characters

-- a name of a file on a FAT volume: the trimmed name is not empty, has at most 255 units, and
-- contains no illegal unit
pub record IsFatName (name : List ℕ) : Type 0 where
  pub not_empty : trimmed name ≢ []
  pub within : length (trimmed name) ≤ 255
  pub none_illegal : All (λ unit. is_illegal unit ≡ false) (trimmed name)

-- why a trimmed name is refused: it is empty, or too long, or holds an illegal unit, of which the
-- first is reported
abbrev pub trimmed_refusal : List ℕ → Option FatNameError
trimmed_refusal [] = Some Empty
trimmed_refusal (unit ∷ units) =
    if nat_lt 255 (length (unit ∷ units))
    then Some TooLong
    else option_map IllegalChar (find is_illegal (unit ∷ units))

-- why a name is refused, or none
abbrev pub name_refusal : List ℕ → Option FatNameError
name_refusal name = trimmed_refusal (trimmed name)
