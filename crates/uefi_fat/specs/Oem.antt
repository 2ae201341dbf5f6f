-- Names in the 8-bit characters of short names, which are those of Latin-1.
use Rattle.std.specs.Prelude.{ℕ, Bool, not, if◌then◌else◌, List, filter, map}
use Rattle.std.specs.List.{before_first}
use Rattle.uefi_text.specs.Case.{upper}
use Rattle.uefi_text.specs.Units.{is_nul}
use Rattle.uefi_fat.specs.ShortNames.{is_fat_unit}
use Rattle.uefi_fat.specs.Trimming.{is_space_or_dot}

-- the units of a name that a short name keeps: all except spaces and dots
abbrev pub kept_units : List ℕ → List ℕ
kept_units name = filter (λ unit. not (is_space_or_dot unit)) name

-- the test for a unit that no short name allows
abbrev pub is_unfit : ℕ → Bool
is_unfit unit = not (is_fat_unit unit)

-- the byte of a unit: it in upper case, or `_` where no short name takes it
abbrev pub fat_byte : ℕ → ℕ
fat_byte unit = if is_fat_unit unit then upper unit else 0x5f

-- the bytes of a name
abbrev pub fat_bytes : List ℕ → List ℕ
fat_bytes name = map fat_byte (kept_units name)

-- the text of bytes: a unit for each byte before the first NUL, or for each byte if there is no NUL
abbrev pub fat_text : List ℕ → List ℕ
fat_text bytes = before_first is_nul bytes
