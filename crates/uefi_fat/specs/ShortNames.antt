-- Short names, of 8 units and 3, and the characters that they take.
use Rattle.std.specs.Prelude.{◌≡◌, ◌<◌, ◌≤◌, ◌⊎◌, ℕ, Bool, ◌&&◌, ◌||◌, ◌==◌, not, nat_le, List, [], ◌∷◌, ◌++◌, length}
use Rattle.std.specs.List.{AllPass, list_any}
use Rattle.uefi_text.specs.Case.{lower, upper}
use Rattle.uefi_fat.specs.Trimming.{period}

-- the test for a letter that has a case: one that upper or lower case changes
abbrev pub has_case : ℕ → Bool
has_case unit = not (upper unit == unit) || not (lower unit == unit)

-- the test for a digit
abbrev pub is_digit : ℕ → Bool
is_digit unit = nat_le 48 unit && nat_le unit 57

-- the marks of short names, in the order of their numbers: ! # $ % & ' ( ) - @ ^ _ ` { } ~
abbrev pub marks : List ℕ
marks =
    33 ∷ 35 ∷ 36 ∷ 37 ∷ 38 ∷ 39 ∷ 40 ∷ 41 ∷ 45 ∷ 64 ∷ 94 ∷ 95 ∷ 96 ∷ 123 ∷ 125 ∷ 126 ∷ []

-- the test for a character that a short name takes, in upper case
abbrev pub is_fat_unit : ℕ → Bool
is_fat_unit unit = has_case unit || is_digit unit || list_any (λ other. other == unit) marks

-- the test for a character of a short name: one that it takes, and in upper case already
abbrev pub is_short_unit : ℕ → Bool
is_short_unit unit = is_fat_unit unit && upper unit == unit

-- the base or the extension of a short name: one such character or more, and at most `most`
pub record IsShortPart (most : ℕ) (part : List ℕ) : Type 0 where
  pub not_empty : 0 < length part
  pub within : length part ≤ most
  pub short_units : AllPass is_short_unit part

-- a short name: a base of at most 8 units, or such a base, a dot and an extension of at most 3
abbrev pub IsShortName : List ℕ → Type 0
IsShortName name = IsShortPart 8 name
    ⊎ ((base : List ℕ) × (extension : List ℕ) × (name ≡ base ++ period ∷ extension)
    × IsShortPart 8 base × IsShortPart 3 extension)
