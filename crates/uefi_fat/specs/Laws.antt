-- The laws of names on FAT volumes, over the definitions that contracts of working calls cite.
use Rattle.std.specs.Prelude.{◌≡◌, ◌↔◌, ℕ, Bool, false, IsTrue, List, [], ◌∷◌, ◌++◌, nat_eq}
use Rattle.std.specs.List.{AllPass}
use Rattle.std.specs.Cmp.{IsEquivalence}
use Rattle.std.specs.Cmp.Lexicographic.{pointwise}
use Rattle.uefi_text.specs.Case.{uppers}
use Rattle.uefi_fat.specs.LongNames.{IsFatName}
use Rattle.uefi_fat.specs.ShortNames.{IsShortName}
use Rattle.uefi_fat.specs.Trimming.{is_space, is_space_or_dot, trimmed}

-- whether names are of one file
abbrev pub is_same_file : List ℕ → List ℕ → Bool
is_same_file name other = pointwise nat_eq (uppers (trimmed name)) (uppers (trimmed other))

-- being of one file is an equivalence
abbrev pub SameFileIsEquivalence : Type 0
SameFileIsEquivalence = IsEquivalence is_same_file

-- it is sameness of the trimmed parts without case
abbrev pub SameFileWhereTrimmedSame : Type 0
SameFileWhereTrimmedSame = (name other : List ℕ)
    → IsTrue (is_same_file name other) ↔ (uppers (trimmed name) ≡ uppers (trimmed other))

-- a trimmed name begins with no space, and ends in neither a space nor a dot
abbrev pub NeitherEndIsTrimmed : Type 0
NeitherEndIsTrimmed = (name : List ℕ)
    → ((first : ℕ) (rest : List ℕ) → trimmed name ≡ first ∷ rest → is_space first ≡ false)
    × ((front : List ℕ) (last : ℕ) → trimmed name ≡ front ++ last ∷ [] → is_space_or_dot last ≡ false)

-- trimming once is enough
abbrev pub TrimmedOnce : Type 0
TrimmedOnce = (name : List ℕ) → trimmed (trimmed name) ≡ trimmed name

-- a name is of the same file as its trimmed part
abbrev pub SameFileAsTrimmed : Type 0
SameFileAsTrimmed = (name : List ℕ) → uppers (trimmed (trimmed name)) ≡ uppers (trimmed name)

-- names that are the same without case are of one file
abbrev pub SameFileWithoutCase : Type 0
SameFileWithoutCase = (name other : List ℕ) → uppers name ≡ uppers other
    → uppers (trimmed name) ≡ uppers (trimmed other)

-- a name is its trimmed part, between spaces, and spaces and dots
abbrev pub IsBetweenTrimmed : Type 0
IsBetweenTrimmed = (name : List ℕ) → (front : List ℕ) × (back : List ℕ)
    × AllPass is_space front × AllPass is_space_or_dot back × (name ≡ front ++ trimmed name ++ back)

-- an 8.3 name is a name of a file
abbrev pub ShortNamesAreFatNames : Type 0
ShortNamesAreFatNames = (name : List ℕ) → IsShortName name → IsFatName name

-- of names of one file either both are names of files, or neither is
abbrev pub FatNamesOfOneFile : Type 0
FatNamesOfOneFile = (name other : List ℕ) → uppers (trimmed name) ≡ uppers (trimmed other)
    → IsFatName name → IsFatName other
