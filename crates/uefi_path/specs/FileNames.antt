-- The stem and the extension of a file name.
use Rattle.std.specs.Prelude.{◌≡◌, ◌≢◌, ◌<◌, ◌⊎◌, ℕ, List, [], ◌∷◌, ◌++◌, All, MatchOption, Option, Some, None, drop, length, slice_index}
use Rattle.uefi_path.specs.Components.{components_of}
use Rattle.uefi_path.specs.NormalForms.{dot_dot}

-- the code unit of `.`
abbrev pub full_stop : ℕ
full_stop = 46

-- no dot among units
abbrev pub HasNoDot : List ℕ → Type 0
HasNoDot units = All (λ unit. unit ≢ full_stop) units

-- a name without an extension: no dot in it but at its start, or `..`
abbrev pub HasNoExtension : List ℕ → Type 0
HasNoExtension name = HasNoDot (drop 1 name) ⊎ (name ≡ dot_dot)

-- the place of the last dot of a name that is not at its start
abbrev pub IsLastDot : List ℕ → Option ℕ → Type 0
IsLastDot name found = MatchOption found ((k : ℕ) → 0 < k → k < length name → slice_index name k ≢ full_stop)
    (λ dot. (0 < dot) × (dot < length name) × (slice_index name dot ≡ full_stop)
    × ((k : ℕ) → dot < k → k < length name → slice_index name k ≢ full_stop))

-- a name that is a stem, a dot and an extension: the stem is not empty, and no dot is in the extension
pub record IsNamed (name stem extension : List ℕ) : Type 0 where
  pub whole : name ≡ stem ++ full_stop ∷ extension
  pub some_stem : stem ≢ []
  pub last_dot : HasNoDot extension
  pub other : name ≢ dot_dot

-- the text after the last dot of a name that has an extension; empty if there is no name
abbrev pub IsExtension : Option (List ℕ) → Option (List ℕ) → Type 0
IsExtension None extension = extension ≡ None
IsExtension (Some name) None = HasNoExtension name
IsExtension (Some name) (Some extension) = (stem : List ℕ) × IsNamed name stem extension

-- the name before that dot, or the whole name; empty if there is no name
abbrev pub IsStem : Option (List ℕ) → Option (List ℕ) → Type 0
IsStem None stem = stem ≡ None
IsStem (Some name) None = ⊥
IsStem (Some name) (Some stem) =
    (HasNoExtension name × (stem ≡ name)) ⊎ ((extension : List ℕ) × IsNamed name stem extension)

-- a path ends with another path: its last components are those of the other
abbrev pub EndsWith : List ℕ → List ℕ → Type 0
EndsWith text child = (front : List (List ℕ)) × (components_of text ≡ front ++ components_of child)

-- a name has one stem and one extension
abbrev pub NamedOnce : Type 0
NamedOnce = (name stem extension other after : List ℕ)
    → IsNamed name stem extension → IsNamed name other after → (stem ≡ other) × (extension ≡ after)

-- or none
abbrev pub NamedOrNot : Type 0
NamedOrNot = (name stem extension : List ℕ) → IsNamed name stem extension → ¬ HasNoExtension name
