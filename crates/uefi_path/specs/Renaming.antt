-- A path whose file name, or its extension, was replaced.
use Rattle.std.specs.Prelude.{◌≡◌, ◌⊎◌, ℕ, List, [], ◌∷◌, ◌++◌, None, Option, Some, drop, length}
use Rattle.std.specs.List.{last_or}
use Rattle.uefi_path.specs.Components.{components_of}
use Rattle.uefi_path.specs.FileNames.{IsStem, full_stop}
use Rattle.uefi_path.specs.Separators.{with_separators}

-- a text is something and then its last component
pub record EndsInName (text front name : List ℕ) : Type 0 where
  pub whole : text ≡ front ++ name
  pub last : last_or None (components_of text) ≡ Some name

-- the name replaced the last component, or follows a path without components; its slashes were
-- replaced
abbrev pub IsRenamed : List ℕ → List ℕ → List ℕ → Type 0
IsRenamed old new name =
    ((last_or None (components_of old) ≡ None) × (new ≡ old ++ with_separators name))
    ⊎ ((front : List ℕ) × (component : List ℕ)
    × EndsInName old front component × (new ≡ front ++ with_separators name))

-- from this place on a text is its last component, or nothing, where it has none
abbrev pub StartsName : List ℕ → ℕ → Option (List ℕ) → Type 0
StartsName text start None = start ≡ length text
StartsName text start (Some name) = drop start text ≡ name

-- what stands after a stem: nothing, or a dot and the extension
abbrev pub dotted : List ℕ → List ℕ
dotted [] = []
dotted (unit ∷ units) = full_stop ∷ unit ∷ units

-- the stem of the last component is followed by another extension, with its slashes replaced, or by
-- none
pub record IsExtended (old new extension : List ℕ) : Type 0 where
  pub front : List ℕ
  pub name : List ℕ
  pub stem : List ℕ
  pub ends : EndsInName old front name
  pub is_stem : IsStem (Some name) (Some stem)
  pub after : new ≡ (front ++ stem) ++ with_separators (dotted extension)
