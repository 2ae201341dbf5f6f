-- Which paths name files, and why the others do not.
use Rattle.std.specs.Prelude.{◌≡◌, ◌≢◌, ℕ, Bool, ◌==◌, All, Contains, List, [], ◌∷◌, Option, Some, None, find, option_map}
use Rattle.std.specs.List.{list_any}
use Rattle.std.specs.Option.{option_or}
use Rattle.uefi_text.specs.Units.{denied_characters}
use Rattle.uefi_path.specs.Climbing.{NoneClimbs, depth_after}
use Rattle.uefi_path.specs.Components.{components_of}
use Rattle.uefi_path.specs.NormalForms.{kind}
use Rattle.uefi_path.specs.declared.normal.NormalizeError.{NormalizeError}
use Rattle.uefi_path.specs.declared.normal.NormalizeError.TheVariants.{Invalid, OutOfMemory}
use Rattle.uefi_path.specs.declared.validation.PathError.{PathError}
use Rattle.uefi_path.specs.declared.validation.PathError.TheVariants.{ClimbsAboveRoot, Empty, EmptyComponent, IllegalChar}

-- the code units that no file's name holds
abbrev pub denied : List ℕ
denied = denied_characters

-- a name that a file may have: it is not empty, and holds no denied unit
pub record IsFileName (component : List ℕ) : Type 0 where
  pub not_empty : component ≢ []
  pub none_denied : All (λ unit. ¬ Contains denied unit) component

-- a valid path: its text is not empty, each of its components is a name that a file may have, and
-- none climbs above the start of the path
pub record IsValid (text : List ℕ) : Type 0 where
  pub not_empty : text ≢ []
  pub file_names : All IsFileName (components_of text)
  pub none_climbs : NoneClimbs (components_of text)

-- the test for a denied unit
abbrev pub is_denied : ℕ → Bool
is_denied unit = list_any (λ other. other == unit) denied

-- why a component names no file: it is empty, or holds a denied unit, of which the first is reported
abbrev pub fault : List ℕ → Option PathError
fault [] = Some EmptyComponent
fault (unit ∷ units) = option_map IllegalChar (find is_denied (unit ∷ units))

-- a good component: no fault in it, so that it is not empty and holds no denied unit
abbrev pub IsGood : List ℕ → Type 0
IsGood component = fault component ≡ None

-- the fault of the first component that has one, where this many names are left before all of them: it names
-- no file, or climbs
abbrev pub fault_at : Option ℕ → (ℕ → Option PathError) → Option PathError
fault_at None others = Some ClimbsAboveRoot
fault_at (Some left) others = others left

abbrev pub first_fault : List (List ℕ) → ℕ → Option PathError
first_fault [] left = None
first_fault (component ∷ components) left =
    option_or (fault component) (fault_at (depth_after (kind component) left) (first_fault components))

-- why a path is refused, or none
abbrev pub verdict : List ℕ → Option PathError
verdict [] = Some Empty
verdict (unit ∷ units) = first_fault (components_of (unit ∷ units)) 0

-- why a path has no normal path, by the verdict on it
abbrev pub normal_refusal : Option PathError → NormalizeError
normal_refusal None = OutOfMemory
normal_refusal (Some error) = Invalid error
