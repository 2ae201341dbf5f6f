-- Places in the text of a path: where its components stand.
use Rattle.std.specs.Prelude.{ℕ, zero, suc, nat_lt, if◌then◌else◌, List, [], ◌∷◌, length, drop}
use Rattle.std.specs.List.{slice_split}
use Rattle.uefi_path.specs.Components.{components_of}
use Rattle.uefi_path.specs.Separators.{is_separator}

-- the remaining components from a place on: all components at the start of the text, none after its
-- end, and otherwise those between the separators from the place on
abbrev pub components_from : List ℕ → ℕ → List (List ℕ)
components_from text zero = components_of text
components_from text (suc before) =
    if nat_lt before (length text) then slice_split is_separator (drop (suc before) text) else []

-- where the canonical text begins
abbrev pub canonical_start : List ℕ → ℕ
canonical_start [] = 0
canonical_start (unit ∷ units) = if is_separator unit then 1 else 0

-- where the next component begins, from a place on: at the place, except after a separator at the
-- start of the text
abbrev pub component_place : List ℕ → ℕ → ℕ
component_place text zero = canonical_start text
component_place text (suc before) = suc before
