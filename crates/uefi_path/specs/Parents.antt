-- The parent of a path: its components but the last.
use Rattle.std.specs.Prelude.{ℕ, Bool, true, false, not, if◌then◌else◌, List, [], ◌∷◌, ◌++◌, Option, Some, None, filter}
use Rattle.uefi_path.specs.Components.{joined, components_of}
use Rattle.uefi_path.specs.Separators.{separator, with_separators}

-- the pieces without the last one
abbrev pub all_but_last : List (List ℕ) → List (List ℕ)
all_but_last [] = []
all_but_last (piece ∷ []) = []
all_but_last (piece ∷ next ∷ pieces) = piece ∷ all_but_last (next ∷ pieces)

-- the test for a piece that is not empty
abbrev pub is_non_empty : List ℕ → Bool
is_non_empty [] = false
is_non_empty (unit ∷ units) = true

-- the pieces that are not empty
abbrev pub non_empty : List (List ℕ) → List (List ℕ)
non_empty pieces = filter is_non_empty pieces

-- whether the last piece is empty
abbrev pub ends_empty : List (List ℕ) → Bool
ends_empty [] = false
ends_empty (piece ∷ []) = not (is_non_empty piece)
ends_empty (piece ∷ next ∷ pieces) = ends_empty (next ∷ pieces)

-- pieces with a separator between neighbours, and one after the last where that is asked for
abbrev pub joined_with_end : List (List ℕ) → Bool → List ℕ
joined_with_end [] closes = []
joined_with_end (piece ∷ pieces) closes = joined (piece ∷ pieces) ++ (if closes then separator ∷ [] else [])

-- the pieces that are not empty, joined, and a separator after them where the last of all is empty
abbrev pub rejoined : List (List ℕ) → List ℕ
rejoined pieces = joined_with_end (non_empty pieces) (ends_empty pieces)

-- what is left of components without the last, where there are two or more; slashes are replaced
abbrev pub parent_of_components : List (List ℕ) → Option (List ℕ)
parent_of_components [] = None
parent_of_components (piece ∷ []) = None
parent_of_components (piece ∷ next ∷ pieces) =
    Some (with_separators (rejoined (all_but_last (piece ∷ next ∷ pieces))))

-- the parent of a path; a path of at most one component has none
abbrev pub parent_text : List ℕ → Option (List ℕ)
parent_text text = parent_of_components (components_of text)
