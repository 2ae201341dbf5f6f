-- The components of a path.
use Rattle.std.specs.Prelude.{◌≡◌, ◌≢◌, ℕ, ◌+◌, List, [], ◌∷◌, ◌++◌, length, All, Option, Some}
use Rattle.std.specs.List.{join_with_byte, slice_split}
use Rattle.uefi_path.specs.Separators.{separator, is_separator, canonical}

-- pieces one after the other, with a separator between neighbours
abbrev pub joined : List (List ℕ) → List ℕ
joined pieces = join_with_byte separator pieces

-- a piece: it contains no separator
abbrev pub IsPiece : List ℕ → Type 0
IsPiece piece = All (λ unit. unit ≢ separator) piece

-- the components of a text: pieces that join to its canonical text, and never the one empty piece
pub record AreComponents (text : List ℕ) (pieces : List (List ℕ)) : Type 0 where
  pub are_pieces : All IsPiece pieces
  pub not_one_empty : pieces ≢ [] ∷ []
  pub join : joined pieces ≡ canonical text

-- what stands between the separators of a canonical text, and nothing where it is empty
abbrev pub pieces_between : List ℕ → List (List ℕ)
pieces_between [] = []
pieces_between (unit ∷ units) = slice_split is_separator (unit ∷ units)

-- the one list of components that a text has
abbrev pub components_of : List ℕ → List (List ℕ)
components_of text = pieces_between (canonical text)

-- a path starts with a base: its first components are those of the base
abbrev pub StartsWith : List ℕ → List ℕ → Type 0
StartsWith text base =
    (rest : List (List ℕ)) × (components_of text ≡ components_of base ++ rest)

-- bounds on the number of pieces that join to a number of units: at least one, unless there are no
-- pieces, and at most one more than the units
abbrev pub hint_of_pieces : List (List ℕ) → ℕ × Option ℕ
hint_of_pieces [] = (0, Some 0)
hint_of_pieces (piece ∷ pieces) = (1, Some (length (joined (piece ∷ pieces)) + 1))
