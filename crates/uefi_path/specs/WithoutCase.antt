-- Paths without case, and paths that patterns match.
use Rattle.std.specs.Prelude.{◌≡◌, ℕ, List, [], ◌∷◌, ◌++◌, map}
use Rattle.uefi_text.specs.Case.{uppers}
use Rattle.uefi_text.specs.Patterns.{Matches}
use Rattle.uefi_path.specs.Components.{components_of}

-- pieces in upper case
abbrev pub capital_pieces : List (List ℕ) → List (List ℕ)
capital_pieces pieces = map uppers pieces

-- a path starts with a base without case: its first components equal those of the base without case
abbrev pub StartsWithoutCase : List ℕ → List ℕ → Type 0
StartsWithoutCase text base =
    (rest : List (List ℕ))
    × (capital_pieces (components_of text) ≡ capital_pieces (components_of base) ++ rest)

-- each of the patterns matches the piece at its place, and there are as many of both
abbrev pub MatchEach : List (List ℕ) → List (List ℕ) → Type 0
MatchEach [] [] = Unit {0}
MatchEach [] (piece ∷ pieces) = ⊥
MatchEach (pattern ∷ patterns) [] = ⊥
MatchEach (pattern ∷ patterns) (piece ∷ pieces) = Matches pattern piece × MatchEach patterns pieces

-- a pattern matches a path, component by component
abbrev pub MatchesPath : List ℕ → List ℕ → Type 0
MatchesPath pattern text = MatchEach (components_of pattern) (components_of text)
