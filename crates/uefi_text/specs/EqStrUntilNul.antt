-- When a text counts as equal to a Rust text up to its first NUL.
use Rattle.std.specs.Prelude.{◌≡◌, ℕ, ◌⊎◌, List, ◌++◌}
use Rattle.std.specs.List.{before_first}
use Rattle.uefi_text.specs.Units.{is_nul}

-- the first list is a prefix of the second
abbrev pub IsPrefix : List ℕ → List ℕ → Type 0
IsPrefix xs ys = (rest : List ℕ) × (ys ≡ xs ++ rest)

-- one of two lists is a prefix of the other
abbrev pub OneIsPrefixOfOther : List ℕ → List ℕ → Type 0
OneIsPrefixOfOther xs ys = IsPrefix xs ys ⊎ IsPrefix ys xs

-- of the text, and the other text up to its first NUL or whole if it has none, one is a prefix of
-- the other
abbrev pub IsEqualUntilNul : List ℕ → List ℕ → Type 0
IsEqualUntilNul text other = OneIsPrefixOfOther text (before_first is_nul other)
