-- Separators in a text: the one that is ignored at its start, the slashes that path buffers replace,
-- and their places.
use Rattle.std.specs.Prelude.{◌≢◌, ℕ, ◌+◌, Bool, ◌==◌, if◌then◌else◌, List, [], ◌∷◌, map, All}
use Rattle.uefi_text.specs.Units.{replaced}

-- the code unit of `\`
abbrev pub separator : ℕ
separator = 92

-- the code unit of `/`
abbrev pub slash : ℕ
slash = 47

-- the test for a slash
abbrev pub is_slash : ℕ → Bool
is_slash unit = unit == slash

abbrev pub is_separator : ℕ → Bool
is_separator unit = unit == separator

-- the canonical text of a path: its text without one leading separator
abbrev pub canonical : List ℕ → List ℕ
canonical [] = []
canonical (unit ∷ units) = if is_separator unit then units else unit ∷ units

-- a text with each slash replaced by a separator
abbrev pub with_separators : List ℕ → List ℕ
with_separators text = map (replaced slash separator) text

-- the test for a unit that is a separator then
abbrev pub becomes_separator : ℕ → Bool
becomes_separator unit = is_separator (replaced slash separator unit)

-- a plain text: it contains no slash
abbrev pub IsPlain : List ℕ → Type 0
IsPlain text = All (λ unit. unit ≢ slash) text

-- the places of the separators among units, in ascending order, where the first unit has the place `start`
abbrev pub places_from : ℕ → List ℕ → List ℕ
places_from start [] = []
places_from start (unit ∷ units) =
    if is_separator unit then start ∷ places_from (start + 1) units else places_from (start + 1) units

-- the places of all separators of a text, in ascending order
abbrev pub places_of : List ℕ → List ℕ
places_of text = places_from 0 text
