-- The lines of an input.
use Rattle.std.specs.Prelude.{◌≡◌, ℕ, Bool, ◌==◌, if◌then◌else◌, List, [], ◌∷◌, position, None}
use Rattle.std.specs.List.{onto_first}

-- the line feed, which ends a line
abbrev pub is_line_feed : ℕ → Bool
is_line_feed byte = byte == 10

-- an input is cut at each line feed; what follows the last one is a line if it is not empty
abbrev pub lines_of : List ℕ → List (List ℕ)
lines_of [] = []
lines_of (byte ∷ bytes) = if is_line_feed byte then [] ∷ lines_of bytes else onto_first byte (lines_of bytes)

-- bytes in which no line ends
abbrev pub IsUnended : List ℕ → Type 0
IsUnended bytes = position is_line_feed bytes ≡ None
