-- The options of an order whose variables are there.
use Rattle.std.specs.Prelude.{ℕ, ◌==◌, if◌then◌else◌, List, [], ◌∷◌, Option, Some, None}
use Rattle.std.specs.Borrow.{Bor}
use Rattle.std.specs.List.{filter_map}
use Rattle.std.specs.Option.{option_map}

-- the bytes of the first variable that has a number
abbrev pub bytes_for : ℕ → List (ℕ × Bor (List ℕ)) → Option (List ℕ)
bytes_for number [] = None
bytes_for number (variable ∷ variables) =
    if variable.0 == number then Some variable.1.now else bytes_for number variables

-- a number with the bytes of its variable, if there is one
abbrev pub option_of : List (ℕ × Bor (List ℕ)) → ℕ → Option (ℕ × List ℕ)
option_of variables number = option_map (λ bytes. (number, bytes)) (bytes_for number variables)

-- the numbers whose variables exist, with their bytes, in order
abbrev pub present_options : List (ℕ × Bor (List ℕ)) → List ℕ → List (ℕ × List ℕ)
present_options variables numbers = filter_map (option_of variables) numbers

-- a number and its bytes
abbrev pub shown : ℕ × Bor (List ℕ) → ℕ × List ℕ
shown item = (item.0, item.1.now)
