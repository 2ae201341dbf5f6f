-- Lists of the numbers of load options, and what edits make of them.
use Rattle.std.specs.Prelude.{◌≢◌, ℕ, Bool, ◌==◌, not, if◌then◌else◌, List, [], ◌∷◌, ◌++◌, AllPairs, drop, filter, insert, length}
use Rattle.std.specs.List.{list_any}

-- the test whether a list contains a number
abbrev pub stands_in : ℕ → List ℕ → Bool
stands_in number numbers = list_any (λ other. other == number) numbers

-- a list without any occurrence of a number; the others keep their order
abbrev pub without : ℕ → List ℕ → List ℕ
without number numbers = filter (λ other. not (other == number)) numbers

-- a list that keeps only the first occurrence of each number
abbrev pub once_each : List ℕ → List ℕ
once_each [] = []
once_each (number ∷ numbers) = number ∷ without number (once_each numbers)

-- no number occurs twice: those at two indices differ
abbrev pub NoTwice : List ℕ → Type 0
NoTwice numbers = AllPairs (λ a b. a ≢ b) numbers

-- a list with a number inserted at an index among the others, which keep their order; an index
-- beyond the end is the end
abbrev pub with_at : ℕ → ℕ → List ℕ → List ℕ
with_at place number numbers = insert (without number numbers) place number

-- a list with a number moved to the front, or unchanged if it does not contain the number
abbrev pub with_front : ℕ → List ℕ → List ℕ
with_front number numbers = if stands_in number numbers then number ∷ without number numbers else numbers

-- places that begin with these numbers, and keep their content after them
abbrev pub over : List ℕ → List ℕ → List ℕ
over numbers places = numbers ++ drop (length numbers) places
