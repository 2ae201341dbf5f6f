-- A walk from a path to its parent, and so on, ends: each parent is shorter.
use Rattle.std.proofs.Common.{ℕ, ◌+◌, ◌<◌, List, Option, None, Some, length, arith}
use Rattle.std.specs.Option.{IfSome}

-- how many paths may still come at most: one more than the next has units
abbrev pub most_left : Option (List ℕ) → ℕ
most_left None = 0
most_left (Some path) = length path + 1

-- fewer are left after a parent that is shorter
pub fewer_left : (next : Option (List ℕ)) (most : ℕ) → IfSome next (λ parent. length parent < most)
    → most_left next < most + 1
fewer_left None most shorter = omega arith
fewer_left (Some parent) most shorter = omega (arith, shorter)
