-- Numbers in the data of a node.
use Rattle.std.specs.Prelude.{◌≡◌, ℕ, ◌+◌, ◌≤◌, ◌⊎◌}

-- a number of this width stands at a place of `count` bytes of data
abbrev pub IsNumberIn : ℕ → ℕ → ℕ → Type 0
IsNumberIn count place width =
    ((width ≡ 1) ⊎ ((width ≡ 2) ⊎ ((width ≡ 4) ⊎ (width ≡ 8)))) × (place + width ≤ count)
