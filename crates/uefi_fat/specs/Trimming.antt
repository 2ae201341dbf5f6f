-- The part of a name that a FAT volume keeps.
use Rattle.std.specs.Prelude.{ℕ, ◌-◌, Bool, ◌||◌, ◌==◌, List, length, take, drop}
use Rattle.std.specs.List.{prefix_len, suffix_len}

-- the test for a space
abbrev pub is_space : ℕ → Bool
is_space unit = unit == 0x20

-- the code unit of `.`
abbrev pub period : ℕ
period = 0x2e

-- the test for a dot
abbrev pub is_dot : ℕ → Bool
is_dot unit = unit == period

-- the test for a space or a dot
abbrev pub is_space_or_dot : ℕ → Bool
is_space_or_dot unit = (unit == 0x20) || (unit == period)

-- units after those at the start that pass a test
abbrev pub without_leading : (ℕ → Bool) → List ℕ → List ℕ
without_leading test units = drop (prefix_len test units) units

-- units before those at the end that pass a test
abbrev pub without_trailing : (ℕ → Bool) → List ℕ → List ℕ
without_trailing test units = take (length units - suffix_len test units) units

-- a name without the spaces at its start, and without the spaces and dots at its end
abbrev pub trimmed : List ℕ → List ℕ
trimmed name = without_trailing is_space_or_dot (without_leading is_space name)
