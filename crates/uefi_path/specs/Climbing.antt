-- Which pieces climb above where a path starts: a `..` for which no name before it is left.
use Rattle.std.specs.Prelude.{◌≡◌, ℕ, zero, suc, ◌+◌, ◌≤◌, List, [], ◌∷◌, Option, None, Some, take}
use Rattle.std.specs.List.{slice_get}
use Rattle.uefi_path.specs.NormalForms.{dot_dot, kind}
use Rattle.uefi_path.specs.declared.splitting.component_kinds.Kind.{Kind}
use Rattle.uefi_path.specs.declared.splitting.component_kinds.Kind.TheVariants.{Dot, DotDot, Name}

-- how many names are among pieces
abbrev pub counted_name : Kind → ℕ
counted_name Dot = 0
counted_name DotDot = 0
counted_name Name = 1

abbrev pub names : List (List ℕ) → ℕ
names [] = 0
names (piece ∷ pieces) = counted_name (kind piece) + names pieces

-- and how many `..`
abbrev pub counted_dot_dot : Kind → ℕ
counted_dot_dot Dot = 0
counted_dot_dot DotDot = 1
counted_dot_dot Name = 0

abbrev pub dot_dots : List (List ℕ) → ℕ
dot_dots [] = 0
dot_dots (piece ∷ pieces) = counted_dot_dot (kind piece) + dot_dots pieces

-- the piece at a place climbs: it is `..`, and those before it hold at least as many `..` as names
abbrev pub Climbs : List (List ℕ) → ℕ → Type 0
Climbs pieces place =
    (slice_get pieces place ≡ Some dot_dot) × (names (take place pieces) ≤ dot_dots (take place pieces))

-- no piece climbs
abbrev pub NoneClimbs : List (List ℕ) → Type 0
NoneClimbs pieces = (place : ℕ) → ¬ Climbs pieces place

-- how many names are left after a piece of this kind, unless it climbs
abbrev pub depth_after : Kind → ℕ → Option ℕ
depth_after Dot depth = Some depth
depth_after DotDot zero = None
depth_after DotDot (suc depth) = Some depth
depth_after Name depth = Some (depth + 1)
