-- The names of a normal path that are still to come, where they are found from the last one on.
use Rattle.std.specs.Prelude.{ℕ, ◌+◌, ◌<◌, ◌^◌, List, ◌++◌, All, replicate}
use Rattle.uefi_path.specs.CutPieces.{are_left, slashed_left}
use Rattle.uefi_path.specs.NormalForms.{IsName, dot_dot, normal_of}
use Rattle.uefi_path.specs.declared.names.NamesFromLast.{NamesFromLast}

-- the names that stay of pieces, where `climbs` times `..` stands after them
abbrev pub names_before : List (List ℕ) → ℕ → List (List ℕ)
names_before pieces climbs = normal_of (pieces ++ replicate climbs dot_dot)

abbrev pub names_left : NamesFromLast → List (List ℕ)
names_left names = names_before (slashed_left names.rest) names.climbs

-- they are names, and the `..` can be counted
pub record IsWalk (names : NamesFromLast) : Type 0 where
  pub are_names : All IsName (names_left names)
  pub bound : names.climbs + are_left names.rest + 1 < 2 ^ 64
