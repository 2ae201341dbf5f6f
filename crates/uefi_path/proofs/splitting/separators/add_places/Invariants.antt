use Rattle.std.proofs.Common.{◌≡◌, ◌+◌, ◌≤◌, ◌++◌, drop, length}
use Rattle.std.specs.Vec.{vec_capacity, vec_len}
use Rattle.uefi_path.specs.Separators.{places_from}
use Rattle.uefi_path.specs.SeparatorsLeft.{places_left}
use Rattle.uefi_path.proofs.splitting.separators.add_places.Given as goal

-- the places so far, and those to come
abbrev pub invariant-loop-place : goal.invariant-loop-place
invariant-loop-place g l = record {
  places : l.places.items ++ places_left l.separators ≡ l.fn.places.items ++ places_from l.start (drop l.start l.units);
  room : vec_len l.places + length (places_left l.separators) ≤ vec_capacity l.places;
}

abbrev pub decreases-loop-place : goal.decreases-loop-place
decreases-loop-place g l = length (places_left l.separators)
