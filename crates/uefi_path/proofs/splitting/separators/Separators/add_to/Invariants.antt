use Rattle.std.proofs.Common.{◌≡◌, ◌+◌, ◌≤◌, ◌++◌, [], length}
use Rattle.std.specs.Vec.{vec_capacity, vec_len}
use Rattle.uefi_path.specs.SeparatorsLeft.{places_left}
use Rattle.uefi_path.proofs.splitting.separators.Separators.add_to.Given as goal

-- the places so far, and those to come, whose units were all looked at
abbrev pub invariant-loop-left : goal.invariant-loop-left
invariant-loop-left g l = record {
  places : l.places.items ++ places_left l.left ≡ l.fn.places.items ++ places_left l.fn.self;
  room : vec_len l.places + length (places_left l.left) ≤ vec_capacity l.places;
  all : l.left.end ≡ length l.left.units.now;
  none_known : l.left.known.now ≡ [];
}

abbrev pub decreases-loop-left : goal.decreases-loop-left
decreases-loop-left g l = length (places_left l.left)
