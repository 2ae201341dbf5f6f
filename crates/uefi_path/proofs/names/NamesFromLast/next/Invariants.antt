-- No name that stays was found yet, so those that are left are the same.
use Rattle.std.proofs.Common.{◌≡◌, length}
use Rattle.uefi_path.specs.CutPieces.{slashed_left}
use Rattle.uefi_path.specs.NamesLeft.{IsWalk, names_left}
use Rattle.uefi_path.proofs.names.NamesFromLast.next.Given as goal

abbrev pub invariant-loop-self : goal.invariant-loop-self
invariant-loop-self l = IsWalk l.self × (names_left l.self ≡ names_left l.fn.self)

abbrev pub decreases-loop-self : goal.decreases-loop-self
decreases-loop-self l = length (slashed_left l.self.rest)
