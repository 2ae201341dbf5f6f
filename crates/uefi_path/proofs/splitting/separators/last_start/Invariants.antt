-- What was passed has no separator.
use Rattle.std.proofs.Common.{◌≤◌, drop, length}
use Rattle.uefi_path.specs.Components.{IsPiece}
use Rattle.uefi_path.proofs.splitting.separators.last_start.Given as goal

abbrev pub invariant-loop-start : goal.invariant-loop-start
invariant-loop-start l = (l.start ≤ length l.units) × IsPiece (drop l.start l.units)

abbrev pub decreases-loop-start : goal.decreases-loop-start
decreases-loop-start l = l.start
