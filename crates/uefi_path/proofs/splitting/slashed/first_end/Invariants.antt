use Rattle.std.proofs.Common.{◌-◌, ◌≤◌, length, take}
use Rattle.uefi_path.proofs.Slashes.{Inside}
use Rattle.uefi_path.proofs.splitting.slashed.first_end.Given as goal

abbrev pub invariant-loop-end : goal.invariant-loop-end
invariant-loop-end l = (l.end ≤ length l.units) × Inside (take l.end l.units)

abbrev pub decreases-loop-end : goal.decreases-loop-end
decreases-loop-end l = length l.units - l.end
