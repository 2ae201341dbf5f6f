use Rattle.std.proofs.Common.{◌≡◌, ◌+◌, ◌<◌, ◌^◌, length}
use Rattle.uefi_path.specs.CutPieces.{slashed_left}
use Rattle.uefi_path.specs.Separators.{with_separators}
use Rattle.uefi_path.specs.Views.{path_text}
use Rattle.uefi_path.specs.Verdicts.{first_fault, verdict}
use Rattle.uefi_path.proofs.splitting.slashed.find_fault_slashed.Given as goal

-- the components so far have no fault, so the verdict is that of the others
abbrev pub invariant-loop-rest : goal.invariant-loop-rest
invariant-loop-rest l = record {
  fault : first_fault (slashed_left l.rest) l.depth ≡ verdict (with_separators (path_text l.fn.path));
  bound : l.depth + length (slashed_left l.rest) < 2 ^ 64;
}

abbrev pub decreases-loop-rest : goal.decreases-loop-rest
decreases-loop-rest l = length (slashed_left l.rest)
