use Rattle.std.proofs.Common.{◌+◌, ◌<◌, ◌^◌, length, map}
use Rattle.uefi_path.specs.ComponentIndices.{indices_left}
use Rattle.uefi_path.specs.Views.{path_text}
use Rattle.uefi_path.proofs.Validity.{IsWalkAt}
use Rattle.uefi_path.proofs.splitting.fault_places.find_path_fault.Given as goal

abbrev pub invariant-loop-place : goal.invariant-loop-place
invariant-loop-place l = record {
  walk : IsWalkAt (path_text l.fn.path) l.depth (indices_left l.place-iterator);
  bound : l.depth + length (map (λ item. item.1) (indices_left l.place-iterator)) < 2 ^ 64;
}
