use Rattle.std.proofs.Common.{◌≡◌, ◌≤◌, ◌-◌, length, take, false}
use Rattle.std.specs.List.{list_any}
use Rattle.uefi_text.proofs.scan.clear_blocks_end.Given as goal

-- no element so far is in the class
abbrev pub invariant-loop-end : goal.invariant-loop-end
invariant-loop-end g l = record {
  within : l.end ≤ length l.elements;
  clear : list_any g.C.Class.holds (take l.end l.elements) ≡ false;
}

abbrev pub decreases-loop-end : goal.decreases-loop-end
decreases-loop-end g l = length l.elements - l.end
