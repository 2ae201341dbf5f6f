use Rattle.std.proofs.Common.{◌≡◌, ◌≤◌, ◌-◌, take}
use Rattle.uefi_text.specs.Case.{uppers}
use Rattle.uefi_text.proofs.case.alike_blocks_end.Given as goal

-- the units so far are the same
abbrev pub invariant-loop-end : goal.invariant-loop-end
invariant-loop-end l = record {
  within : l.end ≤ l.len;
  alike : uppers (take l.end l.units) ≡ uppers (take l.end l.others);
}

abbrev pub decreases-loop-end : goal.decreases-loop-end
decreases-loop-end l = l.len - l.end
