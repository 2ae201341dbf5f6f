use Rattle.std.proofs.Common.{◌≡◌, ◌↔◌, IsTrue, take}
use Rattle.uefi_text.specs.Case.{uppers}
use Rattle.uefi_text.proofs.case.are_blocks_alike.Given as goal

-- whether the units so far are the same
abbrev pub invariant-loop-i : goal.invariant-loop-i
invariant-loop-i l = IsTrue l.alike ↔ (uppers (take l.i l.block) ≡ uppers (take l.i l.other))
