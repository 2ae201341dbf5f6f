use Rattle.std.proofs.Common.{◌≡◌, IsTrue, take}
use Rattle.uefi_text.proofs.encode.are_these.Given as goal

-- where nothing differs so far, those so far are the same
abbrev pub invariant-loop-i : goal.invariant-loop-i
invariant-loop-i l = IsTrue l.same → take l.i l.units ≡ take l.i l.others
