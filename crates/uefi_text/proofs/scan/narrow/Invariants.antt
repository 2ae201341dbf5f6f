use Rattle.std.proofs.Common.{◌≡◌, take}
use Rattle.uefi_text.proofs.scan.narrow.Given as goal

-- the bytes so far are units
abbrev pub invariant-loop-i : goal.invariant-loop-i
invariant-loop-i l = take l.i l.bytes ≡ take l.i l.units
