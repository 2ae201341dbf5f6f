use Rattle.std.proofs.Common.{◌≡◌, take}
use Rattle.uefi_fat.proofs.oem.widen.Given as goal

-- the places so far hold the bytes so far
abbrev pub invariant-loop-i : goal.invariant-loop-i
invariant-loop-i l = take l.i l.places ≡ take l.i l.bytes
