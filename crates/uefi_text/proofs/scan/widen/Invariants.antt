use Rattle.std.proofs.Common.{◌≡◌, take, drop}
use Rattle.uefi_text.proofs.scan.widen.Given as goal

-- the units so far are bytes, and the others stand unchanged
abbrev pub invariant-loop-i : goal.invariant-loop-i
invariant-loop-i l = record {
  copied : take l.i l.units ≡ take l.i l.bytes;
  others : drop l.i l.units ≡ drop l.i l.initial.units;
}
