-- The places so far hold the units so far.
use Rattle.std.proofs.Common.{◌≡◌, map, take}
use Rattle.uefi_text.specs.Units.{replaced}
use Rattle.uefi_text.proofs.unit_sink.copy_replaced.Given as goal

abbrev pub invariant-loop-i : goal.invariant-loop-i
invariant-loop-i l = take l.i l.places ≡ map (replaced l.search l.replace) (take l.i l.units)
