use Rattle.std.proofs.Common.{◌≡◌, ◌++◌, map, take, drop}
use Rattle.uefi_text.specs.Units.{replaced}
use Rattle.uefi_text.proofs.scan.replace_units.Given as goal

-- the units so far were looked at, and the others stand unchanged
abbrev pub invariant-loop-unit : goal.invariant-loop-unit
invariant-loop-unit l =
    l.units ≡ map (replaced l.search l.replace) (take l.unit-index l.initial.units) ++ drop l.unit-index l.initial.units
