use Rattle.std.proofs.Common.{◌≡◌, ◌++◌, map, take, drop}
use Rattle.uefi_text.specs.Case.{in_case}
use Rattle.uefi_text.proofs.case.set_case.Given as goal

-- the units so far are in the case, and the others stand unchanged
abbrev pub invariant-loop-unit : goal.invariant-loop-unit
invariant-loop-unit l = l.units ≡ map (in_case l.case) (take l.unit-index l.initial.units) ++ drop l.unit-index l.initial.units
