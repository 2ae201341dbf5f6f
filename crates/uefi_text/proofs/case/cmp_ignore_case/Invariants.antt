use Rattle.std.proofs.Common.{◌≡◌, drop}
use Rattle.uefi_text.specs.Case.{caseless_order}
use Rattle.uefi_text.proofs.case.cmp_ignore_case.Given as goal

-- what is left decides
abbrev pub invariant-loop-i : goal.invariant-loop-i
invariant-loop-i l = caseless_order (drop l.i l.units) (drop l.i l.others) ≡ caseless_order l.units l.others
