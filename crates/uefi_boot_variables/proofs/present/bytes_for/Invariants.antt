use Rattle.std.proofs.Common.{◌≡◌, drop}
use Rattle.uefi_boot_variables.specs.Present.{bytes_for}
use Rattle.uefi_boot_variables.proofs.present.bytes_for.Given as goal

-- none so far has the number
abbrev pub invariant-loop-variable : goal.invariant-loop-variable
invariant-loop-variable l = bytes_for l.number (drop l.variable-index l.variables) ≡ bytes_for l.number l.variables
