-- The numbers of kinds of load options.
use Rattle.std.proofs.Common.{◌≤◌, arith}
use Rattle.uefi_boot_variables.specs.declared.variable_names.LoadOptionKind.{LoadOptionKind}
use Rattle.uefi_boot_variables.specs.declared.variable_names.LoadOptionKind.TheVariants.{Boot, Driver, SysPrep, PlatformRecovery}
use Rattle.nardcorbel.specs.BootVariables.{kind_number}

pub at_most : (kind : LoadOptionKind) → kind_number kind ≤ 3
at_most Boot = omega arith
at_most Driver = omega arith
at_most SysPrep = omega arith
at_most PlatformRecovery = omega arith
