-- The numbers by which a caller in C names the kinds of load options.
use Rattle.std.specs.Prelude.{ℕ}
use Rattle.uefi_boot_variables.specs.declared.variable_names.LoadOptionKind.{LoadOptionKind}
use Rattle.uefi_boot_variables.specs.declared.variable_names.LoadOptionKind.TheVariants.{Boot, Driver, SysPrep, PlatformRecovery}

-- the number of a kind
abbrev pub kind_number : LoadOptionKind → ℕ
kind_number Boot = 0
kind_number Driver = 1
kind_number SysPrep = 2
kind_number PlatformRecovery = 3
