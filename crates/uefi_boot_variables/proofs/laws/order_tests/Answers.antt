use Rattle.uefi_boot_variables.proofs.OrderLists.{stands_is_contains}
use Rattle.uefi_boot_variables.proofs.laws.order_tests.Goals as goal

pub returns : goal.returns
returns c = record { stands = stands_is_contains }
