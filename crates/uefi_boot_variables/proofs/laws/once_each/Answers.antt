use Rattle.uefi_boot_variables.proofs.OrderLists.{stands-once_each, once_each_once, once_each-same}
use Rattle.uefi_boot_variables.proofs.laws.once_each.Goals as goal

pub returns : goal.returns
returns c = record { stands = stands-once_each; once = once_each_once; same = once_each-same }
