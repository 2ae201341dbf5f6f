use Rattle.std.proofs.Common.{◌≡◌, false, take}
use Rattle.uefi_boot_variables.specs.Orders.{stands_in}
use Rattle.uefi_boot_variables.specs.Views.{numbers_of}
use Rattle.uefi_boot_variables.proofs.orders.LoadOrder.stands_before.Given as goal

-- none so far is the number
abbrev pub invariant-loop-before : goal.invariant-loop-before
invariant-loop-before l = stands_in l.number (take l.before (numbers_of l.self)) ≡ false
