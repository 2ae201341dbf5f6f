use Rattle.std.proofs.Common.{◌≡◌, ◌≤◌, length, take}
use Rattle.uefi_boot_variables.specs.Orders.{once_each}
use Rattle.uefi_boot_variables.specs.Views.{numbers_of}
use Rattle.uefi_boot_variables.proofs.orders.LoadOrder.different_len.Given as goal

-- how many different numbers there are so far
abbrev pub invariant-loop-place : goal.invariant-loop-place
invariant-loop-place l = record {
  counted : l.count ≡ length (once_each (take l.place (numbers_of l.self)));
  within : l.count ≤ l.place;
}
