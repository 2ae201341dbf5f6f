use Rattle.std.proofs.Common.{◌≡◌, length, take}
use Rattle.uefi_boot_variables.specs.Orders.{once_each, over}
use Rattle.uefi_boot_variables.specs.Views.{numbers_of}
use Rattle.uefi_boot_variables.proofs.order_edits.fill.Given as goal

-- each of the numbers so far stands once, over the places
abbrev pub invariant-loop-place : goal.invariant-loop-place
invariant-loop-place l = record {
  len : l.len ≡ length (once_each (take l.place (numbers_of l.order)));
  places : l.places ≡ over (once_each (take l.place (numbers_of l.order))) l.initial.places;
}
