use Rattle.std.proofs.Common.{◌≡◌, ◌≤◌, length, take}
use Rattle.uefi_boot_variables.specs.Orders.{over, without}
use Rattle.uefi_boot_variables.proofs.order_edits.remove.Given as goal

-- those of the numbers so far that stay were moved to the front
abbrev pub invariant-loop-place : goal.invariant-loop-place
invariant-loop-place l = record {
  kept : l.kept ≡ length (without l.number (take l.place l.fn.places));
  places : l.places ≡ over (without l.number (take l.place l.fn.places)) l.fn.places;
  within : l.kept ≤ l.place;
}
