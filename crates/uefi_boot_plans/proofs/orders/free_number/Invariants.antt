use Rattle.std.proofs.Common.{ℕ, ◌<◌, Contains}
use Rattle.uefi_boot_plans.proofs.orders.free_number.Given as goal

-- each number before this one is used
abbrev pub invariant-loop-number : goal.invariant-loop-number
invariant-loop-number g l = (less : ℕ) → less < l.number-counter → Contains l.used.keys less
