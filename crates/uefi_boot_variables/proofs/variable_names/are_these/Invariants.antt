use Rattle.std.proofs.Common.{◌≡◌, ℕ, ◌<◌, map, get_or}
use Rattle.uefi_boot_variables.proofs.variable_names.are_these.Given as goal

-- all so far are the same
abbrev pub invariant-loop-place : goal.invariant-loop-place
invariant-loop-place g l =
    (k : ℕ) → k < l.place → get_or (map g.U.Unit.number l.units) k 0 ≡ get_or l.text k 0
