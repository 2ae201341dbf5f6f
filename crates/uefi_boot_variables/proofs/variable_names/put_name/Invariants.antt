use Rattle.std.proofs.Common.{◌≡◌, take}
use Rattle.uefi_boot_variables.proofs.variable_names.put_name.Given as goal

-- the units so far are those of the word
abbrev pub invariant-loop-place : goal.invariant-loop-place
invariant-loop-place l = take l.place l.front ≡ take l.place l.word
