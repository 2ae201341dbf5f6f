use Rattle.std.proofs.Common.{◌≡◌, ◌++◌, ◌-◌, length, take}
use Rattle.uefi_node_steps.specs.Leaves.{low_bytes}
use Rattle.uefi_node_steps.proofs.fields.put_low.Given as goal

abbrev pub invariant-loop-place : goal.invariant-loop-place
invariant-loop-place l = take l.place l.found ++ low_bytes (length l.initial.found - l.place) l.rest ≡ low_bytes (length l.initial.found) l.number
