use Rattle.std.proofs.Common.{◌≡◌, drop}
use Rattle.uefi_node_steps.specs.Steps.{put_all}
use Rattle.uefi_node_steps.proofs.walk.put_fixed.Given as goal

abbrev pub invariant-loop-place : goal.invariant-loop-place
invariant-loop-place l = put_all (drop l.place-index l.bytes) l.fixed ≡ put_all l.bytes l.initial.fixed
