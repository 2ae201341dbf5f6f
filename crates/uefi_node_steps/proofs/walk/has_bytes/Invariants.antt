use Rattle.std.proofs.Common.{◌≡◌, drop}
use Rattle.uefi_node_steps.specs.Nodes.{has_bytes}
use Rattle.uefi_node_steps.proofs.walk.has_bytes.Given as goal

abbrev pub invariant-loop-place : goal.invariant-loop-place
invariant-loop-place l = has_bytes (drop l.place-index l.bytes) l.head ≡ has_bytes l.bytes l.head
