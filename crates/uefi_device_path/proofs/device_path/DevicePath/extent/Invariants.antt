use Rattle.std.proofs.Common.{List, length, ◌≤◌}
use Rattle.uefi_device_nodes.specs.Nodes.{Node}
use Rattle.uefi_device_path.specs.Paths.{BeginWith}
use Rattle.uefi_device_path.proofs.device_path.DevicePath.extent.Given as goal

-- so far there were nodes, and none that ends a path
abbrev pub invariant-nodes : goal.invariant-nodes
invariant-nodes l = (length l.rest ≤ length l.bytes) × ((nodes : List Node) × BeginWith l.bytes nodes l.rest)

abbrev pub decreases-nodes : goal.decreases-nodes
decreases-nodes l = length l.rest
