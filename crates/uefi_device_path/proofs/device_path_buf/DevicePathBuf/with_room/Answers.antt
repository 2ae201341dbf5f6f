use Rattle.std.proofs.Common.{◌≡◌, arith}
use Rattle.std.proofs.lemmas.Grind.{common_steps}
use Rattle.uefi_device_nodes.specs.Nodes.{end_entire, node_bytes}
use Rattle.uefi_device_path.proofs.Building.{path_empty}
use Rattle.uefi_device_path.proofs.device_path_buf.DevicePathBuf.with_room.Goals as goal

pub invariant_of-result : goal.invariant_of-result
invariant_of-result g c =
    let all : c.extend_from_slice.new.self.items ≡ node_bytes end_entire = grind (arith, common_steps) in
    (path_empty c.extend_from_slice.new.self.items all).0

pub returns : goal.returns
returns g c =
    let all : c.extend_from_slice.new.self.items ≡ node_bytes end_entire = grind (arith, common_steps) in
    (path_empty c.extend_from_slice.new.self.items all).1
