-- The path ends in the nodes of the other one.
use Rattle.std.proofs.Common.{◌≡◌, ◌+◌, ◌-◌, ap, length, arith}
use Rattle.std.proofs.lemmas.Grind.{common_steps}
use Rattle.uefi_device_path.specs.Paths.{path_bytes}
use Rattle.uefi_device_path.specs.Views.{nodes_of}
use Rattle.uefi_device_path.proofs.Building.{path_appended_in}
use Rattle.uefi_device_path.proofs.path_in_buf.put_nodes_at.Goals as goal

pub returns : goal.returns
returns c =
    let added = c.copy_from_slice.new.self in
    let is : added ≡ path_bytes (nodes_of c.args.path) = grind (arith, common_steps) in
    let ends : c.args.len + (length c.as_bytes-added.result.now - 4) ≡ c.args.len + (length added - 4) = grind (arith, common_steps) in
    record {
      holds = path_appended_in c.args.buffer.now added (nodes_of c.args.path) c.args.len _
          (c.args.len + (length c.as_bytes-added.result.now - 4)) c.requires.within c.requires.is_path c.as_bytes-added.ensures.inner is ends
          (grind (arith, common_steps)) (omega (arith, c.requires.room, ap length c.as_bytes-added.ensures.bytes));
    }
