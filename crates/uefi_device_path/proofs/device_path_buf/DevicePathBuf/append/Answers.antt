-- The path ends in the nodes of the other one.
use Rattle.std.proofs.Common.{◌≡◌, ◌++◌, ◌∙◌, ap, arith}
use Rattle.std.proofs.lemmas.Grind.{common_steps}
use Rattle.uefi_device_path.specs.Paths.{without_end}
use Rattle.uefi_device_path.specs.Views.{nodes_of}
use Rattle.uefi_device_path.proofs.Building.{path_appended}
use Rattle.uefi_device_path.proofs.device_path_buf.DevicePathBuf.append.Goals as goal

pub invariant_of-self-2 : goal.invariant_of-self-2
invariant_of-self-2 g c =
    let grown : c.put_path.new.bytes.items ≡ without_end c.self.inside.bytes.items ++ c.as_bytes-added.result.now = grind (arith, common_steps) in
    (path_appended c.self.inside.bytes.items c.put_path.new.bytes.items c.as_bytes-added.result.now (nodes_of c.args.path) c.self.invariant
    c.as_bytes-added.ensures.inner c.as_bytes-added.ensures.bytes grown).0

pub returns-clause-ok : goal.returns-clause-ok
returns-clause-ok g c =
    let grown : c.put_path.new.bytes.items ≡ without_end c.self.inside.bytes.items ++ c.as_bytes-added.result.now = grind (arith, common_steps) in
    (path_appended c.self.inside.bytes.items c.put_path.new.bytes.items c.as_bytes-added.result.now (nodes_of c.args.path) c.self.invariant
    c.as_bytes-added.ensures.inner c.as_bytes-added.ensures.bytes grown).1
    ∙ ap (λ ns. ns ++ nodes_of c.args.path) c.self.view_is
