-- The path that the buffer begins with is the one that grows.
use Rattle.std.proofs.Common.{◌++◌, ◌∷◌, [], refl, Ok, Err}
use Rattle.uefi_device_path.specs.NodeSinks.{nodes_up_to}
use Rattle.uefi_device_path.specs.declared.errors.GrowError.TheVariants.{Build}
use Rattle.uefi_device_path.proofs.Building.{held_leaves}
use Rattle.uefi_device_path.proofs.path_in_buf.push_in_buf.Goals as goal

pub returns-in-Err : goal.returns-in-Err
returns-in-Err g c = rw c.in-Err.ensures.read (refl, refl)

pub returns-in-Ok-push_at : goal.returns-in-Ok-push_at
returns-in-Ok-push_at g c =
    let said = c.in-Ok-push_at.ensures in
    let grown = nodes_up_to c.in-Ok.len c.args.buffer.now ++ g.N.BuildNode.node c.args.node.now ∷ [] in
    rw c.in-Ok.ensures.read (held_leaves Build _ c.args.buffer.now _ grown (Ok c.in-Ok-push_at.len) said.refusal said.holds said.err)

pub returns-in-Err-push_at : goal.returns-in-Err-push_at
returns-in-Err-push_at g c =
    let said = c.in-Err-push_at.ensures in
    let grown = nodes_up_to c.in-Ok.len c.args.buffer.now ++ g.N.BuildNode.node c.args.node.now ∷ [] in
    rw c.in-Ok.ensures.read (held_leaves Build _ c.args.buffer.now _ grown (Err c.in-Err-push_at.error) said.refusal said.holds said.err)
