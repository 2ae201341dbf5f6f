-- The path that the buffer begins with is the one that grows.
use Rattle.std.proofs.Common.{◌++◌, refl, Ok, Err}
use Rattle.uefi_device_path.specs.NodeSinks.{nodes_up_to}
use Rattle.uefi_device_path.specs.Views.{nodes_of}
use Rattle.uefi_device_path.specs.declared.errors.GrowError.TheVariants.{Build}
use Rattle.uefi_device_path.proofs.Building.{held_leaves}
use Rattle.uefi_device_path.proofs.path_in_buf.append_in_buf.Goals as goal

pub returns-in-Err : goal.returns-in-Err
returns-in-Err c = rw c.in-Err.ensures.read (refl, refl)

pub returns-in-Ok-append_at : goal.returns-in-Ok-append_at
returns-in-Ok-append_at c =
    let said = c.in-Ok-append_at.ensures in
    let grown = nodes_up_to c.in-Ok.len c.args.buffer.now ++ nodes_of c.args.path in
    rw c.in-Ok.ensures.read (held_leaves Build _ c.args.buffer.now _ grown (Ok c.in-Ok-append_at.len) said.refusal said.holds said.err)

pub returns-in-Err-append_at : goal.returns-in-Err-append_at
returns-in-Err-append_at c =
    let said = c.in-Err-append_at.ensures in
    let grown = nodes_up_to c.in-Ok.len c.args.buffer.now ++ nodes_of c.args.path in
    rw c.in-Ok.ensures.read (held_leaves Build _ c.args.buffer.now _ grown (Err c.in-Err-append_at.error) said.refusal said.holds said.err)
