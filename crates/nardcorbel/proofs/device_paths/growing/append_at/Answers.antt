-- The end node alone is the path to which the nodes are added.
use Rattle.std.proofs.Common.{◌∙◌, ap, arith, length, sym, Ok, Err}
use Rattle.std.proofs.lemmas.Grind.{common_steps}
use Rattle.uefi_device_path.specs.Views.{nodes_of}
use Rattle.nardcorbel.proofs.GrownPaths.{appended_at}
use Rattle.nardcorbel.proofs.device_paths.growing.append_at.Goals as goal

pub returns-in-Ok : goal.returns-in-Ok
returns-in-Ok c =
    appended_at c.args.buffer.now c.args.path_len (nodes_of c.args.path) (Ok c.in-Ok.len) _ (grind (arith, common_steps))
    (omega (arith, ap length c.as_bytes-bytes.ensures.bytes, c.as_bytes-bytes.type_inv)) (sym c.ends_at.ensures.value ∙ c.if-not-ends_at.false) c.in-Ok.ensures

pub returns-in-Err : goal.returns-in-Err
returns-in-Err c =
    rw c.moved_error.ensures
    (appended_at c.args.buffer.now c.args.path_len (nodes_of c.args.path) (Err c.in-Err.error) _ (grind (arith, common_steps))
    (omega (arith, ap length c.as_bytes-bytes.ensures.bytes, c.as_bytes-bytes.type_inv)) (sym c.ends_at.ensures.value ∙ c.if-not-ends_at.false) c.in-Err.ensures)
