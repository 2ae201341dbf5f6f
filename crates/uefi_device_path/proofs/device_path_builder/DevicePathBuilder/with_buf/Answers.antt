-- The buffer begins with the end of a path.
use Rattle.std.proofs.Common.{ap, length, drop, length-append, arith}
use Rattle.uefi_device_path.specs.Views.{builder_nodes}
use Rattle.uefi_device_path.proofs.HeldPaths.{begins_empty}
use Rattle.uefi_device_path.proofs.device_path_builder.DevicePathBuilder.with_buf.Goals as goal

pub invariant_of-result : goal.invariant_of-result
invariant_of-result c =
    let end = c.copy_from_slice.new.self in
    let rest = drop 4 c.args.buf.now in
    record {
      within = omega (arith, ap length c.copy_from_slice.ensures.after, length-append end rest);
      is_path = (begins_empty end rest c.copy_from_slice.ensures.after).0;
    }

pub returns-clause-ok : goal.returns-clause-ok
unfolding builder_nodes
returns-clause-ok c = (begins_empty c.copy_from_slice.new.self (drop 4 c.args.buf.now) c.copy_from_slice.ensures.after).1
