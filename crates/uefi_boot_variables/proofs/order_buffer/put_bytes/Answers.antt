use Rattle.std.proofs.Common.{arith}
use Rattle.uefi_text.proofs.UnitBytes.{split_more}
use Rattle.uefi_boot_variables.proofs.order_buffer.put_bytes.Goals as goal

pub loop-place-preserved : goal.loop-place-preserved
loop-place-preserved c =
    split_more c.args.numbers.now c.args.dest.now c.loop-place.dest c.loop-place.place (omega arith) (omega arith) c.loop-place.invariant
