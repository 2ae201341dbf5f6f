-- One byte more is put.
use Rattle.std.proofs.Common.{arith}
use Rattle.uefi_device_nodes.proofs.HexBack.{dashed_more}
use Rattle.uefi_text.proofs.Puts.{puts_two}
use Rattle.uefi_device_nodes.proofs.field_texts.hexadecimal.put_dashed_back.Goals as goal

pub loop-place-preserved : goal.loop-place-preserved
loop-place-preserved g c =
    puts_two _ _ _ _ _ _ _ c.loop-place.invariant c.put_dashed.ensures (dashed_more c.args.bytes.now c.loop-place.place (omega arith))
