use Rattle.uefi_text.proofs.UnitBytes.{split_more}
use Rattle.uefi_text.proofs.scan.split.Goals as goal

pub loop-i-preserved : goal.loop-i-preserved
loop-i-preserved c = split_more c.args.units.now c.args.bytes.now c.loop-i.bytes c.loop-i.i c.loop-i-test.true c.requires c.loop-i.invariant
