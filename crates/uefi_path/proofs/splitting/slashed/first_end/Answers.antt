use Rattle.std.proofs.Common.{arith}
use Rattle.uefi_path.proofs.Slashes.{Inside, Inside-longer}
use Rattle.uefi_path.proofs.splitting.slashed.first_end.Goals as goal

pub loop-end-preserved : goal.loop-end-preserved
loop-end-preserved c = grind (arith, Inside, Inside-longer)
