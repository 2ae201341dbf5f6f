use Rattle.std.proofs.Common.{arith}
use Rattle.uefi_path.proofs.Joining.{IsPlain-with_separators}
use Rattle.uefi_path.proofs.pathbuf.PathBuf.with_room.Goals as goal

pub invariant_of-result : goal.invariant_of-result
invariant_of-result g c = grind (arith, IsPlain-with_separators)
