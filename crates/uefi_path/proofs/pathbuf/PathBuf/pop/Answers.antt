-- What is left is the text before the last separator, and the places before its.
use Rattle.std.proofs.Common.{arith}
use Rattle.uefi_path.proofs.SeparatorPlaces.{count-popped, popped}
use Rattle.uefi_path.proofs.pathbuf.PathBuf.pop.Goals as goal

pub cut_back-requires : goal.cut_back-requires
cut_back-requires g c = grind (arith, count-popped)

pub returns-clause-removed : goal.returns-clause-removed
returns-clause-removed g c = grind (arith, popped)
