-- What is left before the name stays, as it holds no slash.
use Rattle.std.proofs.Common.{arith}
use Rattle.uefi_path.proofs.LastPieces.{renamed}
use Rattle.uefi_path.proofs.pathbuf.PathBuf.set_file_name.Goals as goal

pub returns-clause-ok : goal.returns-clause-ok
returns-clause-ok g c = grind (arith, renamed)
