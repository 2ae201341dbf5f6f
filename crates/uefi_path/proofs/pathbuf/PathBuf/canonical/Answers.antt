use Rattle.std.proofs.Common.{arith}
use Rattle.uefi_path.proofs.Rules.{path_buffers_rules}
use Rattle.uefi_path.proofs.pathbuf.PathBuf.canonical.Goals as goal

pub placed-requires : goal.placed-requires
placed-requires g c = grind (arith, path_buffers_rules)
