use Rattle.std.proofs.Common.{refl, []}
use Rattle.uefi_device_path.specs.Paths.{path_bytes}
use Rattle.uefi_device_path.proofs.Splits.{path_once}
use Rattle.uefi_device_path.proofs.laws.paths_once.Goals as goal

pub returns-clause-read : goal.returns-clause-read
returns-clause-read c bytes nodes others one other = path_once bytes nodes others one other

pub returns-clause-built : goal.returns-clause-built
returns-clause-built c nodes inner = ([], record { inner = inner; join = refl })

pub returns-clause-bytes : goal.returns-clause-bytes
returns-clause-bytes c nodes others inner others_inner same =
    path_once (path_bytes nodes) nodes others ([], record { inner = inner; join = refl }) ([], record { inner = others_inner; join = same })
