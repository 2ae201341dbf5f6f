-- What begins at the place is what is left from it on.
use Rattle.std.proofs.Common.{subst}
use Rattle.uefi_device_path.specs.Extents.{BeginNoPath}
use Rattle.nardcorbel.proofs.NodeOffsets.{left_from}
use Rattle.nardcorbel.proofs.device_paths.reading.nard_device_path_needs.Goals as goal

pub returns-in-Err-clause-never : goal.returns-in-Err-clause-never
returns-in-Err-clause-never c = λ within other.
    subst BeginNoPath (left_from c.args.bytes.now c.in-Some.rest.now c.args.place.now c.in-Some.ensures.lookup.0.2) c.in-Err.ensures.never
