-- What is refused is the bytes, then the end of the path in the buffer, and then the room.
use Rattle.std.proofs.Common.{None}
use Rattle.uefi_device_path.specs.Building.{ends_at}
use Rattle.uefi_device_path.specs.Views.{nodes_of}
use Rattle.nardcorbel.specs.PathEnds.{extended, missing_end}
use Rattle.nardcorbel.proofs.CallOutputs.{grown_at}
use Rattle.nardcorbel.proofs.device_paths.building.nard_device_path_append.Goals as goal

pub returns : goal.returns
returns c =
    let buffer = c.args.buffer.now in
    rw c.in-Ok.ensures.ok
    (grown_at (ends_at buffer c.args.path_len) (missing_end c.args.path_len) None buffer c.append_at.new.buffer
    (extended c.args.path_len buffer (nodes_of c.in-Ok.path)) c.append_at.result c.args.len.now c.args.fault.now c.report.result
    c.report.new.len c.report.new.fault c.report.ensures.fits c.append_at.ensures c.report.ensures.shows)
