-- The node is added at the end of the first bytes, or refused.
use Rattle.std.proofs.Common.{◌/◌, ◌%◌}
use Rattle.uefi_device_path.specs.Building.{build_refusal, ends_at, pushed_at}
use Rattle.uefi_device_path.specs.Nodes.{node_with}
use Rattle.nardcorbel.proofs.CallOutputs.{grown_at}
use Rattle.nardcorbel.proofs.device_paths.building.nard_device_path_push.Goals as goal

pub returns : goal.returns
returns c =
    let node = node_with (c.args.node_type / 256 % 256) (c.args.node_type % 256) c.args.content.now in
    let buffer = c.args.buffer.now in
    grown_at (ends_at buffer c.args.path_len) _ (build_refusal node) buffer c.push_at_in_buf.new.buffer (pushed_at buffer c.args.path_len node)
    c.push_at_in_buf.result c.args.len.now c.args.fault.now c.report.result c.report.new.len c.report.new.fault
    c.report.ensures.fits c.push_at_in_buf.ensures c.report.ensures.shows
