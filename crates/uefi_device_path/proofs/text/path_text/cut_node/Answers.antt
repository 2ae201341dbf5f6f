-- The nodes of bytes are the first one and the others.
use Rattle.std.proofs.Common.{ap, length, length-append, arith}
use Rattle.uefi_device_nodes.specs.NodeViews.{node_of}
use Rattle.uefi_device_path.proofs.Splits.{after_first, no_fault-AreNodes}
use Rattle.uefi_device_path.proofs.text.path_text.cut_node.Goals as goal

pub take_first-requires : goal.take_first-requires
take_first-requires c = no_fault-AreNodes c.args.bytes.now c.requires.are_nodes c.requires.some

pub returns-clause-cut : goal.returns-clause-cut
returns-clause-cut c =
    (after_first c.args.bytes.now c.take_first.result.1.now (node_of c.take_first.result.0) c.requires.are_nodes c.take_first.ensures.split).1

pub returns-clause-left : goal.returns-clause-left
returns-clause-left c =
    (after_first c.args.bytes.now c.take_first.result.1.now (node_of c.take_first.result.0) c.requires.are_nodes c.take_first.ensures.split).0

pub returns-clause-shorter : goal.returns-clause-shorter
returns-clause-shorter c =
    let cut = ap length c.take_first.ensures.split in
    omega (arith, cut, length-append (node_of c.take_first.result.0).content c.take_first.result.1.now)
