-- The path ends in one more node.
use Rattle.std.proofs.Common.{◌+◌, arith}
use Rattle.std.proofs.lemmas.Grind.{common_steps}
use Rattle.uefi_device_nodes.specs.Nodes.{Node}
use Rattle.uefi_device_path.proofs.Building.{path_grown_in}
use Rattle.uefi_device_path.proofs.path_in_buf.put_at.Goals as goal

pub returns-clause-holds : goal.returns-clause-holds
returns-clause-holds g c =
    let node : Node = g.N.BuildNode.node c.args.node.now in
    path_grown_in c.args.buffer.now c.put_node.new.places node c.args.len _ (c.args.len + c.data_len.result + 4)
    c.requires.within c.requires.is_path c.requires.unrefused c.put_node.ensures (omega (arith, c.data_len.ensures)) (grind (arith, common_steps))
    (omega (arith, c.data_len.ensures))
