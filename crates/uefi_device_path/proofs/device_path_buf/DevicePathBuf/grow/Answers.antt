-- The path ends in one more node.
use Rattle.std.proofs.Common.{◌≡◌, ◌∷◌, [], ◌++◌, ◌∙◌, ap, arith}
use Rattle.std.proofs.lemmas.Grind.{common_steps}
use Rattle.uefi_device_nodes.specs.Nodes.{Node, end_entire, node_bytes}
use Rattle.uefi_device_path.specs.Paths.{without_end}
use Rattle.uefi_device_path.proofs.Building.{path_grown}
use Rattle.uefi_device_path.proofs.device_path_buf.DevicePathBuf.grow.Goals as goal

pub invariant_of-self-2 : goal.invariant_of-self-2
invariant_of-self-2 g c =
    let node : Node = g.N.BuildNode.node c.args.node.now in
    let grown : c.put_node.new.bytes.items ≡ without_end c.self.inside.bytes.items ++ (node_bytes node ++ node_bytes end_entire) = grind (arith, common_steps) in
    (path_grown c.self.inside.bytes.items c.put_node.new.bytes.items node c.self.invariant c.requires grown).0

pub returns-clause-ok : goal.returns-clause-ok
returns-clause-ok g c =
    let node : Node = g.N.BuildNode.node c.args.node.now in
    let grown : c.put_node.new.bytes.items ≡ without_end c.self.inside.bytes.items ++ (node_bytes node ++ node_bytes end_entire) = grind (arith, common_steps) in
    (path_grown c.self.inside.bytes.items c.put_node.new.bytes.items node c.self.invariant c.requires grown).1
    ∙ ap (λ ns. ns ++ node ∷ []) c.self.view_is
