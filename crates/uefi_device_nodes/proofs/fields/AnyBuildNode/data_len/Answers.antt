use Rattle.std.proofs.Common.{arith}
use Rattle.uefi_device_nodes.proofs.FieldsRead.{length-content}
use Rattle.uefi_device_nodes.proofs.fields.AnyBuildNode.data_len.Goals as goal

pub returns : goal.returns
returns g c =
    let l = length-content _ (g.T.Fields.fields c.args.self.now) (g.T.Fields.after c.args.self.now) c.tail.ensures.apart c.tail.ensures.fit in grind (arith, l)
