use Rattle.std.proofs.Common.{arith}
use Rattle.uefi_device_nodes.proofs.FieldsRead.{length-content}
use Rattle.uefi_device_nodes.proofs.fields.AnyBuildNode.write_data.Goals as goal

pub split_at_mut-fixed-requires : goal.split_at_mut-fixed-requires
split_at_mut-fixed-requires g c =
    let l = length-content _ (g.T.Fields.fields c.args.self.now) (g.T.Fields.after c.args.self.now) c.tail-tail.ensures.apart c.tail-tail.ensures.fit in grind (arith, l, c.requires)

pub write_tail-requires : goal.write_tail-requires
write_tail-requires g c =
    let l = length-content _ (g.T.Fields.fields c.args.self.now) (g.T.Fields.after c.args.self.now) c.tail-tail.ensures.apart c.tail-tail.ensures.fit in grind (arith, l, c.requires)
