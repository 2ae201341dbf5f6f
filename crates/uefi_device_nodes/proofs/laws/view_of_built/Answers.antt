use Rattle.std.proofs.Common.{refl, arith}
use Rattle.uefi_device_nodes.proofs.FieldsRead.{length-content, fields_of_content, tail_of_content}
use Rattle.uefi_device_nodes.proofs.laws.view_of_built.Goals as goal

pub returns-clause-of_kind : goal.returns-clause-of_kind
returns-clause-of_kind g c =
    let l = length-content _ _ (g.T.Fields.after c.args.node.now) c.tail-tail.ensures.apart c.tail-tail.ensures.fit in
    record { device_type = refl; sub_type = refl; long = omega (arith, l) }

pub returns-clause-length : goal.returns-clause-length
returns-clause-length g c = length-content _ _ (g.T.Fields.after c.args.node.now) c.tail-tail.ensures.apart c.tail-tail.ensures.fit

pub returns-clause-fields : goal.returns-clause-fields
returns-clause-fields g c = fields_of_content _ _ (g.T.Fields.after c.args.node.now) c.tail-tail.ensures.apart c.tail-tail.ensures.fit

pub returns-clause-after : goal.returns-clause-after
returns-clause-after g c = tail_of_content _ _ (g.T.Fields.after c.args.node.now) c.tail-tail.ensures.apart c.tail-tail.ensures.fit
