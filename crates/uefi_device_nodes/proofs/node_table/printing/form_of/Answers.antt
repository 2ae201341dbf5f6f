use Rattle.std.proofs.Common.{List, arith, map, subst, sym}
use Rattle.std.specs.Prelude.{IsTrue}
use Rattle.uefi_device_nodes.specs.Rows.{Form, as_form, find_form, have_one_kind, matches}
use Rattle.uefi_device_nodes.specs.Table.{forms}
use Rattle.uefi_device_nodes.proofs.Groups.{none_step, one_kind, some_step}
use Rattle.uefi_device_nodes.proofs.node_table.printing.form_of.Goals as goal

pub returns-in-Some : goal.returns-in-Some
returns-in-Some c = let test = matches c.args.display_only c.args.kind c.args.sub_kind c.args.content.now in
    some_step test c.loop-index.index c.loop-index-test.true (map as_form c.group.result.now) c.group.ensures.forms
    (as_form c.in-Some.row.now) (find_form test forms) c.in-Some.ensures c.loop-index.invariant

pub loop-index-preserved : goal.loop-index-preserved
loop-index-preserved c = let test = matches c.args.display_only c.args.kind c.args.sub_kind c.args.content.now in
    none_step test c.loop-index.index c.loop-index-test.true (map as_form c.group.result.now) c.group.ensures.forms
    (find_form test forms) (rw c.in_default.is at c.find_in_group.ensures) c.loop-index.invariant

pub find_in_group-requires : goal.find_in_group-requires
find_in_group-requires c =
    subst (λ (group : List Form). IsTrue (have_one_kind group)) (sym c.group.ensures.forms)
    (one_kind c.loop-index.index (omega (arith, c.loop-index-test.true)))
