use Rattle.std.proofs.Common.{List, map, arith, subst, sym}
use Rattle.std.proofs.lemmas.List.{length-map}
use Rattle.std.specs.Prelude.{IsTrue}
use Rattle.uefi_device_nodes.specs.Rows.{Form, as_form, have_one_kind}
use Rattle.uefi_device_nodes.specs.Table.{forms}
use Rattle.uefi_device_nodes.proofs.Groups.{one_kind}
use Rattle.uefi_node_reader.specs.TableReading.{form_place}
use Rattle.uefi_node_reader.proofs.Groups.{past_step, within_step}
use Rattle.uefi_node_reader.proofs.exact.form_places.form_place.Goals as goal

pub returns-then-place-rows : goal.returns-then-place-rows
returns-then-place-rows g c =
    let size = length-map c.group-rows.result.now as_form in
    let test = g.T.FormTest.test c.args.test.now in
    within_step c.loop-index.index c.loop-index-test.true (map as_form c.group-rows.result.now) c.group-rows.ensures.forms test
    c.loop-index.before c.place_in-place.result (form_place test forms) c.place_in-place.ensures (omega (arith, size)) c.loop-index.invariant.0

pub loop-index-preserved : goal.loop-index-preserved
loop-index-preserved g c =
    let size = length-map c.group-rows.result.now as_form in
    let test = g.T.FormTest.test c.args.test.now in
    let past = past_step c.loop-index.index c.loop-index-test.true (map as_form c.group-rows.result.now) c.group-rows.ensures.forms test
    c.loop-index.before c.place_in-place.result (form_place test forms) c.place_in-place.ensures (omega (arith, size)) c.loop-index.invariant.0 in
    (omega (arith, size, past), omega (arith, c.group-rows.ensures.few))

pub place_in-place-requires : goal.place_in-place-requires
place_in-place-requires g c =
    subst (λ (group : List Form). IsTrue (have_one_kind group)) (sym c.group-rows.ensures.forms)
    (one_kind c.loop-index.index (omega (arith, c.loop-index-test.true)))
