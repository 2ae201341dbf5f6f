use Rattle.std.proofs.Common.{◌≡◌, ◌+◌, ◌-◌, ◌*◌, ◌≤◌}
use Rattle.uefi_device_nodes.specs.Table.{forms, forms_from}
use Rattle.uefi_node_reader.specs.TableReading.{form_place}
use Rattle.uefi_node_reader.proofs.exact.form_places.form_place.Given as goal

abbrev pub invariant-loop-index : goal.invariant-loop-index
invariant-loop-index g l = (l.before + form_place (g.T.FormTest.test l.test) (forms_from l.index (15 - l.index))
    ≡ form_place (g.T.FormTest.test l.test) forms) × (l.before ≤ 1000 * l.index)
