use Rattle.std.proofs.Common.{◌≡◌, ◌+◌, drop, map}
use Rattle.uefi_device_nodes.specs.Rows.{as_form}
use Rattle.uefi_node_reader.specs.TableReading.{form_place}
use Rattle.uefi_node_reader.proofs.exact.form_places.place_in.Given as goal

abbrev pub invariant-loop-place : goal.invariant-loop-place
invariant-loop-place g l = form_place (g.T.FormTest.test l.test) (map as_form (drop l.place l.rows)) + l.place
    ≡ form_place (g.T.FormTest.test l.test) (map as_form l.rows)
