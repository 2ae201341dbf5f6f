use Rattle.std.proofs.Common.{◌≡◌, ◌-◌}
use Rattle.uefi_device_nodes.specs.Table.{forms, forms_from}
use Rattle.uefi_node_reader.specs.NearNames.{start_at}
use Rattle.uefi_node_reader.proofs.exact.form_places.start_at.Given as goal

abbrev pub invariant-loop-index : goal.invariant-loop-index
invariant-loop-index l = start_at (forms_from l.index (15 - l.index)) l.left ≡ start_at forms l.place
