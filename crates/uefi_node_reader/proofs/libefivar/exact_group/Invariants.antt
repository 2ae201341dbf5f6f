use Rattle.std.proofs.Common.{◌≡◌, drop, map}
use Rattle.uefi_device_nodes.specs.Rows.{as_form}
use Rattle.uefi_node_reader.specs.Libefivar.{forms_exact}
use Rattle.uefi_node_reader.proofs.libefivar.exact_group.Given as goal

abbrev pub invariant-loop-row : goal.invariant-loop-row
invariant-loop-row g l =
    forms_exact (map as_form (drop l.row-index l.rows)) (g.T.Text.bytes l.fn.text) ≡ forms_exact (map as_form l.rows) (g.T.Text.bytes l.fn.text)
