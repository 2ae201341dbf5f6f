use Rattle.std.proofs.Common.{◌≡◌, drop, map}
use Rattle.uefi_device_nodes.specs.Rows.{as_form, find_form, matches}
use Rattle.uefi_device_nodes.proofs.node_table.printing.find_row.Given as goal

abbrev pub invariant-loop-row : goal.invariant-loop-row
invariant-loop-row l = find_form (matches l.display_only l.kind l.sub_kind l.content) (map as_form (drop l.row-index l.rows))
    ≡ find_form (matches l.display_only l.kind l.sub_kind l.content) (map as_form l.rows)
