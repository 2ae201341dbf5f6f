use Rattle.std.proofs.Common.{◌≡◌, ◌-◌}
use Rattle.uefi_device_nodes.specs.Rows.{find_form, matches}
use Rattle.uefi_device_nodes.specs.Table.{forms, forms_from}
use Rattle.uefi_device_nodes.proofs.node_table.printing.form_of.Given as goal

abbrev pub invariant-loop-index : goal.invariant-loop-index
invariant-loop-index l = find_form (matches l.display_only l.kind l.sub_kind l.content) (forms_from l.index (15 - l.index))
    ≡ find_form (matches l.display_only l.kind l.sub_kind l.content) forms
