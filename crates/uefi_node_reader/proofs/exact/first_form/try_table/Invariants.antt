use Rattle.std.proofs.Common.{◌≡◌, ◌-◌, ◌*◌, ◌≤◌}
use Rattle.std.specs.Prelude.{None}
use Rattle.uefi_node_reader.specs.LenientCalls.{first_tried}
use Rattle.uefi_device_nodes.specs.Table.{forms, forms_from}
use Rattle.uefi_node_reader.proofs.exact.first_form.try_table.Given as goal

abbrev pub invariant-loop-index : goal.invariant-loop-index
invariant-loop-index g l =
    (first_tried (g.A.Attempt.tried l.fn.attempt) l.before (forms_from l.index (15 - l.index)) l.furthest
    ≡ first_tried (g.A.Attempt.tried l.fn.attempt) 0 forms None) × (l.before ≤ 1000 * l.index)
