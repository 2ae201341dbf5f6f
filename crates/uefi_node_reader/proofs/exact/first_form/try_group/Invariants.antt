use Rattle.std.proofs.Common.{◌≡◌, ◌+◌, drop, map}
use Rattle.uefi_device_nodes.specs.Rows.{as_form}
use Rattle.uefi_node_reader.specs.LenientCalls.{first_tried}
use Rattle.uefi_node_reader.proofs.exact.first_form.try_group.Given as goal

abbrev pub invariant-loop-place : goal.invariant-loop-place
invariant-loop-place g l =
    first_tried (g.A.Attempt.tried l.fn.attempt) (l.fn.before + l.place) (map as_form (drop l.place l.rows)) l.so_far
    ≡ first_tried (g.A.Attempt.tried l.fn.attempt) l.fn.before (map as_form l.rows) l.fn.furthest
