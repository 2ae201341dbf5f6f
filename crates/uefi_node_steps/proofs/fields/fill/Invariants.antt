use Rattle.std.proofs.Common.{◌≡◌, ◌-◌, length, take}
use Rattle.uefi_node_steps.specs.Leaves.{pair, repeat_read}
use Rattle.uefi_node_steps.specs.Views.{after_these}
use Rattle.uefi_node_steps.proofs.fields.fill.Given as goal

abbrev pub invariant-loop-place : goal.invariant-loop-place
invariant-loop-place g l = after_these (take l.place l.found) (repeat_read pair (length l.initial.found - l.place) (g.T.Text.codes l.rest))
    ≡ repeat_read pair (length l.initial.found) (g.T.Text.codes l.fn.text)
