use Rattle.std.proofs.Common.{◌≡◌, drop, map}
use Rattle.uefi_node_steps.specs.Heads.{with_fields}
use Rattle.uefi_node_steps.specs.Printing.{step_by}
use Rattle.uefi_node_steps.proofs.told.copy_fields.Given as goal

abbrev pub invariant-loop-step : goal.invariant-loop-step
invariant-loop-step l = with_fields (map (step_by (λ t. t.now)) (drop l.step-index l.steps)) l.fixed l.other ≡ with_fields (map (step_by (λ t. t.now)) l.steps) l.fixed l.initial.other
