use Rattle.std.proofs.Common.{◌≡◌, drop, map}
use Rattle.std.specs.List.{list_all}
use Rattle.uefi_node_steps.specs.Heads.{is_told_step}
use Rattle.uefi_node_steps.specs.Printing.{step_by}
use Rattle.uefi_node_steps.proofs.told.fields_are_told.Given as goal

abbrev pub invariant-loop-step : goal.invariant-loop-step
invariant-loop-step l = list_all (is_told_step l.fixed) (map (step_by (λ t. t.now)) (drop l.step-index l.steps)) ≡ list_all (is_told_step l.fixed) (map (step_by (λ t. t.now)) l.steps)
