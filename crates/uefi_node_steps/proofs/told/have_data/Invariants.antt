use Rattle.std.proofs.Common.{◌≡◌, drop, map}
use Rattle.uefi_node_steps.specs.Heads.{have_data}
use Rattle.uefi_node_steps.specs.Printing.{step_by}
use Rattle.uefi_node_steps.proofs.told.have_data.Given as goal

abbrev pub invariant-loop-step : goal.invariant-loop-step
invariant-loop-step l = have_data (map (step_by (λ t. t.now)) (drop l.step-index l.steps)) ≡ have_data (map (step_by (λ t. t.now)) l.steps)
