use Rattle.std.proofs.Common.{◌≡◌, [], drop, map}
use Rattle.uefi_node_steps.specs.Steps.{no_list}
use Rattle.uefi_node_steps.specs.Views.{steps_in}
use Rattle.uefi_node_steps.specs.Printing.{step_by}
use Rattle.uefi_node_steps.proofs.reading.read_item.Given as goal

abbrev pub invariant-loop-step : goal.invariant-loop-step
invariant-loop-step g l = steps_in no_list (map (step_by (λ t. t.now)) (drop l.step-index l.steps)) (l.fixed, []) (g.T.Text.codes l.rest)
    ≡ steps_in no_list (map (step_by (λ t. t.now)) l.steps) (l.initial.fixed, []) (g.T.Text.codes l.fn.text)
