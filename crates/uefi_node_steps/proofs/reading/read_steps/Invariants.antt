use Rattle.std.proofs.Common.{◌≡◌, drop, map}
use Rattle.uefi_node_steps.specs.Steps.{lists}
use Rattle.uefi_node_steps.specs.Views.{steps_in}
use Rattle.uefi_node_steps.specs.Printing.{step_by}
use Rattle.uefi_node_steps.proofs.reading.read_steps.Given as goal

abbrev pub invariant-loop-step : goal.invariant-loop-step
invariant-loop-step g l = steps_in lists (map (step_by (λ t. t.now)) (drop l.step-index l.steps)) (l.fixed, g.S.Sink.content l.tail) (g.T.Text.codes l.rest)
    ≡ steps_in lists (map (step_by (λ t. t.now)) l.steps) (l.initial.fixed, g.S.Sink.content l.initial.tail) (g.T.Text.codes l.fn.text)
