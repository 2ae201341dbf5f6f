use Rattle.std.proofs.Common.{take, map, []}
use Rattle.std.specs.Fmt.{WritesInCalls}
use Rattle.uefi_node_steps.specs.Printing.{step_by, steps_text}
use Rattle.uefi_node_steps.specs.Steps.{no_list}
use Rattle.uefi_node_steps.proofs.printing.put_item.Given as goal

abbrev pub invariant-loop-step : goal.invariant-loop-step
invariant-loop-step g l = WritesInCalls g.S.TextSink.puts l.fn.sink (steps_text no_list (l.fixed, []) (map (step_by (λ t. t.now)) (take l.step-index l.steps))) l.sink
