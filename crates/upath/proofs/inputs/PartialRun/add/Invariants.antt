use Rattle.std.proofs.Common.{◌≡◌, ◌≤◌, ◌++◌, ◌+◌, ℕ, List, length}
use Rattle.upath.specs.Lines.{IsUnended}
use Rattle.upath.specs.Output.{output_with}
use Rattle.upath.proofs.inputs.PartialRun.add.Given as goal

-- what the lines so far printed, and what those to come print, is the whole; where no line was run,
-- nothing has changed
abbrev pub invariant-loop-end : goal.invariant-loop-end
invariant-loop-end g l =
    IsUnended l.self.begun.items
    × (length l.rest ≤ length l.initial.part)
    × ((more : List ℕ) →
    output_with l.self.run.output.items l.self.run.path (l.self.begun.items ++ (l.rest ++ more))
    ≡ output_with l.initial.self.run.output.items l.initial.self.run.path
    (l.initial.self.begun.items ++ (l.initial.part ++ more)))
    × (length l.initial.self.run.output.items ≤ length l.self.run.output.items)
    × (length l.self.run.output.items ≤ length l.initial.self.run.output.items
    → length l.self.begun.items + length l.rest
    ≡ length l.initial.self.begun.items + length l.initial.part)

abbrev pub decreases-loop-end : goal.decreases-loop-end
decreases-loop-end g l = length l.rest
