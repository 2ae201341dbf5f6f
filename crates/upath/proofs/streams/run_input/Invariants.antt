use Rattle.std.proofs.Common.{◌≡◌, ◌-◌, ◌+◌, ◌*◌, ◌^◌, ◌++◌, ℕ, List, vec_len}
use Rattle.std.specs.Io.KnownBytes.{Consumes}
use Rattle.upath.specs.Lines.{IsUnended}
use Rattle.upath.specs.Output.{output_of, output_with}
use Rattle.upath.proofs.streams.run_input.Given as goal

-- what was printed, and what the bytes to come print after what was read, is the whole; no call failed
abbrev pub invariant-chunks : goal.invariant-chunks
invariant-chunks g l =
    ((read : List ℕ)
    × Consumes (g.R.Read.remaining l.initial.reader.stream) (g.R.Read.remaining l.reader.stream) read
    × ((rest : List ℕ) →
    output_with l.run.run.output.items l.run.run.path (l.run.begun.items ++ rest) ≡ output_of (read ++ rest)))
    × IsUnended l.run.begun.items
    × (l.reader.failed ≡ l.initial.reader.failed)

-- each turn but the last prints more, or makes the line that has begun longer
abbrev pub decreases-chunks : goal.decreases-chunks
decreases-chunks g l =
    (2 ^ 63 - vec_len l.run.run.output) * 2 ^ 63 + (2 ^ 63 - vec_len l.run.begun)
