use Rattle.std.proofs.Common.{◌≡◌, ◌≤◌, ◌-◌, length, take}
use Rattle.std.specs.Io.KnownBytes.{Appends}
use Rattle.upath.proofs.streams.write_output.Given as goal

-- the writer took the first `written` bytes of the output, and no call failed
abbrev pub invariant-loop-written : goal.invariant-loop-written
invariant-loop-written g l =
    (l.written ≤ length l.output)
    × Appends (g.W.Write.contents l.initial.writer.stream) (g.W.Write.contents l.writer.stream) (take l.written l.output)
    × (l.writer.failed ≡ l.initial.writer.failed)

abbrev pub decreases-loop-written : goal.decreases-loop-written
decreases-loop-written g l = length l.output - l.written
