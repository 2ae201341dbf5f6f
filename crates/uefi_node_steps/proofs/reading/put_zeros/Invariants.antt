use Rattle.std.proofs.Common.{◌≡◌, ◌++◌}
use Rattle.std.proofs.Math.ListN.{replicate}
use Rattle.uefi_node_steps.proofs.reading.put_zeros.Given as goal

abbrev pub invariant-zeros : goal.invariant-zeros
invariant-zeros g l = g.S.Sink.content l.tail ≡ g.S.Sink.content l.initial.tail ++ replicate l.counter 0
