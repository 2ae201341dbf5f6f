use Rattle.std.proofs.Common.{◌≡◌, ◌++◌, take}
use Rattle.uefi_node_steps.proofs.reading.put_all.Given as goal

abbrev pub invariant-loop-byte : goal.invariant-loop-byte
invariant-loop-byte g l = g.S.Sink.content l.tail ≡ g.S.Sink.content l.initial.tail ++ take l.byte-index l.bytes
