use Rattle.std.proofs.Common.{◌≡◌, drop}
use Rattle.uefi_node_reader.specs.CountedBytes.{pushed_bytes}
use Rattle.uefi_node_reader.proofs.counted_bytes.push_all.Given as goal

abbrev pub invariant-loop-byte : goal.invariant-loop-byte
invariant-loop-byte l =
    pushed_bytes (l.places, l.count) (drop l.byte-index l.bytes) ≡ pushed_bytes (l.initial.places, l.len) l.bytes
