use Rattle.std.proofs.Common.{◌≡◌, ◌*◌, take}
use Rattle.std.specs.Int.{to_le_bytes, w32}
use Rattle.std.specs.List.{flat_map}
use Rattle.uefi_device_nodes.proofs.tails.put_words.Given as goal

-- the numbers so far are written
abbrev pub invariant-loop-i : goal.invariant-loop-i
invariant-loop-i l = take (4 * l.i) l.bytes ≡ flat_map (to_le_bytes w32) (take l.i l.words)
