use Rattle.std.proofs.Common.{◌≡◌, ◌-◌, ◌≤◌, length, map, take}
use Rattle.uefi_text.specs.Packed.{packed_items}
use Rattle.uefi_text.proofs.unaligned_slice.read_blocks.Given as goal

-- the places so far hold the items so far
abbrev pub invariant-loop-start : goal.invariant-loop-start
invariant-loop-start g l = record {
  within : l.start ≤ l.len;
  len : length l.dest ≡ l.len;
  items : map g.T.Packed.number (take l.start l.dest) ≡ take l.start (packed_items g.T.Packed.SIZE l.len l.bytes);
}

abbrev pub decreases-loop-start : goal.decreases-loop-start
decreases-loop-start g l = l.len - l.start
