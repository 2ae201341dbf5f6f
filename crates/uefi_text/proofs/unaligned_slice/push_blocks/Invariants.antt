use Rattle.std.proofs.Common.{◌≡◌, ◌+◌, ◌-◌, ◌<◌, ◌≤◌, ◌++◌, length, map, take}
use Rattle.std.specs.Vec.{vec_len, vec_capacity}
use Rattle.uefi_text.specs.Packed.{packed_items}
use Rattle.uefi_text.proofs.unaligned_slice.push_blocks.Given as goal

-- the items so far stand after those that the vector had, in the room that it had
abbrev pub invariant-loop-start : goal.invariant-loop-start
invariant-loop-start g l = record {
  within : l.start ≤ l.len;
  block : 0 < length l.block;
  items : map g.T.Packed.number l.items.items
      ≡ map g.T.Packed.number l.initial.items.items ++ take l.start (packed_items g.T.Packed.SIZE l.len l.bytes);
  len : vec_len l.items ≡ vec_len l.initial.items + l.start;
  capacity : vec_capacity l.items ≡ vec_capacity l.initial.items;
}

abbrev pub decreases-loop-start : goal.decreases-loop-start
decreases-loop-start g l = l.len - l.start
