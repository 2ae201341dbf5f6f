use Rattle.std.proofs.Common.{◌≡◌, ◌+◌, ◌++◌, take}
use Rattle.std.specs.Vec.{vec_len, vec_capacity}
use Rattle.uefi_text.proofs.unaligned_slice.push_all.Given as goal

-- what was added so far stands after the items that the vector had, in the room that it had
abbrev pub invariant-loop-place : goal.invariant-loop-place
invariant-loop-place g l = record {
  items : l.items.items ≡ l.initial.items.items ++ take l.place l.added;
  len : vec_len l.items ≡ vec_len l.initial.items + l.place;
  capacity : vec_capacity l.items ≡ vec_capacity l.initial.items;
}
