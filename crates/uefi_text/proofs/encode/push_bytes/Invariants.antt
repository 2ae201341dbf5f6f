use Rattle.std.proofs.Common.{◌≡◌, ◌+◌, ◌++◌, take}
use Rattle.std.specs.Vec.{vec_len, vec_capacity}
use Rattle.uefi_text.proofs.encode.push_bytes.Given as goal

-- the bytes so far stand after what the vector had, in the room that it had
abbrev pub invariant-loop-place : goal.invariant-loop-place
invariant-loop-place g l = record {
  items : l.units.items ≡ l.initial.units.items ++ take l.place l.bytes;
  len : vec_len l.units ≡ vec_len l.initial.units + l.place;
  capacity : vec_capacity l.units ≡ vec_capacity l.initial.units;
}
