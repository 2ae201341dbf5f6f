-- The bytes so far, with those of the units to come, are all, and have just the room.
use Rattle.std.proofs.Common.{◌≡◌, ◌+◌, ◌-◌, ◌≤◌, ◌++◌, length, take, drop}
use Rattle.std.specs.Char.Utf16.{utf16_lossy_chars}
use Rattle.std.specs.Str.{encode_utf8_all}
use Rattle.uefi_text.proofs.decode.fill_lossy.Given as goal

abbrev pub invariant-loop-place : goal.invariant-loop-place
invariant-loop-place l = record {
  bytes : take l.end l.bytes ++ encode_utf8_all (utf16_lossy_chars (drop l.place l.units)) ≡ encode_utf8_all (utf16_lossy_chars l.units);
  room : l.end + length (encode_utf8_all (utf16_lossy_chars (drop l.place l.units))) ≡ length l.bytes;
  within : l.place ≤ length l.units;
}

abbrev pub decreases-loop-place : goal.decreases-loop-place
decreases-loop-place l = length l.units - l.place
