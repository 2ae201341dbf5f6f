-- The bytes so far, with those of the units to come, are all.
use Rattle.std.proofs.Common.{◌≡◌, ◌+◌, ◌-◌, ◌<◌, ◌≤◌, ◌^◌, length, min, drop}
use Rattle.std.specs.Char.Utf16.{utf16_lossy_chars}
use Rattle.std.specs.Str.{encode_utf8_all}
use Rattle.uefi_text.proofs.decode.lossy_len.Given as goal

abbrev pub invariant-loop-place : goal.invariant-loop-place
invariant-loop-place l = record {
  count :
      min (l.len + length (encode_utf8_all (utf16_lossy_chars (drop l.place l.units)))) (2 ^ 64 - 1)
      ≡ min (length (encode_utf8_all (utf16_lossy_chars l.units))) (2 ^ 64 - 1);
  fits : l.len < 2 ^ 64;
  within : l.place ≤ length l.units;
}

abbrev pub decreases-loop-place : goal.decreases-loop-place
decreases-loop-place l = length l.units - l.place
