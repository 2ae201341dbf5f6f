use Rattle.std.proofs.Common.{◌≡◌, length, take}
use Rattle.std.specs.Str.{encode_utf8_all}
use Rattle.uefi_text.proofs.decode.write_units.Given as goal

-- the units so far are written
abbrev pub invariant-loop-unit : goal.invariant-loop-unit
invariant-loop-unit l = record {
  counted : l.end ≡ length (encode_utf8_all (take l.unit-index l.units));
  written : take l.end l.bytes ≡ encode_utf8_all (take l.unit-index l.units);
}
