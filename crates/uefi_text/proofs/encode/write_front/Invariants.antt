use Rattle.std.proofs.Common.{All, ◌≡◌, ◌≤◌, ◌<◌, ◌-◌, ◌++◌, drop, length, take}
use Rattle.std.specs.Str.{chars, IsUtf8}
use Rattle.uefi_text.specs.FromStr.{IsAcceptedChar}
use Rattle.uefi_text.proofs.encode.write_front.Given as goal

abbrev pub decreases-loop-units : goal.decreases-loop-units
decreases-loop-units l = length l.units - l.len

-- the characters so far are written, and with those to come they are the text's
abbrev pub invariant-loop-units : goal.invariant-loop-units
invariant-loop-units l = record {
  place : l.len < length l.units;
  utf8 : IsUtf8 l.rest;
  count : l.len ≤ length (chars l.text);
  to_come : take l.len (chars l.text) ++ chars l.rest ≡ chars l.text;
  accepted : All IsAcceptedChar (take l.len (chars l.text));
  written : l.units ≡ take l.len (chars l.text) ++ drop l.len l.initial.units;
}
