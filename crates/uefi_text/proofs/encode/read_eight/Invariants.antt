use Rattle.std.proofs.Common.{◌≡◌, ◌++◌, All, length, take}
use Rattle.std.specs.Str.{chars, IsUtf8}
use Rattle.std.specs.Str.Iter.{chars_rest}
use Rattle.uefi_text.specs.FromStr.{IsAcceptedChar}
use Rattle.uefi_text.proofs.encode.read_eight.Given as goal

-- with the characters to come those that were read are the text's
abbrev pub invariant-loop-place : goal.invariant-loop-place
invariant-loop-place l = record {
  long : length l.eight ≡ 8;
  utf8 : IsUtf8 (chars_rest l.characters);
  to_come : take l.place l.eight ++ chars (chars_rest l.characters) ≡ chars l.text;
  accepted : All IsAcceptedChar (take l.place l.eight);
}
