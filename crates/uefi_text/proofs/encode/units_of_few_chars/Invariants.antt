use Rattle.std.proofs.Common.{◌≡◌, ◌+◌, ◌≤◌, ◌++◌, length}
use Rattle.std.specs.Str.{chars, IsUtf8}
use Rattle.std.specs.Str.Iter.{chars_rest}
use Rattle.std.specs.Vec.{vec_len, vec_capacity}
use Rattle.uefi_text.proofs.encode.units_of_few_chars.Given as goal

-- the characters so far were pushed, and with those to come they are the text's
abbrev pub invariant-loop-character : goal.invariant-loop-character
invariant-loop-character g l = record {
  pushed : l.units.items ≡ l.yielded;
  len : vec_len l.units ≡ length l.yielded;
  capacity : length l.text + 1 ≤ vec_capacity l.units;
  utf8 : IsUtf8 (chars_rest l.character-iterator);
  to_come : l.yielded ++ chars (chars_rest l.character-iterator) ≡ chars l.text;
}
