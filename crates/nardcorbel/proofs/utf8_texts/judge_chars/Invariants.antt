-- No character so far is refused, and what is found among those to come is found in the text.
use Rattle.std.proofs.Common.{◌≡◌, ◌+◌, length}
use Rattle.std.specs.List.{find, position_or_len}
use Rattle.std.specs.Str.{chars, IsUtf8}
use Rattle.std.specs.Str.Iter.{chars_rest}
use Rattle.uefi_text.specs.FromStr.{is_deciding_char}
use Rattle.nardcorbel.proofs.utf8_texts.judge_chars.Given as goal

abbrev pub invariant-loop-character : goal.invariant-loop-character
invariant-loop-character l = record {
  found : find is_deciding_char (chars (chars_rest l.character-iterator)) ≡ find is_deciding_char (chars l.text);
  place :
      l.len + position_or_len is_deciding_char (chars (chars_rest l.character-iterator))
      ≡ position_or_len is_deciding_char (chars l.text);
  count : l.len + length (chars (chars_rest l.character-iterator)) ≡ length (chars l.text);
  utf8 : IsUtf8 (chars_rest l.character-iterator);
}
