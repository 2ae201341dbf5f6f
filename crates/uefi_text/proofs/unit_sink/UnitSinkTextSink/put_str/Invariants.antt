use Rattle.std.proofs.Common.{◌≡◌, ℕ, List, ◌++◌}
use Rattle.std.specs.Char.Escape.{encode_utf16}
use Rattle.std.specs.List.{flat_map}
use Rattle.std.specs.Str.{chars, IsUtf8}
use Rattle.std.specs.Str.Iter.{chars_rest}
use Rattle.uefi_text.specs.UnitTexts.{AreSunk}
use Rattle.uefi_text.proofs.unit_sink.UnitSinkTextSink.put_str.Given as goal

-- the units of the characters so far were written, and with those to come they are the text's
abbrev pub invariant-loop-character : goal.invariant-loop-character
invariant-loop-character l = record {
  utf8 : IsUtf8 (chars_rest l.character-iterator);
  to_come : l.yielded ++ chars (chars_rest l.character-iterator) ≡ chars l.text;
  sunk : (units start : List ℕ) → AreSunk units start l.initial.self.buffer.now l.initial.self.len
      → AreSunk (units ++ flat_map encode_utf16 l.yielded) start l.self.buffer.now l.self.len;
  same_reference : l.self.buffer.ghost_name ≡ l.initial.self.buffer.ghost_name;
}
