use Rattle.std.proofs.Common.{◌≡◌, ◌++◌}
use Rattle.std.specs.Fmt.{WritesInCalls}
use Rattle.std.specs.Str.{chars, encode_utf8_all, IsUtf8}
use Rattle.std.specs.Str.Iter.{chars_rest}
use Rattle.uefi_device_path.specs.LibefivarTexts.{all_lowered, commas_left}
use Rattle.uefi_device_path.proofs.text.cased_texts.CasedSink.pass_all.Given as goal

-- the characters so far were passed on, and with those to come they are the text's
abbrev pub invariant-loop-character : goal.invariant-loop-character
invariant-loop-character g l = record {
  utf8 : IsUtf8 (chars_rest l.character-iterator);
  to_come : l.yielded ++ chars (chars_rest l.character-iterator) ≡ chars l.text;
  passed : WritesInCalls g.S.TextSink.puts l.initial.self.sink.now
      (encode_utf8_all (all_lowered l.initial.self.commas l.yielded)) l.self.sink.now;
  commas : l.self.commas ≡ commas_left l.initial.self.commas l.yielded;
  lowers : l.self.lowers ≡ l.initial.self.lowers;
  same_reference : l.self.sink.ghost_name ≡ l.initial.self.sink.ghost_name;
}
