use Rattle.std.proofs.Common.{◌≡◌, ◌++◌}
use Rattle.std.specs.Str.{encode_utf8_all}
use Rattle.uefi_text.specs.Views.{units_of, units_left}
use Rattle.uefi_text.proofs.strings.strs.Char16Slice.write_each_to.Given as goal

-- the sink has taken the characters so far, and with those to come they are the text
abbrev pub invariant-loop-c : goal.invariant-loop-c
invariant-loop-c g l = record {
  taken : g.W.CharSink.text l.sink ≡ g.W.CharSink.text l.initial.sink ++ encode_utf8_all l.yielded;
  to_come : l.yielded ++ units_left l.c-iterator ≡ units_of l.self;
}
