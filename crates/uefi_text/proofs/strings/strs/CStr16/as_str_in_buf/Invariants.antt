use Rattle.std.proofs.Common.{◌≡◌, ◌≤◌, ◌-◌, ◌++◌, length, take}
use Rattle.std.specs.Str.{encode_utf8_all}
use Rattle.uefi_text.specs.Views.{text_of}
use Rattle.uefi_text.proofs.strings.strs.CStr16.as_str_in_buf.Given as goal

abbrev pub decreases-loop-start : goal.decreases-loop-start
decreases-loop-start g l = length (text_of l.self) - l.start

-- the sink has taken the characters of the blocks so far
abbrev pub invariant-loop-start : goal.invariant-loop-start
invariant-loop-start g l = record {
  within : l.start ≤ length (text_of l.self);
  taken : g.W.CharSink.text l.buf ≡ g.W.CharSink.text l.initial.buf ++ encode_utf8_all (take l.start (text_of l.self));
}
