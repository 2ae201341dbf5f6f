use Rattle.std.proofs.Common.{◌≡◌, ◌++◌, length, take, drop}
use Rattle.std.specs.Str.{chars}
use Rattle.uefi_text.proofs.strings.latin1.str_to_latin1.Given as goal

-- the characters so far were written, and the other bytes stand unchanged
abbrev pub invariant-loop-place : goal.invariant-loop-place
invariant-loop-place g l =
    l.bytes ≡ take (length l.yielded) (chars l.s) ++ drop (length l.yielded) l.initial.bytes
