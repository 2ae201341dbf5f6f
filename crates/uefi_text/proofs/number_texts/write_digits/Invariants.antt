use Rattle.std.proofs.Common.{◌≡◌, suc, ◌+◌, ◌<◌, ◌^◌, ◌++◌, drop, length, nat_lt}
use Rattle.std.specs.Fmt.{digits}
use Rattle.uefi_text.proofs.number_texts.write_digits.Given as goal

-- the digits of what is left have room before those that were written, and are the others
abbrev pub invariant-loop-rest : goal.invariant-loop-rest
invariant-loop-rest l = record {
  within : l.start < 64;
  long : length l.buffer ≡ 64;
  fits : l.rest < 2 ^ suc l.start;
  so_far : digits l.base (nat_lt 10 l.base) l.rest ++ drop (l.start + 1) l.buffer ≡ digits l.base (nat_lt 10 l.base) l.n;
}

abbrev pub decreases-loop-rest : goal.decreases-loop-rest
decreases-loop-rest l = l.start
