use Rattle.std.proofs.Common.{◌≡◌, ◌+◌, ◌↔◌, [], drop}
use Rattle.uefi_text.specs.Patterns.{Matches}
use Rattle.uefi_text.specs.Views.{read_count, read_units}
use Rattle.uefi_text.proofs.patterns.matches_nothing.Given as goal

-- what is left decides
abbrev pub invariant-loop-i : goal.invariant-loop-i
invariant-loop-i l = record {
  units : read_units l.pattern ≡ read_units l.fn.pattern;
  decides : Matches (drop l.i (read_units l.fn.pattern)) [] ↔ Matches (drop l.start (read_units l.fn.pattern)) [];
  cost : read_count l.pattern + l.start ≡ read_count l.fn.pattern + l.i;
}
