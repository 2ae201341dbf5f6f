use Rattle.std.proofs.Common.{◌≡◌, ◌+◌}
use Rattle.uefi_text.specs.PatternParts.{set_has}
use Rattle.uefi_text.specs.Views.{read_count, read_units}
use Rattle.uefi_text.proofs.SetPlaces.{goes_on, set_from, to_end}
use Rattle.uefi_text.proofs.patterns.set_takes.Given as goal

-- what is left of the set decides
abbrev pub invariant-loop-i : goal.invariant-loop-i
invariant-loop-i l = record {
  units : read_units l.pattern ≡ read_units l.fn.pattern;
  end : to_end l.start (read_units l.fn.pattern) + l.start ≡ to_end l.i (read_units l.fn.pattern) + l.i;
  decides : goes_on l.takes l.earlier l.before (set_from l.i (read_units l.fn.pattern)) l.unit
      ≡ set_has (set_from l.start (read_units l.fn.pattern)) l.unit;
  cost : read_count l.pattern + l.start ≡ read_count l.fn.pattern + l.i;
}
