use Rattle.std.proofs.Common.{◌↔◌, drop}
use Rattle.std.specs.Str.{chars, IsUtf8}
use Rattle.std.specs.Str.Iter.{chars_rest}
use Rattle.uefi_text.specs.EqStrUntilNul.{IsEqualUntilNul}
use Rattle.uefi_text.proofs.strings.eq_str_until_nul.are_equal_by_unit.Given as goal

-- the units and characters so far are the same, so those to come decide
abbrev pub invariant-loop-unit : goal.invariant-loop-unit
invariant-loop-unit l = record {
  utf8 : IsUtf8 (chars_rest l.characters);
  same : IsEqualUntilNul l.units (chars l.other) ↔ IsEqualUntilNul (drop l.unit-index l.units) (chars (chars_rest l.characters));
}
