use Rattle.std.proofs.Common.{◌↔◌, drop}
use Rattle.std.specs.Str.{chars, IsUtf8}
use Rattle.std.specs.Str.Iter.{chars_rest}
use Rattle.uefi_text.specs.EqStrUntilNul.{IsEqualUntilNul}
use Rattle.uefi_text.specs.Units.{without_nul}
use Rattle.uefi_text.specs.Views.{bytes_of}
use Rattle.uefi_text.proofs.strings.latin1.CStr8EqStrUntilNul.eq_str_until_nul.Given as goal

-- the bytes and characters so far are the same, so those to come decide
abbrev pub invariant-loop-byte : goal.invariant-loop-byte
invariant-loop-byte l = record {
  utf8 : IsUtf8 (chars_rest l.characters);
  same :
      IsEqualUntilNul (without_nul (bytes_of l.self)) (chars l.other)
      ↔ IsEqualUntilNul (drop l.byte-index l.byte-items) (chars (chars_rest l.characters));
}
