use Rattle.std.proofs.Common.{◌≡◌}
use Rattle.std.specs.List.{find}
use Rattle.uefi_text.specs.Views.{units_left, units_of}
use Rattle.uefi_fat.specs.LongNames.{is_illegal}
use Rattle.uefi_fat.proofs.long_names.find_illegal.Given as goal

-- none so far is illegal, so the first is that of the others
abbrev pub invariant-loop-character : goal.invariant-loop-character
invariant-loop-character l = find is_illegal (units_left l.character-iterator) ≡ find is_illegal (units_of l.fn.name)
