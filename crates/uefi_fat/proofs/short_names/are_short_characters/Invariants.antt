use Rattle.std.proofs.Common.{◌≡◌}
use Rattle.std.specs.List.{list_all}
use Rattle.uefi_text.specs.Views.{units_left, units_of}
use Rattle.uefi_fat.specs.ShortNames.{is_short_unit}
use Rattle.uefi_fat.proofs.short_names.are_short_characters.Given as goal

-- all so far stand in short names, so the others decide
abbrev pub invariant-loop-character : goal.invariant-loop-character
invariant-loop-character l =
    list_all is_short_unit (units_left l.character-iterator) ≡ list_all is_short_unit (units_of l.fn.part)
