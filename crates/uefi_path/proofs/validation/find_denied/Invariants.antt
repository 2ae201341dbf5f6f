use Rattle.std.proofs.Common.{◌≡◌}
use Rattle.std.specs.List.{find}
use Rattle.uefi_text.specs.Views.{units_left, units_of}
use Rattle.uefi_path.specs.Verdicts.{is_denied}
use Rattle.uefi_path.proofs.validation.find_denied.Given as goal

-- none so far is denied, so the first is that of the others
abbrev pub invariant-loop-character : goal.invariant-loop-character
invariant-loop-character l = find is_denied (units_left l.character-iterator) ≡ find is_denied (units_of l.fn.component)
