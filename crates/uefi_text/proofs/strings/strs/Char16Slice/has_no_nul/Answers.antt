use Rattle.uefi_text.proofs.Scanning.{finds_no_nul}
use Rattle.uefi_text.specs.Views.{units_of}
use Rattle.uefi_text.proofs.strings.strs.Char16Slice.has_no_nul.Goals as goal

pub returns : goal.returns
unfolding units_of
returns c = finds_no_nul _ _ _ c.is_none.ensures c.find_nul.ensures
