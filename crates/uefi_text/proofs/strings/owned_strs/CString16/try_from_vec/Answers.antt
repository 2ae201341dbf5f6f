use Rattle.std.proofs.Common.{◌∙◌, ap, refl}
use Rattle.uefi_text.specs.Units.{without_nul}
use Rattle.uefi_text.proofs.Texts.{without_nul-nul_terminated}
use Rattle.uefi_text.proofs.strings.owned_strs.CString16.try_from_vec.Goals as goal

pub returns-clause-made : goal.returns-clause-made
returns-clause-made g c text is_text made = (refl, ap without_nul made ∙ without_nul-nul_terminated text)
