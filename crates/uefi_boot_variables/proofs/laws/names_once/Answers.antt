use Rattle.uefi_boot_variables.proofs.NameTexts.{names_are_texts, names_once}
use Rattle.uefi_boot_variables.proofs.laws.names_once.Goals as goal

pub returns : goal.returns
returns c = record { once = names_once; texts = names_are_texts }
