use Rattle.std.proofs.Common.{arith, rules}
use Rattle.std.proofs.lemmas.Grind.{common_steps}
use Rattle.uefi_boot_variables.proofs.NameTexts.{names_are_texts}
use Rattle.uefi_text.proofs.Texts.{IsString-made}
use Rattle.uefi_boot_variables.specs.Names.{name_text}
use Rattle.uefi_boot_variables.proofs.variable_names.LoadOptionName.to_cstr16.Goals as goal

pub from_string-requires : goal.from_string-requires
from_string-requires c =
    IsString-made _ (name_text c.args.self) (grind (arith, common_steps)) (names_are_texts c.args.self (search rules))
