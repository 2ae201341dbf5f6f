use Rattle.std.proofs.Common.{ap}
use Rattle.uefi_text.specs.Case.{uppers}
use Rattle.uefi_fat.proofs.FatNames.{fat_of_one_file}
use Rattle.uefi_fat.proofs.Trims.{same_without_case, trimmed_once}
use Rattle.uefi_fat.proofs.laws.one_file.Goals as goal

pub returns-clause-trimmed : goal.returns-clause-trimmed
returns-clause-trimmed c name = ap uppers (trimmed_once name)

pub returns-clause-without_case : goal.returns-clause-without_case
returns-clause-without_case c name other e = same_without_case name other e

pub returns-clause-names : goal.returns-clause-names
returns-clause-names c name other e fat = fat_of_one_file name other e fat
