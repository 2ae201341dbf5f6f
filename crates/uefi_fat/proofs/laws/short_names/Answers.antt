use Rattle.uefi_fat.proofs.ShortAreFat.{short_are_fat}
use Rattle.uefi_fat.proofs.laws.short_names.Goals as goal

pub returns : goal.returns
returns c name = short_are_fat name
