use Rattle.uefi_path.proofs.Validity.{first_refused, refused_first}
use Rattle.uefi_path.proofs.laws.refused_for_first.Goals as goal

pub returns : goal.returns
returns c text error = (refused_first text error, first_refused text error)
