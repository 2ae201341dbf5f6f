use Rattle.uefi_path.proofs.Validity.{valid-pushed}
use Rattle.uefi_path.proofs.laws.join_valid.Goals as goal

pub returns : goal.returns
returns c text part valid valid_part relative = valid-pushed text part valid valid_part relative
