use Rattle.std.proofs.Common.{refl}
use Rattle.uefi_path.specs.Views.{path_text}
use Rattle.uefi_path.proofs.Validity.{valid_unrefused}
use Rattle.uefi_path.proofs.splitting.fault_places.validate_path_at.Goals as goal

pub returns-in-None-clause-valid : goal.returns-in-None-clause-valid
returns-in-None-clause-valid c = (λ _. (valid_unrefused (path_text c.args.path)).1 c.in-None.ensures, λ _. refl)
