-- The normal form is the one that steps lead to.
use Rattle.uefi_path.proofs.Rewriting.{NormalForm-normal_of}
use Rattle.uefi_path.proofs.path.Path.normalize.Goals as goal

pub returns-in-Ok-make_normal-clause-form : goal.returns-in-Ok-make_normal-clause-form
returns-in-Ok-make_normal-clause-form g c = NormalForm-normal_of _
