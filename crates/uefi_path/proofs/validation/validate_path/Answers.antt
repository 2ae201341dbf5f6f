-- What is accepted is valid.
use Rattle.std.proofs.Common.{Err, Ok, ap, sym, ◌∙◌}
use Rattle.std.specs.Result.{result_err}
use Rattle.uefi_path.specs.Views.{path_text}
use Rattle.uefi_path.proofs.Validity.{accepted_valid}
use Rattle.uefi_path.proofs.validation.validate_path.Goals as goal

pub returns-in-Err-clause-valid : goal.returns-in-Err-clause-valid
returns-in-Err-clause-valid c =
    accepted_valid {T = Unit {0}} (Err c.in-Err.error) (path_text c.args.path) (sym (ap result_err c.in-Err.is) ∙ c.judge.ensures.refusal)

pub returns-in-Ok-clause-valid : goal.returns-in-Ok-clause-valid
returns-in-Ok-clause-valid c =
    accepted_valid {T = Unit {0}} (Ok tt) (path_text c.args.path) (sym (ap result_err c.in-Ok.is) ∙ c.judge.ensures.refusal)
