-- What bytes are read as is the path that they begin with, or why they begin with none.
use Rattle.std.proofs.Common.{◌∙◌, ap, sym, Err}
use Rattle.std.specs.Result.{result_map_both}
use Rattle.uefi_device_path.proofs.CheckedRuns.{path_is_read, refusal_is_read}
use Rattle.nardcorbel.specs.Reading.{read_path}
use Rattle.nardcorbel.specs.Refusals.{path_refusal}
use Rattle.nardcorbel.proofs.outcomes.read_path.Goals as goal

pub returns-in-Ok-clause-ok : goal.returns-in-Ok-clause-ok
unfolding read_path
returns-in-Ok-clause-ok c = ap (result_map_both (λ nodes. nodes) path_refusal) (path_is_read _ _ c.in-Ok.ensures.ok)

pub returns-in-Err-clause-err : goal.returns-in-Err-clause-err
unfolding read_path
returns-in-Err-clause-err c = ap (result_map_both (λ nodes. nodes) path_refusal) (refusal_is_read _ _ c.in-Err.ensures.refusal)
    ∙ ap Err (sym c.refusal.ensures)
