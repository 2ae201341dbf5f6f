use Rattle.std.proofs.Common.{◌∙◌, List, ℕ, ap, sym, Result, Err}
use Rattle.std.specs.Result.{result_map_both}
use Rattle.nardcorbel.specs.Outcomes.{refusal_at}
use Rattle.nardcorbel.specs.DevicePathTexts.{read_utf16}
use Rattle.nardcorbel.specs.declared.outcomes.Refusal.{Refusal}
use Rattle.nardcorbel.specs.declared.reasons.TheConstants.{INVALID_CHAR}
use Rattle.nardcorbel.proofs.device_paths.parsing.read_utf16.Goals as goal

abbrev shown : Result (List ℕ) ℕ → Result (List ℕ) Refusal
shown read = result_map_both (λ text. text) (refusal_at INVALID_CHAR) read

pub returns-in-Ok-clause-ok : goal.returns-in-Ok-clause-ok
unfolding read_utf16
returns-in-Ok-clause-ok c = ap shown (sym c.in-Ok.ensures)

pub returns-in-Err-clause-err : goal.returns-in-Err-clause-err
unfolding read_utf16
returns-in-Err-clause-err c = ap shown (sym c.in-Err.ensures) ∙ ap (λ (r : Refusal). Err r) (sym c.at.ensures)
