-- The text is read once, where the path in the buffer ends; its faults are places of its units.
use Rattle.std.proofs.Common.{◌≡◌, ◌∙◌, arith, refl, sym, ℕ, Err}
use Rattle.std.proofs.lemmas.Grind.{common_steps}
use Rattle.uefi_device_path.specs.Building.{ends_at}
use Rattle.uefi_device_path.specs.StyledReading.{path_read}
use Rattle.uefi_device_path.specs.declared.text.text_errors.PushTextError.{PushTextError}
use Rattle.uefi_device_path.specs.declared.text.text_errors.PushTextError.TheVariants.{BufferTooSmall}
use Rattle.nardcorbel.proofs.CallOutputs.{pushed_shown}
use Rattle.nardcorbel.specs.DevicePathTexts.{error_in_units}
use Rattle.nardcorbel.specs.Outcomes.{too_small}
use Rattle.nardcorbel.specs.PathEnds.{extended, missing_end}
use Rattle.nardcorbel.specs.Refusals.{text_refused}
use Rattle.nardcorbel.specs.declared.outcomes.Refusal.{Refusal}
use Rattle.nardcorbel.proofs.device_paths.parsing.nard_device_path_push_text_utf16.Goals as goal

pub returns-in-Err-push_text_at : goal.returns-in-Err-push_text_at
returns-in-Err-push_text_at c =
    rw (sym c.style_of.ensures ∙ c.in-Some.is, sym c.until_nul-units.ensures, c.in-Ok.ensures.ok)
    (pushed_shown refused by_case c.args.buffer.now _ (λ nodes. extended c.args.path_len c.args.buffer.now nodes)
    (ends_at c.args.buffer.now c.args.path_len) (missing_end c.args.path_len) (path_read c.in-Some.style _) (Err c.in-Err-push_text_at.error)
    _ _ _ _ _ refl (grind (arith, common_steps)) c.in-Err-push_text_at.ensures
    (rw c.error_in_units.ensures at c.refuse-in-Err-push_text_at.ensures))
  where
    refused : PushTextError → Refusal
    refused error = text_refused (error_in_units c.until_nul-units.result.now error)

    by_case : (needed : ℕ) → refused (BufferTooSmall needed) ≡ too_small needed
    by_case needed = refl
