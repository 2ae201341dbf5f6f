-- The text is read once, where the path in the buffer ends.
use Rattle.std.proofs.Common.{◌∙◌, arith, refl, sym}
use Rattle.std.proofs.lemmas.Grind.{common_steps}
use Rattle.uefi_device_path.specs.Building.{ends_at}
use Rattle.uefi_device_path.specs.StyledReading.{path_read}
use Rattle.nardcorbel.proofs.CallOutputs.{pushed_shown}
use Rattle.nardcorbel.specs.PathEnds.{extended, missing_end}
use Rattle.nardcorbel.specs.Refusals.{text_refused}
use Rattle.nardcorbel.proofs.device_paths.parsing.nard_device_path_push_text.Goals as goal

pub returns : goal.returns
returns c =
    rw (sym c.style_of.ensures ∙ c.in-Some.is, c.in-Ok.ensures.ok, ← c.as_bytes.ensures.value)
    (pushed_shown text_refused (λ needed. refl) c.args.buffer.now _ (λ nodes. extended c.args.path_len c.args.buffer.now nodes)
    (ends_at c.args.buffer.now c.args.path_len) (missing_end c.args.path_len) (path_read c.in-Some.style c.as_bytes.result.now) c.push_text_at.result
    _ _ _ _ _ refl (grind (arith, common_steps)) c.push_text_at.ensures c.report.ensures.shows)
