-- A text is accepted exactly where it is not refused.
use Rattle.std.proofs.Common.{◌∙◌, sym, length}
use Rattle.std.specs.Str.{chars}
use Rattle.std.proofs.lemmas.Str.{scalars-chars}
use Rattle.uefi_text.proofs.Accepting.{accepts-unrefused, with_buf-accepts}
use Rattle.uefi_text.proofs.strings.strs.CStr16.write_str.Goals as goal

pub returns-clause-accepts : goal.returns-clause-accepts
returns-clause-accepts c =
    let text = c.args.input.now in
    let exact = with_buf-accepts (chars text) (length c.args.buffer.now) (scalars-chars text c.utf8.input) in
    let same = c.write_text.ensures.refusal in
    accepts-unrefused c.write_text.result (λ none. exact.0 (sym same ∙ none), λ accepted. same ∙ exact.1 accepted)
