-- A text that was judged is not refused where there is room.
use Rattle.std.proofs.Common.{◌∙◌, ap, sym}
use Rattle.std.specs.Result.{result_err}
use Rattle.std.specs.Str.{chars}
use Rattle.uefi_text.proofs.Utf16.{undecided}
use Rattle.nardcorbel.proofs.utf8_texts.write_judged.Goals as goal

pub returns-in-Ok-clause-buffer : goal.returns-in-Ok-clause-buffer
returns-in-Ok-clause-buffer c =
    c.write_str.ensures.buffer ∙ sym (undecided c.args.buffer.now (chars c.args.text.now) c.requires.text c.requires.room).0

pub returns-in-Err-clause-reason : goal.returns-in-Err-clause-reason
returns-in-Err-clause-reason c =
    let none = sym (ap result_err c.in-Err.is) ∙ c.write_str.ensures.refusal
    ∙ sym (undecided c.args.buffer.now (chars c.args.text.now) c.requires.text c.requires.room).1 in
    absurd (cc)

pub returns-in-Err-clause-is_text : goal.returns-in-Err-clause-is_text
returns-in-Err-clause-is_text c =
    let none = sym (ap result_err c.in-Err.is) ∙ c.write_str.ensures.refusal
    ∙ sym (undecided c.args.buffer.now (chars c.args.text.now) c.requires.text c.requires.room).1 in
    absurd (cc)

pub returns-in-Err-clause-buffer : goal.returns-in-Err-clause-buffer
returns-in-Err-clause-buffer c =
    let none = sym (ap result_err c.in-Err.is) ∙ c.write_str.ensures.refusal
    ∙ sym (undecided c.args.buffer.now (chars c.args.text.now) c.requires.text c.requires.room).1 in
    absurd (cc)
