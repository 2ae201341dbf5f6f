-- A text has no more characters than bytes, and of a text of UCS-2 the room is what is written.
use Rattle.std.proofs.Common.{◌≡◌, ◌+◌, ◌++◌, ◌∙◌, ap, arith, length, sym}
use Rattle.std.specs.Str.{chars}
use Rattle.std.proofs.lemmas.Grind.{common_steps}
use Rattle.std.proofs.lemmas.List.{append-nil, drop_all}
use Rattle.uefi_text.specs.Units.{nul_terminated}
use Rattle.uefi_text.proofs.Texts.{length-chars}
use Rattle.uefi_text.proofs.Utf16.{undecided}
use Rattle.uefi_text.proofs.encode.units_of_chars.Goals as goal

pub overflow_add-len : goal.overflow_add-len
overflow_add-len g c = record { fits = omega (arith, length-chars c.args.text.now c.utf8.text) }

pub returns : goal.returns
returns g c =
    let text = chars c.args.text.now in
    let room = c.deref_mut.result.now in
    let long : length room ≡ length text + 1 = omega (arith, c.deref_mut.ensures.len, c.in_ok-resize.ensures.len, c.requires.len) in
    let written = (undecided room text c.requires.undecided (omega (arith, long))).0 in
    let made : c.write_chars-len.new.buffer ≡ nul_terminated text =
    c.write_chars-len.ensures.buffer ∙ sym written ∙ ap (λ us. nul_terminated text ++ us) (drop_all (length text + 1) room (omega (arith, long))) ∙ append-nil (nul_terminated text) in
    grind (arith, common_steps, made)
