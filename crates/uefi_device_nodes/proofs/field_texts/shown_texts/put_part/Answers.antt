-- A run, or a character.
use Rattle.std.proofs.Common.{ℕ, ◌++◌, ap, drop, take}
use Rattle.uefi_text.specs.Views.{items_of}
use Rattle.uefi_text.proofs.Puts.{puts_two}
use Rattle.uefi_device_nodes.specs.FieldTexts.{shown_char}
use Rattle.uefi_device_nodes.proofs.UnitsShown.{shown_one, shown_run}
use Rattle.uefi_device_nodes.proofs.field_texts.shown_texts.put_part.Goals as goal

pub returns-then-len-ne0-clause-text : goal.returns-then-len-ne0-clause-text
returns-then-len-ne0-clause-text g c =
    let us = items_of c.args.units.now in
    let run = c.put_run-len in
    (take run.result (drop c.args.place us), run.ensures.text, shown_run us c.args.place run.result run.ensures.printable)

pub returns-clause-text : goal.returns-clause-text
returns-clause-text g c =
    let us = items_of c.args.units.now in
    let one = c.char_at-character in
    let none = ap (λ (n : ℕ). take n (drop c.args.place us) ++ shown_char one.result.0) c.if-len-ne0.false in
    (shown_char one.result.0, puts_two _ _ _ _ _ _ _ c.put_run-len.ensures.text c.put_shown.ensures none, shown_one us c.args.place one.result.1 one.result.0 one.ensures.first)
