use Rattle.std.proofs.Common.{◌≡◌, ◌-◌, ◌/◌, ◌%◌, ◌∙◌, inl, inr, min, ap, arith, drop}
use Rattle.std.specs.Char.{len_utf8}
use Rattle.uefi_node_reader.proofs.Utf16Texts.{begins_with, no_next}
use Rattle.uefi_node_reader.proofs.utf16_texts.Utf16Text.next_char.Goals as goal
use Rattle.uefi_node_reader.proofs.utf16_texts.Utf16Text.next_char.Goals.{then-self-len-via-then-self-len, then-self-len-via-else-self-len+then-len-ne1}

pub returns-then-self-len : goal.returns-then-self-len
returns-then-self-len c =
    let text = c.args.self in
    let char = c.first_char_or_nul-c in
    let at : c.units_from.result.now ≡ drop (text.place / 4) text.units.now.now = c.units_from.ensures ∙ ap (drop (text.place / 4)) c.units_of-units.ensures in
    no_next text.units.now.now c.units_from.result.now text.place char.result.0 char.result.1.now at char.ensures.chars char.ensures.within text.end (
    elim c.then-self-len.branch [
      | then-self-len-via-then-self-len w ↦ inl (omega (arith, w.if-self-len.true, c.len_utf8-len.ensures.value))
      | then-self-len-via-else-self-len+then-len-ne1 w ↦ inr (omega (arith, w.if-self-ne0, w.if-len-ne1, c.len_utf8-len.ensures))
    ]
    )

pub returns : goal.returns
returns c =
    let text = c.args.self in
    let char = c.first_char_or_nul-c in
    let at : c.units_from.result.now ≡ drop (text.place / 4) text.units.now.now = c.units_from.ensures ∙ ap (drop (text.place / 4)) c.units_of-units.ensures in
    let whole : min (text.place % 4) (len_utf8 char.result.0 - 1) ≡ 0 = omega (arith, c.if-len-ne1.either, c.len_utf8-len.ensures.value) in
    rw c.units_of-units.ensures
    (begins_with text.units.now.now c.units_from.result.now text.place char.result.0 char.result.1.now at char.ensures.chars char.ensures.within whole text.end
    c.len_utf8-len.result c.len_utf8-len.ensures.value (omega (arith, c.if-self-len.false)))
