use Rattle.std.proofs.Common.{◌∙◌, ap, sym, length, arith}
use Rattle.std.proofs.lemmas.Str.{chars-nil, chars_past_char, encodes-chars, length-le-encodes, IsUtf8-past_char}
use Rattle.std.proofs.lemmas.List.{nil_from_length}
use Rattle.std.specs.List.{find, position_or_len}
use Rattle.std.specs.Str.{chars}
use Rattle.uefi_text.specs.FromStr.{is_deciding_char}
use Rattle.nardcorbel.specs.Reasons.{character_reason}
use Rattle.nardcorbel.proofs.Judged.{high_found, nul_found, passed}
use Rattle.nardcorbel.proofs.utf8_texts.judge_chars.Goals as goal

pub returns-in-0-clause-reason : goal.returns-in-0-clause-reason
returns-in-0-clause-reason c =
    let so_far = c.loop-character.invariant in
    let step = chars_past_char _ _ _ so_far.utf8 c.in-Some.ensures.steps.0 in
    (nul_found _ _ _ step c.in-0.is).0 ∙ ap character_reason so_far.found

pub returns-in-0-clause-place : goal.returns-in-0-clause-place
returns-in-0-clause-place c =
    let so_far = c.loop-character.invariant in
    let step = chars_past_char _ _ _ so_far.utf8 c.in-Some.ensures.steps.0 in
    omega (arith, (nul_found _ _ _ step c.in-0.is).1, so_far.place)

pub returns-in-65536-to-4294967295-clause-reason : goal.returns-in-65536-to-4294967295-clause-reason
returns-in-65536-to-4294967295-clause-reason c =
    let so_far = c.loop-character.invariant in
    let step = chars_past_char _ _ _ so_far.utf8 c.in-Some.ensures.steps.0 in
    (high_found _ _ _ step (omega (arith, c.in-65536-to-4294967295))).0 ∙ ap character_reason so_far.found

pub returns-in-65536-to-4294967295-clause-place : goal.returns-in-65536-to-4294967295-clause-place
returns-in-65536-to-4294967295-clause-place c =
    let so_far = c.loop-character.invariant in
    let step = chars_past_char _ _ _ so_far.utf8 c.in-Some.ensures.steps.0 in
    omega (arith, (high_found _ _ _ step (omega (arith, c.in-65536-to-4294967295))).1, so_far.place)

pub loop-character-preserved : goal.loop-character-preserved
loop-character-preserved c =
    let so_far = c.loop-character.invariant in
    let step = chars_past_char _ _ _ so_far.utf8 c.in-Some.ensures.steps.0 in
    let next = passed _ _ _ step (omega (arith, c.in_default)) (omega (arith, c.in_default)) in
    record {
      found = next.0 ∙ so_far.found;
      place = omega (arith, next.1, so_far.place);
      count = omega (arith, ap length step, so_far.count);
      utf8 = IsUtf8-past_char _ _ _ so_far.utf8 c.in-Some.ensures.steps.0;
    }

pub overflow_add-len : goal.overflow_add-len
overflow_add-len c =
    let so_far = c.loop-character.invariant in
    let step = chars_past_char _ _ _ so_far.utf8 c.in-Some.ensures.steps.0 in
    let bytes = ap length (encodes-chars c.args.text.now c.utf8.text) in
    omega (arith, ap length step, so_far.count, length-le-encodes (chars c.args.text.now), bytes, c.type_inv.text)

pub returns-clause-reason : goal.returns-clause-reason
returns-clause-reason c =
    let left = ap chars (nil_from_length _ c.in-None.ensures.steps.0.0) ∙ chars-nil in
    ap character_reason (sym (ap (find is_deciding_char) left) ∙ c.loop-character.invariant.found)

pub returns-clause-place : goal.returns-clause-place
returns-clause-place c =
    let left = ap chars (nil_from_length _ c.in-None.ensures.steps.0.0) ∙ chars-nil in
    omega (arith, ap (position_or_len is_deciding_char) left, c.loop-character.invariant.place)
