-- The characters of the text are written one by one, up to the end of the text or of the buffer.
use Rattle.std.proofs.Common.{List, ℕ, ◌≤◌, [], ◌∷◌, ◌++◌, ◌∙◌, ap, append_assoc, subst, sym, length, arith, rules, take}
use Rattle.std.specs.Option.{option_or}
use Rattle.std.specs.Str.{chars}
use Rattle.std.specs.Str.Iter.{chars_rest}
use Rattle.std.proofs.lemmas.List.{append-nil, length-take-le}
use Rattle.std.proofs.lemmas.Str.{IsUtf8-past_char}
use Rattle.uefi_text.specs.FromStrWithBuf.{utf16}
use Rattle.uefi_text.proofs.Texts.{chars_end, chars_step}
use Rattle.uefi_text.proofs.Utf16.{ended, front_written, non_empty, length-utf16-push, length-with_units, refusal-push, unrefused, with_units-char}
use Rattle.uefi_text.proofs.Utf8Bytes.{find-accepted}
use Rattle.uefi_text.proofs.encode.write_chars.Invariants.{IsRead}
use Rattle.uefi_text.proofs.encode.write_chars.Goals as goal

pub loop-character-init : goal.loop-character-init
loop-character-init c =
    let text = chars c.args.input.now in
    let start = c.write_front-start.result.0 in
    let front = take start text in
    let made = c.write_front-start.ensures in
    let rest = c.chars-character-items.ensures.rest in
    let same = c.into_iter-character-iterator.ensures.into_iter_gives in
    let written = front_written c.args.buffer.now _ front start (find-accepted front made.accepted) (sym (length-take-le start text made.count)) made.place made.units in
    subst (IsRead _ _ _ _ _ _) (sym (append-nil front)) (record {
      counted = written.0;
      place_left = made.place;
      written = written.1;
      refused = written.2;
      utf8 = search rules;
      to_come = ap (λ (bs : List ℕ). front ++ chars bs) (ap chars_rest same ∙ rest) ∙ made.rest;
    })

pub loop-character-preserved : goal.loop-character-preserved
loop-character-preserved c =
    let so_far = c.loop-character.invariant in
    let front = take c.write_front-start.result.0 (chars c.args.input.now) in
    let read = front ++ c.loop-character.yielded in
    let character = c.in-Some.character in
    let pushed = refusal-push read character _ so_far.counted in
    subst (IsRead _ _ _ _ _ _) (append_assoc front c.loop-character.yielded (character ∷ []))
    (record {
      counted = length-utf16-push read _ _ _ so_far.counted c.write_char-len.ensures.len;
      place_left = c.if-buffer-len.false;
      written =
          with_units-char c.args.buffer.now _ _ read character _ so_far.counted so_far.place_left so_far.written c.write_char-len.ensures.buffer;
      refused = c.or-refusal.ensures ∙ (λ i. option_or (so_far.refused i) (c.refusal_of_char.ensures i)) ∙ sym pushed;
      utf8 = IsUtf8-past_char _ _ _ so_far.utf8 c.in-Some.ensures.steps.0;
      to_come = chars_step read _ _ _ _ so_far.utf8 c.in-Some.ensures.steps.0 so_far.to_come;
    })

pub returns-then-buffer-len : goal.returns-then-buffer-len
returns-then-buffer-len c =
    let so_far = c.loop-character.invariant in
    let old = c.args.buffer.now in
    let read = take c.write_front-start.result.0 (chars c.args.input.now) ++ c.loop-character.yielded in
    let front = read ++ c.in-Some.character ∷ [] in
    let text = chars_step read _ _ _ _ so_far.utf8 c.in-Some.ensures.steps.0 so_far.to_come in
    let written =
    with_units-char old _ _ read c.in-Some.character _ so_far.counted so_far.place_left so_far.written c.write_char-len.ensures.buffer in
    let count = length-utf16-push read _ _ _ so_far.counted c.write_char-len.ensures.len in
    let full : length old ≤ length (utf16 front) = omega (arith, c.if-buffer-len.true, ap length written ∙ length-with_units (utf16 front) old, count) in
    let end = non_empty old front (chars (chars_rest c.next.new.self)) full in
    record { ok = search rules; refusal = rw (← text) end.1; buffer = rw (← text) (written ∙ end.0) }

pub returns-in-None-refusal : goal.returns-in-None-refusal
returns-in-None-refusal c =
    let so_far = c.loop-character.invariant in
    let read = take c.write_front-start.result.0 (chars c.args.input.now) ++ c.loop-character.yielded in
    let all = chars_end read _ _ c.in-None.ensures.steps.0.0 so_far.to_come in
    let end = ended c.args.buffer.now _ read _ so_far.counted so_far.place_left so_far.written in
    let units = unrefused read (sym so_far.refused ∙ c.in-None-refusal.is) in
    record {
      ok = omega (arith, so_far.counted ∙ ap length (units.1 ∙ all));
      refusal = rw (← all) (sym (end.1 ∙ sym so_far.refused ∙ c.in-None-refusal.is));
      buffer = rw (← all) end.0;
    }

pub returns-in-Some-refusal : goal.returns-in-Some-refusal
returns-in-Some-refusal c =
    let so_far = c.loop-character.invariant in
    let read = take c.write_front-start.result.0 (chars c.args.input.now) ++ c.loop-character.yielded in
    let all = chars_end read _ _ c.in-None.ensures.steps.0.0 so_far.to_come in
    let end = ended c.args.buffer.now _ read _ so_far.counted so_far.place_left so_far.written in
    record {
      ok = search rules;
      refusal = rw (← all) (sym (end.1 ∙ sym so_far.refused ∙ c.in-Some-refusal.is));
      buffer = rw (← all) end.0;
    }
