-- What was judged is what the bytes encode.
use Rattle.std.proofs.Common.{subst, ◌≡◌, ◌≢◌, ◌∙◌, ◌<◌, ap, sym, refl, ℕ, List, Option, None, Some, length, arith}
use Rattle.std.proofs.lemmas.Grind.{common_steps}
use Rattle.std.specs.Str.{chars}
use Rattle.uefi_text.proofs.TextsInBuffers.{text_fits}
use Rattle.uefi_text.proofs.Texts.{length-chars, undecided-IsText}
use Rattle.uefi_text.specs.Units.{IsText}
use Rattle.nardcorbel.specs.Outcomes.{Shows, refusal_at, unless}
use Rattle.nardcorbel.specs.Outcomes.Outcome.{Text}
use Rattle.nardcorbel.specs.Reasons.{character_reason}
use Rattle.nardcorbel.proofs.Inputs.{utf8_read}
use Rattle.nardcorbel.proofs.Judged.{all_before, has_room, no_room, none_found}
use Rattle.nardcorbel.proofs.utf8_texts.nard_string_from_utf8.Goals as goal

-- a text is refused for a character, or is written
judged : (r : Option ℕ) (place before wrong : ℕ) (text old : List ℕ) → character_reason r ≢ 0
    → Shows (unless r (λ character. refusal_at (character_reason (Some character)) place) (Text text)) before wrong old (character_reason r) before place old
judged None place before wrong text old other = absurd (other refl)
judged (Some character) place before wrong text old other = record { reason = refl; len = refl; fault = refl; buffer = refl }

pub returns-then-reason-ne-OK-clause-shows : goal.returns-then-reason-ne-OK-clause-shows
returns-then-reason-ne-OK-clause-shows c = rw (c.in-Ok.ensures.ok, c.judge_text-reason.ensures.reason, c.judge_text-reason.ensures.place)
    (judged _ _ c.args.len.now c.args.fault.now (chars c.in-Ok.text.now) c.args.buffer.now (rw c.judge_text-reason.ensures.reason at c.if-reason-ne-OK.true))

-- a text that is not refused is written, or has no room
written : (r : Option ℕ) (place before wrong len fault : ℕ) (text old : List ℕ) (returned : ℕ) (new : List ℕ) → 0 ≡ character_reason r
    → Shows (Text text) before wrong old returned len fault new
    → Shows (unless r (λ character. refusal_at (character_reason (Some character)) place) (Text text)) before wrong old returned len fault new
written r place before wrong len fault text old returned new none shown = rw (none_found r none) shown

pub returns-then-buffer-count-clause-shows : goal.returns-then-buffer-count-clause-shows
returns-then-buffer-count-clause-shows c =
    let text = chars c.in-Ok.text.now in
    let none = none_found _ (sym c.if-reason-ne-OK.false ∙ c.judge_text-reason.ensures.reason) in
    let len = c.judge_text-reason.ensures.place ∙ all_before text none in
    let full = no_room text c.args.buffer.now (omega (arith, len, c.if-buffer-count.true)) in
    let short = length-chars c.args.bytes.now c.in-Ok.ensures.utf8 in
    rw c.in-Ok.ensures.ok
    (written _ _ c.args.len.now c.args.fault.now _ _ text c.args.buffer.now _ _ (sym c.if-reason-ne-OK.false ∙ c.judge_text-reason.ensures.reason)
    (record { reason = full.0; len = omega (arith, len, short, ap (λ x. length (chars x)) c.in-Ok.ensures.text); fault = refl; buffer = full.1 }))

pub write_judged-requires-clause-room : goal.write_judged-requires-clause-room
write_judged-requires-clause-room c =
    let none = none_found _ (sym c.if-reason-ne-OK.false ∙ c.judge_text-reason.ensures.reason) in
    let before = all_before (chars c.in-Ok.text.now) none in
    omega (arith, before, c.judge_text-reason.ensures.place, c.if-buffer-count.false)

pub returns-clause-shows : goal.returns-clause-shows
returns-clause-shows c =
    let text = chars c.in-Ok.text.now in
    let none = none_found _ (sym c.if-reason-ne-OK.false ∙ c.judge_text-reason.ensures.reason) in
    let len = c.judge_text-reason.ensures.place ∙ all_before text none in
    let room : length text < length c.args.buffer.now = omega (arith, len, c.if-buffer-count.false) in
    rw c.in-Ok.ensures.ok
    (written _ _ c.args.len.now c.args.fault.now _ _ text c.args.buffer.now _ _ (sym c.if-reason-ne-OK.false ∙ c.judge_text-reason.ensures.reason)
    (record {
      reason = c.write_judged.ensures.reason ∙ sym (has_room text c.args.buffer.now room);
      len = grind (arith, common_steps, len);
      fault = refl;
      buffer = c.write_judged.ensures.buffer ∙ text_fits text c.args.buffer.now room;
    }))

-- the length of a text that a string can have
pub returns-in-Err-clause-length : goal.returns-in-Err-clause-length
returns-in-Err-clause-length c = λ utf8 is_text. absurd (cc (utf8_read c.args.bytes.now utf8, c.in-Err.ensures.err))

pub returns-then-reason-ne-OK-clause-length : goal.returns-then-reason-ne-OK-clause-length
returns-then-reason-ne-OK-clause-length c = λ utf8 is_text.
    let there = subst (λ b. IsText (chars b)) (sym c.in-Ok.ensures.text) is_text in
    absurd (c.if-reason-ne-OK.true (c.judge_text-reason.ensures.reason ∙ ap character_reason (undecided-IsText (chars c.in-Ok.text.now) there)))

pub returns-then-buffer-count-clause-length : goal.returns-then-buffer-count-clause-length
returns-then-buffer-count-clause-length c = λ utf8 is_text.
    let text = chars c.in-Ok.text.now in
    let none = none_found _ (sym c.if-reason-ne-OK.false ∙ c.judge_text-reason.ensures.reason) in
    c.judge_text-reason.ensures.place ∙ all_before text none ∙ ap (λ b. length (chars b)) c.in-Ok.ensures.text

pub returns-clause-length : goal.returns-clause-length
returns-clause-length c = λ utf8 is_text.
    let text = chars c.in-Ok.text.now in
    let none = none_found _ (sym c.if-reason-ne-OK.false ∙ c.judge_text-reason.ensures.reason) in
    c.judge_text-reason.ensures.place ∙ all_before text none ∙ ap (λ b. length (chars b)) c.in-Ok.ensures.text
