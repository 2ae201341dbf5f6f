-- The second half begins with the string of the text, unless it has no room for it.
use Rattle.std.proofs.Common.{◌≡◌, ◌++◌, ap, arith, length, refl, subst, sym, ◌∙◌}
use Rattle.std.proofs.lemmas.List.{length-map}
use Rattle.std.specs.Str.{chars}
use Rattle.uefi_text.specs.Units.{replaced}
use Rattle.uefi_text.proofs.Texts.{length-chars}
use Rattle.uefi_path.specs.Components.{components_of}
use Rattle.uefi_path.specs.NormalForms.{normal_of, normal_text}
use Rattle.uefi_path.specs.Separators.{separator, slash, with_separators}
use Rattle.uefi_path.specs.Writing.{normal_where}
use Rattle.uefi_path.proofs.NormalLengths.{normal_is_no_longer}
use Rattle.uefi_path.proofs.Validity.{valid_unrefused}
use Rattle.nardcorbel.specs.Buffers.{HasStringIn, first_half, normalized, second_half}
use Rattle.nardcorbel.specs.Outcomes.{buffer_shown, reason_shown, refusal_for, unless}
use Rattle.nardcorbel.specs.Outcomes.Outcome.{Text}
use Rattle.nardcorbel.specs.Reading.{string_of_utf8}
use Rattle.nardcorbel.specs.Reasons.{path_reason}
use Rattle.nardcorbel.proofs.Halves.{enough_halves, halves, has_string, reads_written, refused_kept, string_fits, wrote_string}
use Rattle.nardcorbel.proofs.Judged.{has_room}
use Rattle.nardcorbel.proofs.buffers.nard_path_normalize.Goals as goal

pub returns-then-reason-ne-OK-clause-string : goal.returns-then-reason-ne-OK-clause-string
returns-then-reason-ne-OK-clause-string c =
    let cut = c.split_at_mut-first.ensures in
    (halves c.args.buffer.now _ _ (ap length cut.front) (c.nard_string_from_utf8-reason.auto.buffer ∙ ap length cut.back)).1
    ∙ c.nard_string_from_utf8-reason.ensures.shows.buffer ∙ ap (buffer_shown (string_of_utf8 c.args.bytes.now)) cut.back

pub returns-then-reason-ne-OK-clause-refused : goal.returns-then-reason-ne-OK-clause-refused
returns-then-reason-ne-OK-clause-refused c = λ _.
    let cut = c.split_at_mut-first.ensures in
    let made = c.nard_string_from_utf8-reason.ensures.shows in
    let outcome = string_of_utf8 c.args.bytes.now in
    let kept = refused_kept outcome c.split_at_mut-first.result.1.now (λ ok. c.if-reason-ne-OK.true (made.reason ∙ ok)) in (
      record {
        reason = made.reason ∙ ap (reason_shown outcome) cut.back;
        len = made.len;
        fault = made.fault;
        buffer = returns-then-reason-ne-OK-clause-string c;
      },
      refl,
      ap (λ us. c.split_at_mut-first.result.0.now ++ us) (made.buffer ∙ kept) ∙ sym cut.value,
    )

pub returns-then-reason-ne-OK-clause-path : goal.returns-then-reason-ne-OK-clause-path
returns-then-reason-ne-OK-clause-path c = λ has.
    absurd (c.if-reason-ne-OK.true (c.nard_string_from_utf8-reason.ensures.shows.reason
    ∙ ap (reason_shown (string_of_utf8 c.args.bytes.now)) c.split_at_mut-first.ensures.back ∙ has))

pub returns-then-reason-ne-OK-clause-character : goal.returns-then-reason-ne-OK-clause-character
returns-then-reason-ne-OK-clause-character c = λ has.
    absurd (c.if-reason-ne-OK.true (c.nard_string_from_utf8-reason.ensures.shows.reason
    ∙ ap (reason_shown (string_of_utf8 c.args.bytes.now)) c.split_at_mut-first.ensures.back ∙ has))

pub returns-then-reason-ne-OK-clause-enough : goal.returns-then-reason-ne-OK-clause-enough
returns-then-reason-ne-OK-clause-enough c = λ big utf8 is_text valid.
    let some = length-chars c.args.bytes.now utf8 in
    let room = (enough_halves c.args.buffer.now (length c.args.bytes.now) big).1 in
    let has = string_fits c.args.bytes.now (second_half c.args.buffer.now) utf8 is_text (omega (arith, some, room)) in
    absurd (c.if-reason-ne-OK.true (c.nard_string_from_utf8-reason.ensures.shows.reason
    ∙ ap (reason_shown (string_of_utf8 c.args.bytes.now)) c.split_at_mut-first.ensures.back ∙ has))

pub returns-clause-string : goal.returns-clause-string
returns-clause-string c =
    let cut = c.split_at_mut-first.ensures in
    (halves c.args.buffer.now _ _ (c.nard_path_normalize_utf16.auto.buffer ∙ ap length cut.front) (c.nard_string_from_utf8-reason.auto.buffer ∙ ap length cut.back)).1
    ∙ c.nard_string_from_utf8-reason.ensures.shows.buffer ∙ ap (buffer_shown (string_of_utf8 c.args.bytes.now)) cut.back

pub returns-clause-refused : goal.returns-clause-refused
returns-clause-refused c = λ no.
    absurd (no (sym (c.nard_string_from_utf8-reason.ensures.shows.reason
    ∙ ap (reason_shown (string_of_utf8 c.args.bytes.now)) c.split_at_mut-first.ensures.back) ∙ c.if-reason-ne-OK.false))

pub returns-clause-path : goal.returns-clause-path
returns-clause-path c = λ has.
    let text = chars c.args.bytes.now in
    let cut = c.split_at_mut-first.ensures in
    let written = c.nard_string_from_utf8-reason.new.buffer in
    let fits = has_string c.args.bytes.now c.split_at_mut-first.result.1.now (subst (HasStringIn c.args.bytes.now) (sym cut.back) has) in
    let wrote = c.nard_string_from_utf8-reason.ensures.shows.buffer ∙ wrote_string c.args.bytes.now c.split_at_mut-first.result.1.now fits in
    let reads = reads_written text c.split_at_mut-first.result.1.now written fits.text fits.room wrote in
    let there = rw reads at c.nard_path_normalize_utf16.ensures.path in
    let front = (halves c.args.buffer.now _ _ (c.nard_path_normalize_utf16.auto.buffer ∙ ap length cut.front) (c.nard_string_from_utf8-reason.auto.buffer ∙ ap length cut.back)).0 in
    record {
      reason = there.reason ∙ ap (reason_shown (normalized text)) cut.front;
      len = there.len;
      fault = there.fault;
      buffer = front ∙ there.buffer ∙ ap (buffer_shown (normalized text)) cut.front;
    }

pub returns-clause-character : goal.returns-clause-character
returns-clause-character c = λ has.
    let cut = c.split_at_mut-first.ensures in
    let fits = has_string c.args.bytes.now c.split_at_mut-first.result.1.now (subst (HasStringIn c.args.bytes.now) (sym cut.back) has) in
    let wrote = c.nard_string_from_utf8-reason.ensures.shows.buffer ∙ wrote_string c.args.bytes.now c.split_at_mut-first.result.1.now fits in
    c.nard_path_normalize_utf16.ensures.character (chars c.args.bytes.now)
    (reads_written (chars c.args.bytes.now) c.split_at_mut-first.result.1.now _ fits.text fits.room wrote)

pub returns-clause-enough : goal.returns-clause-enough
returns-clause-enough c = λ big utf8 is_text valid.
    let text = chars c.args.bytes.now in
    let some = length-chars c.args.bytes.now utf8 in
    let room = enough_halves c.args.buffer.now (length c.args.bytes.now) big in
    let has = string_fits c.args.bytes.now (second_half c.args.buffer.now) utf8 is_text (omega (arith, some, room.1)) in
    let pieces = normal_of (components_of (with_separators text)) in
    let none = (valid_unrefused (with_separators text)).0 valid in
    let short = normal_is_no_longer (with_separators text) (normal_text pieces) (ap (λ v. normal_where v pieces) none) in
    let same : length (with_separators text) ≡ length text = length-map text (replaced slash separator) in
    (returns-clause-path c has).reason ∙ ap (λ r. reason_shown (unless r (λ error. refusal_for (path_reason error)) (Text (normal_text pieces))) (first_half c.args.buffer.now)) none
    ∙ has_room (normal_text pieces) (first_half c.args.buffer.now) (omega (arith, some, room.0, short, same))

pub returns-then-reason-ne-OK-clause-length : goal.returns-then-reason-ne-OK-clause-length
returns-then-reason-ne-OK-clause-length c = λ normal has is.
    absurd (c.if-reason-ne-OK.true (c.nard_string_from_utf8-reason.ensures.shows.reason
    ∙ ap (reason_shown (string_of_utf8 c.args.bytes.now)) c.split_at_mut-first.ensures.back ∙ has))

pub returns-clause-length : goal.returns-clause-length
returns-clause-length c = λ normal has is.
    let cut = c.split_at_mut-first.ensures in
    let fits = has_string c.args.bytes.now c.split_at_mut-first.result.1.now (subst (HasStringIn c.args.bytes.now) (sym cut.back) has) in
    let wrote = c.nard_string_from_utf8-reason.ensures.shows.buffer ∙ wrote_string c.args.bytes.now c.split_at_mut-first.result.1.now fits in
    c.nard_path_normalize_utf16.ensures.length (chars c.args.bytes.now) normal
    (reads_written (chars c.args.bytes.now) c.split_at_mut-first.result.1.now _ fits.text fits.room wrote) is
