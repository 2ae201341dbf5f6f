-- A buffer in two halves, of which the second begins with a string.
use Rattle.std.proofs.Common.{◌≡◌, ◌≢◌, ℕ, ◌+◌, ◌/◌, ◌*◌, ◌≤◌, ◌<◌, ◌∙◌, Bool, true, false, if◌then◌else◌, Option, None, Some, Ok, Err, List, [], ◌∷◌, ◌++◌, ap, append_assoc, arith, drop, get_or, length, length-append, length-drop, refl, sym, take}
use Rattle.std.specs.List.{find, position_or_len}
use Rattle.std.proofs.lemmas.Grind.{common_steps}
use Rattle.std.proofs.lemmas.List.{get_or_append_left, length-take}
use Rattle.std.proofs.lemmas.List.Sums.{position_or_len_is}
use Rattle.std.proofs.Math.Seq.{drop-append_seam, get_or-append_seam, take-append_seam}
use Rattle.uefi_text.specs.UnalignedCStr16.{with_prefix}
use Rattle.uefi_text.specs.Units.{BeginsWithString, IsText, IsTextUnit, is_nul, nul_terminated}
use Rattle.uefi_text.proofs.TextsInBuffers.{text_fits}
use Rattle.uefi_text.proofs.Texts.{IsText-chars, undecided-IsText}
use Rattle.uefi_text.specs.FromStr.{is_deciding_char}
use Rattle.std.proofs.lemmas.Str.{IsUtf8-from_is_utf8, is_utf8-from_IsUtf8, scalars-chars}
use Rattle.std.specs.Str.{IsUtf8, chars, is_utf8}
use Rattle.std.specs.Str.Lossy.{utf8_valid_len}
use Rattle.uefi_text.proofs.Accepting.{until_nul_refusal-begins}
use Rattle.nardcorbel.specs.Buffers.{HasStringIn, first_half, second_half}
use Rattle.nardcorbel.specs.Outcomes.{Outcome, when_read, buffer_shown, reason_shown, refusal_at, unless}
use Rattle.nardcorbel.specs.Outcomes.Outcome.{Text}
use Rattle.nardcorbel.specs.Reading.{read_string, read_utf8, string_of_utf8, value_or}
use Rattle.nardcorbel.specs.Reasons.{character_reason}
use Rattle.nardcorbel.specs.Refusals.{string_refusal}
use Rattle.nardcorbel.specs.Strings.{text_until_nul}
use Rattle.nardcorbel.specs.declared.reasons.TheConstants.{NOT_UTF8, OK}
use Rattle.nardcorbel.proofs.Judged.{has_room}

no_nul : (u : ℕ) → IsTextUnit u → is_nul u ≡ false
no_nul u unit = grind (arith, common_steps)

-- what stands before the first NUL is the text, where a text and its NUL stand first
text_before : (text rest : List ℕ) → IsText text → text_until_nul (text ++ 0 ∷ rest) ≡ text
text_before text rest is_text =
    let units = text ++ 0 ∷ rest in
    let place : position_or_len is_nul units ≡ length text =
    position_or_len_is is_nul units (length text) 0 (omega (arith, length-append text (0 ∷ rest)))
    (λ k h. rw (get_or_append_left text (0 ∷ rest) 0 k h) (no_nul (get_or text k 0) (is_text k 0 h)))
    (λ _. rw (get_or-append_seam text 0 rest 0) refl) in
    ap (λ n. take n units) place ∙ take-append_seam text (0 ∷ rest)

-- a text with its NUL, written over units that have room for it
begins : (text units written : List ℕ) → IsText text → length text < length units
    → written ≡ with_prefix (nul_terminated text) units → BeginsWithString written
begins text units written is_text room wrote =
    (text, drop (length text + 1) units, is_text, wrote ∙ sym (text_fits text units room))

text_of_written : (text units written : List ℕ) → IsText text → length text < length units
    → written ≡ with_prefix (nul_terminated text) units → text_until_nul written ≡ text
text_of_written text units written is_text room wrote =
    let rest = drop (length text + 1) units in
    ap text_until_nul (wrote ∙ sym (text_fits text units room) ∙ append_assoc text (0 ∷ []) rest) ∙ text_before text rest is_text

-- such units are read as the text
pub reads_written : (text units written : List ℕ) → IsText text → length text < length units
    → written ≡ with_prefix (nul_terminated text) units → read_string written ≡ Ok text
unfolding read_string
reads_written text units written is_text room wrote =
    let none = until_nul_refusal-begins written (begins text units written is_text room wrote) in
    ap (λ r. value_or r (string_refusal written) (text_until_nul written)) none ∙ ap Ok (text_of_written text units written is_text room wrote)

-- a text that was written is not refused, and had room
text_there : (r : Option ℕ) (place : ℕ) (text buffer : List ℕ)
    → reason_shown (unless r (λ character. refusal_at (character_reason (Some character)) place) (Text text)) buffer ≡ OK
    → (r ≡ None) × (length text < length buffer)
text_there None place text buffer ok = (refl, grind (arith, common_steps))
text_there (Some character) place text buffer ok = absurd (grind (arith, common_steps))

valid_there : (b : Bool) (bytes buffer : List ℕ) (place : ℕ) (next : List ℕ → Outcome)
    → reason_shown (when_read (if b then Ok bytes else Err (refusal_at NOT_UTF8 place)) next) buffer ≡ OK
    → (b ≡ true) × (reason_shown (next bytes) buffer ≡ OK)
valid_there true bytes buffer place next ok = (refl, ok)
valid_there false bytes buffer place next ok = absurd (omega (arith, ok))

-- bytes that a buffer has as a string
pub record Fits (bytes buffer : List ℕ) : Type 0 where
  pub reads : read_utf8 bytes ≡ Ok bytes
  pub none : find is_deciding_char (chars bytes) ≡ None
  pub text : IsText (chars bytes)
  pub room : length (chars bytes) < length buffer

pub has_string : (bytes buffer : List ℕ) → HasStringIn bytes buffer → Fits bytes buffer
unfolding read_utf8
has_string bytes buffer has =
    let valid = valid_there (is_utf8 bytes) bytes buffer (utf8_valid_len bytes) _ has in
    let there = text_there (find is_deciding_char (chars bytes)) _ (chars bytes) buffer valid.1 in
    record {
      reads = ap (λ (b : Bool). if b then Ok bytes else Err (refusal_at NOT_UTF8 (utf8_valid_len bytes))) valid.0;
      none = there.0;
      text = IsText-chars (chars bytes) (scalars-chars bytes (IsUtf8-from_is_utf8 bytes valid.0)) there.0;
      room = there.1;
    }

-- a text in UTF-8 that has room is one
pub string_fits : (bytes buffer : List ℕ) → IsUtf8 bytes → IsText (chars bytes) → length (chars bytes) < length buffer → HasStringIn bytes buffer
unfolding read_utf8
string_fits bytes buffer utf8 is_text room =
    rw (is_utf8-from_IsUtf8 bytes utf8, undecided-IsText (chars bytes) is_text) (has_room (chars bytes) buffer room)

-- what was written is that text
pub wrote_string : (bytes buffer : List ℕ) → Fits bytes buffer → buffer_shown (string_of_utf8 bytes) buffer ≡ with_prefix (nul_terminated (chars bytes)) buffer
wrote_string bytes buffer fits = rw (fits.reads, fits.none) refl

-- a refusal leaves a buffer unchanged
pub refused_kept : (outcome : Outcome) (buffer : List ℕ) → reason_shown outcome buffer ≢ OK → buffer_shown outcome buffer ≡ buffer
refused_kept (Outcome.Number number) buffer other = refl
refused_kept (Outcome.Text text) buffer other = grind (arith, common_steps)
refused_kept (Outcome.Content content) buffer other = grind (arith, common_steps)
refused_kept (Outcome.Refused refusal) buffer other = refl

-- the halves of a buffer after both were written
pub halves : (buffer one two : List ℕ) → length one ≡ length (first_half buffer) → length two ≡ length (second_half buffer)
    → (first_half (one ++ two) ≡ one) × (second_half (one ++ two) ≡ two)
halves buffer one two first second =
    let middle = length buffer / 2 in
    let front : length one ≡ middle = omega (arith, first, length-take middle buffer) in
    let all : length (one ++ two) / 2 ≡ length one =
    omega (arith, length-append one two, second, front, length-drop middle buffer) in
    (ap (λ n. take n (one ++ two)) all ∙ take-append_seam one two, ap (λ n. drop n (one ++ two)) all ∙ drop-append_seam one two)

-- twice as many places, and two, leave as many and one in each half
pub enough_halves : (buffer : List ℕ) (n : ℕ) → 2 * n + 2 ≤ length buffer → (n < length (first_half buffer)) × (n < length (second_half buffer))
enough_halves buffer n big =
    let half : n + 1 ≤ length buffer / 2 = omega arith in
    let less : length buffer / 2 + (n + 1) ≤ length buffer = omega arith in (
      omega (arith, half, length-take (length buffer / 2) buffer),
      omega (arith, less, length-drop (length buffer / 2) buffer),
    )
