-- Texts that are written with a NUL into a caller's buffer: what is returned, and what the buffer becomes.
use Rattle.std.proofs.Common.{◌≡◌, ℕ, ◌+◌, ◌-◌, ◌<◌, ◌≤◌, ◌^◌, List, [], ◌∷◌, ◌++◌, Ok, Err, add-one, append_assoc, drop, get_or, set, length, min, length-append, ap, refl, sym, ◌∙◌, arith}
use Rattle.std.proofs.Math.Seq.{drop-cons, set-append_seam}
use Rattle.std.proofs.lemmas.Bool.{le-ltb, lt-ltb}
use Rattle.std.proofs.lemmas.Grind.{common_steps}
use Rattle.uefi_text.specs.UnalignedCStr16.{with_prefix}
use Rattle.uefi_text.specs.Units.{nul_terminated}
use Rattle.uefi_text.specs.UnitTexts.{places_needed, written_len}

-- a text that has room with its NUL
pub len_fits : (text buffer : List ℕ) → length text < length buffer → Ok (length text) ≡ written_len text buffer
len_fits text buffer room = rw (lt-ltb (length text) (length buffer) room) refl

pub text_fits : (text buffer : List ℕ) → length text < length buffer
    → nul_terminated text ++ drop (length text + 1) buffer ≡ with_prefix (nul_terminated text) buffer
text_fits text buffer room =
    let all = length-append text (0 ∷ []) in
    rw (le-ltb (length buffer) (length (nul_terminated text)) (omega (arith, all, room)))
    (ap (λ n. nul_terminated text ++ drop n buffer) (sym all))

-- a NUL after a text that a buffer begins with
pub text_ended : (text buffer : List ℕ) → length text < length buffer
    → set (text ++ drop (length text) buffer) (length text) 0 ≡ with_prefix (nul_terminated text) buffer
text_ended text buffer room =
    let n = length text in
    let cut : drop n buffer ≡ get_or buffer n 0 ∷ drop (n + 1) buffer = rw (add-one, drop-cons buffer n 0) refl in
    ap (λ us. set (text ++ us) n 0) cut
    ∙ set-append_seam text (get_or buffer n 0) (drop (n + 1) buffer) 0
    ∙ sym (append_assoc text (0 ∷ []) (drop (n + 1) buffer))
    ∙ text_fits text buffer room

-- a text that has none
pub len_short : (text buffer : List ℕ) (needed : ℕ) → length buffer ≤ length text → needed ≡ places_needed text
    → Err (record { 0 = needed }) ≡ written_len text buffer
len_short text buffer needed full is =
    rw (is, le-ltb (length text) (length buffer) full) refl

pub text_short : (text buffer : List ℕ) → length buffer ≤ length text → buffer ≡ with_prefix (nul_terminated text) buffer
text_short text buffer full =
    let all = length-append text (0 ∷ []) in
    rw (lt-ltb (length buffer) (length (nul_terminated text)) (omega (arith, all, full))) refl

-- the same by a count of the text, as far as a `usize` counts
pub counted_fits : (text buffer : List ℕ) (len : ℕ) → len ≡ min (length text) (2 ^ 64 - 1) → len < length buffer
    → length buffer < 2 ^ 64 → len ≡ length text
counted_fits text buffer len count room bound = grind (arith, common_steps)

pub counted_short : (text buffer : List ℕ) (len : ℕ) → len ≡ min (length text) (2 ^ 64 - 1) → length buffer ≤ len
    → (length buffer ≤ length text) × (min (len + 1) (2 ^ 64 - 1) ≡ places_needed text)
counted_short text buffer len count full = (grind (arith, common_steps), grind (arith, common_steps))

-- so what is returned by that count, and a buffer that is unchanged
pub counted_len : (text buffer : List ℕ) (len : ℕ) → len ≡ min (length text) (2 ^ 64 - 1) → len < length buffer
    → length buffer < 2 ^ 64 → Ok len ≡ written_len text buffer
counted_len text buffer len count room bound =
    let all = counted_fits text buffer len count room bound in
    ap Ok all ∙ len_fits text buffer (rw (sym all) room)

pub counted_needed : (text buffer : List ℕ) (len needed : ℕ) → len ≡ min (length text) (2 ^ 64 - 1) → length buffer ≤ len
    → needed ≡ min (len + 1) (2 ^ 64 - 1) → Err (record { 0 = needed }) ≡ written_len text buffer
counted_needed text buffer len needed count full is =
    let short = counted_short text buffer len count full in len_short text buffer needed short.0 (is ∙ short.1)

pub counted_unchanged : (text buffer : List ℕ) (len : ℕ) → len ≡ min (length text) (2 ^ 64 - 1) → length buffer ≤ len
    → buffer ≡ with_prefix (nul_terminated text) buffer
counted_unchanged text buffer len count full = text_short text buffer (counted_short text buffer len count full).0
