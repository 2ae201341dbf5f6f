-- Code units as bytes, two for each, and back.
use Rattle.std.proofs.Common.{◌≡◌, ℕ, zero, suc, ◌+◌, ◌-◌, ◌*◌, ◌/◌, ◌%◌, ◌<◌, ◌^◌, ◌∙◌, ap, subst, sym, refl, true, All, List, [], ◌∷◌, ◌++◌, length, take, drop, get_or, set, append_assoc, None, inl, inr, arith}
use Rattle.std.proofs.lemmas.Bool.{cases_Bool}
use Rattle.std.proofs.lemmas.List.{append-nil, drop-drop, length-append, length-drop, length-take-le, take_more}
use Rattle.std.proofs.lemmas.List.Elements.{All-head, All-nil, All-tail}
use Rattle.std.proofs.Math.Seq.{drop-append_seam}
use Rattle.std.proofs.lemmas.Grind.{common_steps}
use Rattle.uefi_text.proofs.Deciding.{IsString-accepted, with_nul_refusal-IsString}
use Rattle.uefi_text.proofs.Texts.{IsString-nul_terminated, without_nul-nul_terminated}
use Rattle.uefi_text.specs.FromSliceWithNul.{with_nul_refusal}
use Rattle.uefi_text.specs.Packed.{IsByte, packed_items}
use Rattle.uefi_text.specs.UnitBytes.{BytesEncode, ends_in_nul, unit_bytes, unit_bytes_refusal, units_of_bytes}
use Rattle.uefi_text.specs.Units.{IsText, nul_terminated, without_nul}

pub length-unit_bytes : (us : List ℕ) → length (unit_bytes us) ≡ 2 * length us
length-unit_bytes [] = refl
length-unit_bytes (u ∷ us) = omega (arith, length-unit_bytes us)

pub unit_bytes-append : (us vs : List ℕ) → unit_bytes (us ++ vs) ≡ unit_bytes us ++ unit_bytes vs
unit_bytes-append [] vs = refl
unit_bytes-append (u ∷ us) vs = ap (λ (bs : List ℕ). u % 256 ∷ u / 256 ∷ bs) (unit_bytes-append us vs)

-- two places written one after the other
pub set_two : (bs : List ℕ) (n a b : ℕ) → n + 1 < length bs → set (set bs n a) (suc n) b ≡ take n bs ++ a ∷ b ∷ drop (suc (suc n)) bs
set_two [] n a b inside = absurd (omega (arith, inside))
set_two (x ∷ []) zero a b inside = absurd (omega (arith, inside))
set_two (x ∷ y ∷ bs) zero a b inside = refl
set_two (x ∷ bs) (suc n) a b inside = ap (λ (l : List ℕ). x ∷ l) (set_two bs n a b (omega (arith, inside)))

-- lists that are the same from a place on are so two places after it
after_two : (xs ys : List ℕ) (n a b : ℕ) → a ≡ n + 2 → b ≡ n + 2 → drop n xs ≡ drop n ys → drop a xs ≡ drop b ys
after_two xs ys n a b ea eb e = rw (ea, eb, ← drop-drop 2 n xs, ← drop-drop 2 n ys) (ap (drop 2) e)

-- one unit more is written
pub split_more : (us old bytes : List ℕ) (i : ℕ) → i < length us → length old ≡ 2 * length us
    → bytes ≡ unit_bytes (take i us) ++ drop (2 * i) old
    → set (set bytes (2 * i) (get_or us i 0 % 256)) (2 * i + 1) (get_or us i 0 / 256) ≡ unit_bytes (take (i + 1) us) ++ drop (2 * (i + 1)) old
split_more us old bytes i inside long so_far =
    let done = unit_bytes (take i us) in
    let n : length done ≡ 2 * i = omega (arith, length-unit_bytes (take i us), length-take-le i us (omega arith)) in
    let len : length bytes ≡ length old = omega (arith, ap length so_far, length-append done (drop (2 * i) old), length-drop (2 * i) old) in
    let front : take (2 * i) bytes ≡ done = grind (arith, common_steps) in
    let next : 2 * i + 1 ≡ suc (2 * i) = omega arith in
    let rest : drop (2 * i) bytes ≡ drop (2 * i) old = grind (arith, common_steps) in
    let behind : drop (suc (suc (2 * i))) bytes ≡ drop (2 * (i + 1)) old =
    after_two bytes old (2 * i) (suc (suc (2 * i))) (2 * (i + 1)) (omega arith) (omega arith) rest in
    let more = ap unit_bytes (take_more us i 0 inside) ∙ unit_bytes-append (take i us) (get_or us i 0 ∷ []) in
    rw next (set_two bytes (2 * i) _ _ (omega arith) ∙ rw (front, behind, more, append_assoc) refl)

-- bytes, even in number, are those of their units
unit_bytes-items : (count : ℕ) (bs : List ℕ) → length bs ≡ 2 * count → All IsByte bs → unit_bytes (packed_items 2 count bs) ≡ bs
unit_bytes-items zero [] long are_bytes = refl
unit_bytes-items zero (b ∷ bs) long are_bytes = absurd (omega (arith, long))
unit_bytes-items (suc count) [] long are_bytes = absurd (omega (arith, long))
unit_bytes-items (suc count) (b ∷ []) long are_bytes = absurd (omega (arith, long))
unit_bytes-items (suc count) (b ∷ c ∷ bs) long are_bytes =
    let low : b < 256 = All-head IsByte b (c ∷ bs) are_bytes in
    let others = All-tail IsByte b (c ∷ bs) are_bytes in
    let high : c < 256 = All-head IsByte c bs others in
    let first : (b + 256 * (c + 256 * 0)) % 256 ≡ b = omega arith in
    let second : (b + 256 * (c + 256 * 0)) / 256 ≡ c = omega arith in
    let rest = unit_bytes-items count bs (omega (arith, long)) (All-tail IsByte c bs others) in
    rw (first, second, rest) refl

pub unit_bytes-units_of_bytes : (bs : List ℕ) → length bs % 2 ≡ 0 → All IsByte bs → unit_bytes (units_of_bytes bs) ≡ bs
unit_bytes-units_of_bytes bs even = unit_bytes-items (length bs / 2) bs (omega (arith, even))

-- units that lie at the front of bytes, and those of the bytes of units
pub units_front : (us x : List ℕ) → units_of_bytes (unit_bytes us ++ x) ≡ us ++ units_of_bytes x
units_front [] x = refl
units_front (u ∷ us) x =
    let count : length (unit_bytes (u ∷ us) ++ x) / 2 ≡ suc (length (unit_bytes us ++ x) / 2) = omega arith in
    let first : u % 256 + 256 * (u / 256 + 256 * 0) ≡ u = omega arith in
    ap (λ n. packed_items 2 n (unit_bytes (u ∷ us) ++ x)) count
    ∙ ap (λ v. v ∷ units_of_bytes (unit_bytes us ++ x)) first ∙ ap (λ vs. u ∷ vs) (units_front us x)

pub units_of_bytes-unit_bytes : (us : List ℕ) → units_of_bytes (unit_bytes us) ≡ us
units_of_bytes-unit_bytes us = ap units_of_bytes (sym (append-nil (unit_bytes us))) ∙ units_front us [] ∙ append-nil us

units_of_bytes-encoded : (bytes text : List ℕ) → BytesEncode bytes text → units_of_bytes bytes ≡ nul_terminated text
units_of_bytes-encoded bytes text spells = ap units_of_bytes spells.1 ∙ units_of_bytes-unit_bytes (nul_terminated text)

-- no bytes encode two texts
pub encoded_apart : (bytes first second : List ℕ) → BytesEncode bytes first → BytesEncode bytes second → first ≡ second
encoded_apart bytes first second spells_first spells_second =
    let same : nul_terminated first ≡ nul_terminated second =
    sym (units_of_bytes-encoded bytes first spells_first) ∙ units_of_bytes-encoded bytes second spells_second in
    sym (without_nul-nul_terminated first) ∙ ap without_nul same ∙ without_nul-nul_terminated second

ends_in_nul-encoded : (text : List ℕ) → ends_in_nul (unit_bytes (nul_terminated text)) ≡ true
ends_in_nul-encoded text =
    let front = unit_bytes text in
    let ended : unit_bytes (nul_terminated text) ≡ front ++ 0 ∷ 0 ∷ [] = unit_bytes-append text (0 ∷ []) in
    let even : length (front ++ 0 ∷ 0 ∷ []) % 2 ≡ 0 = omega (arith, length-append front (0 ∷ 0 ∷ []), length-unit_bytes text) in
    let start : length (front ++ 0 ∷ 0 ∷ []) - 2 ≡ length front = omega (arith, length-append front (0 ∷ 0 ∷ [])) in
    rw (ended, even, start, drop-append_seam front (0 ∷ 0 ∷ [])) refl

-- bytes that encode a text are accepted
pub encoded_accepted : (bytes text : List ℕ) → BytesEncode bytes text → unit_bytes_refusal bytes ≡ None
encoded_accepted bytes text spells =
    let ended : ends_in_nul bytes ≡ true = ap ends_in_nul spells.1 ∙ ends_in_nul-encoded text in
    let accepted = with_nul_refusal-IsString (nul_terminated text) (IsString-nul_terminated text spells.0) in
    rw (ended, units_of_bytes-encoded bytes text spells) accepted

-- units of two bytes are code units
pub small_items : (count : ℕ) (bs : List ℕ) → All IsByte bs → (k : ℕ) → get_or (packed_items 2 count bs) k 0 < 2 ^ 16
small_items zero bs are_bytes k = omega arith
small_items (suc count) [] are_bytes zero = omega arith
small_items (suc count) (b ∷ []) are_bytes zero =
    let low : b < 256 = All-head IsByte b [] are_bytes in omega arith
small_items (suc count) (b ∷ c ∷ bs) are_bytes zero =
    let low : b < 256 = All-head IsByte b (c ∷ bs) are_bytes in
    let high : c < 256 = All-head IsByte c bs (All-tail IsByte b (c ∷ bs) are_bytes) in
    omega arith
small_items (suc count) [] are_bytes (suc k) = small_items count [] are_bytes k
small_items (suc count) (b ∷ []) are_bytes (suc k) = small_items count [] (All-nil IsByte) k
small_items (suc count) (b ∷ c ∷ bs) are_bytes (suc k) = small_items count bs (All-tail IsByte c bs (All-tail IsByte b (c ∷ bs) are_bytes)) k

-- bytes whose units are a text and a NUL encode it
pub units_encode : (bytes text : List ℕ) → All IsByte bytes → length bytes % 2 ≡ 0
    → with_nul_refusal (units_of_bytes bytes) ≡ None → nul_terminated text ≡ units_of_bytes bytes
    → BytesEncode bytes text
units_encode bytes text are_bytes even accepted e =
    let string = IsString-accepted (units_of_bytes bytes) (small_items (length bytes / 2) bytes are_bytes) accepted in
    let same : without_nul (units_of_bytes bytes) ≡ text = ap without_nul (sym e) ∙ without_nul-nul_terminated text in
    (subst IsText same string.1, sym (unit_bytes-units_of_bytes bytes even are_bytes) ∙ ap unit_bytes (sym e))

-- and where they are not refused they are one
pub units_text : (bytes : List ℕ) → All IsByte bytes → length bytes % 2 ≡ 0
    → with_nul_refusal (units_of_bytes bytes) ≡ None → (text : List ℕ) × BytesEncode bytes text
units_text bytes are_bytes even accepted =
    let string = IsString-accepted (units_of_bytes bytes) (small_items (length bytes / 2) bytes are_bytes) accepted in
    (without_nul (units_of_bytes bytes), units_encode bytes (without_nul (units_of_bytes bytes)) are_bytes even accepted (sym string.0))

-- bytes that are accepted encode a text
pub accepted_encodes : (bytes : List ℕ) → All IsByte bytes → unit_bytes_refusal bytes ≡ None → (text : List ℕ) × BytesEncode bytes text
accepted_encodes bytes are_bytes accepted =
    elim (cases_Bool (ends_in_nul bytes)) [
      | inl ended ↦
          let even : length bytes % 2 ≡ 0 = grind (arith, common_steps) in
          units_text bytes are_bytes even (rw ended at accepted)
      | inr other ↦ absurd (grind (arith, common_steps))
    ]
