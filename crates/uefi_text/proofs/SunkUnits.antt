-- The units of a text that is read character by character, and written part by part.
use Rattle.std.proofs.Common.{inl, inr, refl, suc, map, min, replicate, ◌≡◌, ℕ, ◌+◌, ◌-◌, ◌/◌, ◌%◌, ◌<◌, ◌≤◌, ◌^◌, set, take, drop, get_or, List, [], ◌∷◌, ◌++◌, length, append_assoc, length-append, ap, sym, subst, ◌∙◌, arith}
use Rattle.std.proofs.lemmas.Grind.{common_steps, flat_map-append}
use Rattle.std.proofs.Math.Seq.{take-append-add}
use Rattle.std.proofs.lemmas.Bool.{cases_lt, lt-ltb}
use Rattle.std.proofs.lemmas.List.{append-nil, drop_all, drop_at, drop-drop, drop-replicate, length-replicate, map-append, take-append-drop, take-append-le, take_all, take_at, take_more, take_more_set}
use Rattle.std.proofs.lemmas.Str.{chars-append, chars-IsAscii, chars-nil, chars_past_char, IsUtf8-encode}
use Rattle.std.specs.Char.{IsScalar}
use Rattle.std.specs.Char.Escape.{encode_utf16}
use Rattle.std.specs.List.{flat_map}
use Rattle.std.specs.Prelude.{encode_utf8}
use Rattle.std.specs.Str.{chars, IsAscii, IsUtf8}
use Rattle.uefi_text.proofs.TextsInBuffers.{counted_fits, text_ended}
use Rattle.uefi_text.specs.UnalignedCStr16.{with_prefix}
use Rattle.uefi_text.specs.Units.{nul_terminated, replaced}
use Rattle.uefi_text.specs.UnitTexts.{AreSunk, utf16_units}

-- a character of two units
pub two_units : (units : List ℕ) (c : ℕ) → 0x1_0000 ≤ c
    → (units ++ (0xD800 + (c - 0x1_0000) / 0x400) ∷ []) ++ (0xDC00 + (c - 0x1_0000) % 0x400) ∷ [] ≡ units ++ encode_utf16 c
two_units units c high =
    let two : encode_utf16 c ≡ (0xD800 + (c - 0x1_0000) / 0x400) ∷ (0xDC00 + (c - 0x1_0000) % 0x400) ∷ [] = grind (arith, common_steps) in
    append_assoc units ((0xD800 + (c - 0x1_0000) / 0x400) ∷ []) ((0xDC00 + (c - 0x1_0000) % 0x400) ∷ []) ∙ ap (λ (us : List ℕ). units ++ us) (sym two)

-- the units of a part, and of those after it
pub units_join : (part rest : List ℕ) → IsUtf8 part → utf16_units part ++ utf16_units rest ≡ utf16_units (part ++ rest)
unfolding utf16_units
units_join part rest utf8 =
    sym (flat_map-append encode_utf16 (chars part) (chars rest)) ∙ ap (λ (cs : List ℕ). flat_map encode_utf16 cs) (sym (chars-append part rest utf8))

-- no text, after others
pub sunk_none : (units start buffer : List ℕ) (len : ℕ) → AreSunk units start buffer len → AreSunk (units ++ utf16_units []) start buffer len
unfolding utf16_units
sunk_none units start buffer len h =
    let none : flat_map encode_utf16 (chars []) ≡ [] = ap (λ (cs : List ℕ). flat_map encode_utf16 cs) chars-nil in
    subst (λ (us : List ℕ). AreSunk us start buffer len) (sym (append-nil units) ∙ ap (λ (us : List ℕ). units ++ us) (sym none)) h

-- a part, and those after it
pub sunk_both : (units part rest start buffer : List ℕ) (len : ℕ) → IsUtf8 part
    → AreSunk ((units ++ utf16_units part) ++ utf16_units rest) start buffer len → AreSunk (units ++ utf16_units (part ++ rest)) start buffer len
sunk_both units part rest start buffer len utf8 h =
    subst (λ (us : List ℕ). AreSunk us start buffer len)
    (append_assoc units (utf16_units part) (utf16_units rest) ∙ ap (λ (us : List ℕ). units ++ us) (units_join part rest utf8)) h

-- the units of one character
pub units_one : (c : ℕ) → IsScalar c → utf16_units (encode_utf8 c) ≡ encode_utf16 c
unfolding utf16_units
units_one c scalar =
    let one = chars_past_char (encode_utf8 c) [] c (IsUtf8-encode c scalar) (sym (append-nil (encode_utf8 c))) in
    ap (λ (cs : List ℕ). flat_map encode_utf16 cs) (one ∙ ap (λ (cs : List ℕ). c ∷ cs) chars-nil) ∙ append-nil (encode_utf16 c)

-- the units of ASCII
pub encoded_ascii : (text : List ℕ) → IsAscii text → flat_map encode_utf16 (chars text) ≡ text
encoded_ascii text ascii = ap (flat_map encode_utf16) (chars-IsAscii text ascii) ∙ each text ascii
  where
    each : (us : List ℕ) → IsAscii us → flat_map encode_utf16 us ≡ us
    each [] h = refl
    each (u ∷ us) h =
        let one : encode_utf16 u ≡ u ∷ [] = rw (lt-ltb u 0x1_0000 (omega (arith, h 0))) refl in
        (λ i. one i ++ each us (λ n. h (suc n)) i)

-- one unit more is copied, `replace` in place of `search`
pub replaced_more : (search replace : ℕ) (places us : List ℕ) (i : ℕ) → i < length places → i < length us
    → take i places ≡ map (replaced search replace) (take i us)
    → take (i + 1) (set places i (replaced search replace (get_or us i 0))) ≡ map (replaced search replace) (take (i + 1) us)
replaced_more search replace places us i room inside so_far =
    let u = replaced search replace (get_or us i 0) in
    take_more_set places i u room
    ∙ ap (λ vs. vs ++ u ∷ []) so_far
    ∙ sym (ap (map (replaced search replace)) (take_more us i 0 inside)
    ∙ map-append (replaced search replace) (take i us) (get_or us i 0 ∷ []))

-- the units of a part that have room, and what stands after it
part_cut : (part old : List ℕ) (count n : ℕ) → n ≤ length old → count ≡ min (length part) (length old - n)
    → take count part ++ drop (n + count) old ≡ take (length old - n) part ++ drop (n + length part) old
part_cut part old count n within is = grind (arith, common_steps)

-- as many of a part as have room, over what stands there
pub part_more : (units part old buffer : List ℕ) (len start end : ℕ) → AreSunk units old buffer len → length buffer < 2 ^ 64
    → start ≡ min len (length buffer) → end ≡ start + min (length part) (length buffer - start)
    → take start buffer ++ (take (end - start) part ++ drop (end - start) (drop start buffer))
    ≡ take (length old) (units ++ part) ++ drop (length (units ++ part)) old
part_more units part old buffer len start end sunk bound starts ends =
    let n = length units in
    let m = length old in
    let same : length buffer ≡ m = grind (arith, common_steps, sunk.written) in
    let all = length-append units part in
    let fits = end - start in
    elim (cases_lt n m) [
      | inl room ↦
          let at : n ≡ start = omega (arith, starts, sunk.count, same, bound, room) in
          let is : buffer ≡ units ++ drop n old = sunk.written ∙ ap (λ us. us ++ drop n old) (take_all m units (omega (arith, room))) in
          let size : m ≡ n + (m - n) = omega (arith, room) in
          let rest = drop (n + length part) old in
          ap (λ us. take start us ++ (take fits part ++ drop fits (drop start us))) is
          ∙ ap (λ us. us ++ (take fits part ++ drop fits (drop start (units ++ drop n old)))) (take_at units (drop n old) start at)
          ∙ ap (λ us. units ++ (take fits part ++ drop fits us)) (drop_at units (drop n old) start at)
          ∙ ap (λ us. units ++ (take fits part ++ us)) (drop-drop fits n old)
          ∙ ap (λ us. units ++ us) (part_cut part old fits n (omega (arith, room)) (omega (arith, ends, same, at)))
          ∙ sym (append_assoc units (take (m - n) part) rest)
          ∙ ap (λ us. us ++ rest) (sym (ap (λ k. take k (units ++ part)) size ∙ take-append-add units part (m - n)))
          ∙ ap (λ k. take m (units ++ part) ++ drop k old) (sym all)
      | inr full ↦
          let none : fits ≡ 0 = omega (arith, starts, ends, sunk.count, same, bound, full) in
          ap (λ k. take start buffer ++ (take k part ++ drop k (drop start buffer))) none
          ∙ take-append-drop start buffer ∙ sunk.written
          ∙ ap (λ us. us ++ drop n old) (sym (take-append-le m units part full))
          ∙ ap (λ us. take m (units ++ part) ++ us)
          (drop_all n old full ∙ sym (drop_all (length (units ++ part)) old (omega (arith, all, full))))
    ]

-- a NUL after units that were written, at the place where they were counted to end
pub sunk_and_ended : (units old new : List ℕ) (len end : ℕ) → AreSunk units old new end
    → len ≡ min (length units) (2 ^ 64 - 1) → len < length old → length old < 2 ^ 64
    → set new len 0 ≡ with_prefix (nul_terminated units) old
sunk_and_ended units old new len end sunk count room bound =
    let all : len ≡ length units = counted_fits units old len count room bound in
    let within : length units < length old = omega (arith, all, room) in
    ap (λ i. set new i 0) all
    ∙ ap (λ us. set us (length units) 0) (sunk.written ∙ ap (λ us. us ++ drop (length units) old) (take_all (length old) units (omega (arith, within))))
    ∙ text_ended units old within

-- units that have just the room
pub sunk_whole : (units old new : List ℕ) (len : ℕ) → AreSunk units old new len → length units ≡ length old → new ≡ units
sunk_whole units old new len sunk same =
    sunk.written
    ∙ ap (λ us. us ++ drop (length units) old) (take_all (length old) units (omega (arith, same)))
    ∙ ap (λ us. units ++ us) (drop_all (length units) old (omega (arith, same))) ∙ append-nil units

-- units over as many NULs and one more are a string
pub sunk_zeros : (units old new : List ℕ) (len end : ℕ) → AreSunk units old new end → old ≡ replicate (len + 1) 0
    → len ≡ length units → new ≡ nul_terminated units
sunk_zeros units old new len end sunk zeros long =
    let size : length old ≡ len + 1 = ap length zeros ∙ length-replicate (len + 1) 0 in
    let one : len + 1 - length units ≡ 1 = omega (arith, long) in
    let nul : drop (length units) old ≡ 0 ∷ [] =
    ap (drop (length units)) zeros ∙ drop-replicate (length units) (len + 1) 0 ∙ ap (λ n. replicate n 0) one in
    sunk.written
    ∙ ap (λ us. us ++ drop (length units) old) (take_all (length old) units (omega (arith, size, long)))
    ∙ ap (λ us. units ++ us) nul

-- the first units of a buffer were added to it already
pub sunk_prefix : (end : ℕ) (buffer : List ℕ) → end ≤ length buffer → length buffer < 2 ^ 64 → AreSunk (take end buffer) buffer buffer end
sunk_prefix end buffer within bound = record {
  count = grind (arith, common_steps);
  written = grind (arith, common_steps);
}

-- units are counted without a buffer too
pub sunk_nothing : (units old buffer : List ℕ) (len : ℕ) → AreSunk units old buffer len → AreSunk units [] [] len
sunk_nothing units old buffer len sunk = record { count = sunk.count; written = grind (arith, common_steps) }
