-- Texts as UTF-16, written into the prefix of a buffer.
use Rattle.std.proofs.Common.{◌≡◌, ◌∙◌, ap, sym, refl, ℕ, ◌+◌, ◌<◌, ◌≤◌, if◌then◌else◌, Bool, not, List, [], ◌∷◌, ◌++◌, append_assoc, length, take, drop, get_or, set, suc, Option, Some, None, arith, inl, inr}
use Rattle.std.specs.Char.Escape.{encode_utf16}
use Rattle.std.specs.List.{position, position_or_len, find, range_with_len}
use Rattle.std.specs.Option.{option_or}
use Rattle.std.specs.Simd.Lanes.{pick_l}
use Rattle.std.proofs.lemmas.Grind.{common_steps, elements, flat_map-append}
use Rattle.std.proofs.lemmas.List.{drop-drop, drop_at, flat_map_more, length-append, length-drop, set_split, take_all, take_at}
use Rattle.std.proofs.lemmas.List.Folds.{find_at, position_or_len_push}
use Rattle.std.proofs.lemmas.List.Quantifiers.{position-Some}
use Rattle.std.proofs.lemmas.List.Sums.{prefix_len-le-length}
use Rattle.std.proofs.lemmas.Option.{slice_get-get_or, slice_get_past}
use Rattle.std.proofs.lemmas.Simd.{pick_l-range_with_len}
use Rattle.std.proofs.lemmas.Bool.{cases_lt, lt-ltb}
use Rattle.std.proofs.Math.Seq.{get_or-append_seam, take-append_seam}
use Rattle.uefi_text.proofs.UnitBytes.{set_two}
use Rattle.uefi_text.specs.FromStr.{is_deciding_char}
use Rattle.uefi_text.specs.FromStrWithBuf.{from_str_with_buf_refusal_at, refusal_of_char_at, from_str_with_buf_refusal, utf16, with_units, with_text}
use Rattle.uefi_text.specs.Units.{nul_terminated}
use Rattle.uefi_text.specs.declared.errors.FromStrWithBufError.TheVariants.{BufferTooSmall}

-- units, one by one
each_place : (n : ℕ) (us : List ℕ) → length us ≡ n → us ≡ pick_l 0 us (range_with_len 0 n)
each_place n us e = sym (pick_l-range_with_len 0 us 0 n (omega (arith, e)) ∙ take_all n us (omega (arith, e)))

-- units that have room, and then more units after them
with_units-after : (old units more : List ℕ) → length units ≤ length old
    → with_units (units ++ more) old ≡ units ++ with_units more (drop (length units) old)
with_units-after old [] more room = refl
with_units-after [] (u ∷ us) more room = absurd (omega (arith, room))
with_units-after (o ∷ os) (u ∷ us) more room = ap (λ vs. u ∷ vs) (with_units-after os us more (omega (arith, room)))

-- units that have room stand before what stays
with_units-prefix : (old units : List ℕ) → length units ≤ length old → with_units units old ≡ units ++ drop (length units) old
with_units-prefix old units room = grind (arith, common_steps)

pub length-with_units : (units old : List ℕ) → length (with_units units old) ≡ length old
length-with_units units old = grind (arith, common_steps)

-- one character more has its units more
pub length-utf16-push : (front : List ℕ) (c len more : ℕ) → len ≡ length (utf16 front)
    → more ≡ length (encode_utf16 c) → len + more ≡ length (utf16 (front ++ c ∷ []))
length-utf16-push front c len more count is =
    let all = ap length (flat_map_more encode_utf16 [] front c) in
    omega (arith, sym (length-append (utf16 front) (encode_utf16 c)) ∙ all)

-- a character written after others that left a place, as one with them
pub with_units-char : (old buffer new front : List ℕ) (c len : ℕ)
    → len ≡ length (utf16 front) → len < length buffer → buffer ≡ with_units (utf16 front) old
    → new ≡ take len buffer ++ with_units (encode_utf16 c) (drop len buffer)
    → new ≡ with_units (utf16 (front ++ c ∷ [])) old
with_units-char old buffer new front c len count place so_far is =
    let units = utf16 front in
    let rest = drop (length units) old in
    let same_length : length buffer ≡ length old = ap length so_far ∙ length-with_units units old in
    let room : length units ≤ length old = omega arith in
    let split : buffer ≡ units ++ rest = so_far ∙ with_units-prefix old units room in
    let before : take len buffer ≡ units = ap (take len) split ∙ take_at units rest len (sym count) in
    let after : drop len buffer ≡ rest = ap (drop len) split ∙ drop_at units rest len (sym count) in
    let written : new ≡ units ++ with_units (encode_utf16 c) rest = is ∙ rw (before, after) refl in
    let all = with_units-after old units (encode_utf16 c) room in
    let more = flat_map_more encode_utf16 [] front c in
    cc

-- a full buffer takes no more units
with_units-full : (old units more : List ℕ) → length old ≤ length units → with_units units old ≡ with_units (units ++ more) old
with_units-full old units more full = grind (arith, elements)

-- the one unit of a character, written at a place
pub with_units-one : (units buffer : List ℕ) (place : ℕ) → length units ≡ 1 → place < length buffer
    → set buffer place (get_or units 0 0) ≡ take place buffer ++ with_units units (drop place buffer)
with_units-one units buffer place one inside =
    let next : place + length units ≡ suc place = omega arith in
    let after = drop-drop (length units) place buffer ∙ ap (λ n. drop n buffer) next in
    let rest = with_units-prefix (drop place buffer) units (omega (arith, length-drop place buffer)) ∙ (λ i. each_place 1 units one i ++ after i) in
    set_split buffer place (get_or units 0 0) inside ∙ ap (λ us. take place buffer ++ us) (sym rest)

-- the first of two, written at the last place
pub with_units-first : (units buffer : List ℕ) (place : ℕ) → length units ≡ 2 → place + 1 ≡ length buffer
    → set buffer place (get_or units 0 0) ≡ take place buffer ++ with_units units (drop place buffer)
with_units-first units buffer place two last =
    with_units-one (get_or units 0 0 ∷ []) buffer place refl (omega arith)
    ∙ ap (λ us. take place buffer ++ us) (with_units-full (drop place buffer) (get_or units 0 0 ∷ []) (get_or units 1 0 ∷ []) (omega (arith, length-drop place buffer)))
    ∙ ap (λ us. take place buffer ++ with_units us (drop place buffer)) (sym (each_place 2 units two))

-- both, written at a place and the next
pub with_units-two : (units buffer : List ℕ) (place : ℕ) → length units ≡ 2 → place + 1 < length buffer
    → set (set buffer place (get_or units 0 0)) (place + 1) (get_or units 1 0)
    ≡ take place buffer ++ with_units units (drop place buffer)
with_units-two units buffer place two inside =
    let next : place + 1 ≡ suc place = omega arith in
    let end : place + length units ≡ suc (suc place) = omega arith in
    let after = drop-drop (length units) place buffer ∙ ap (λ n. drop n buffer) end in
    let rest = with_units-prefix (drop place buffer) units (omega (arith, length-drop place buffer)) ∙ (λ i. each_place 2 units two i ++ after i) in
    rw next (set_two buffer place _ _ inside ∙ ap (λ us. take place buffer ++ us) (sym rest))

-- units that leave a place, and a NUL after them
with_units-nul : (old units : List ℕ) → length units < length old
    → set (with_units units old) (length units) 0 ≡ with_units (nul_terminated units) old
with_units-nul old units room = grind (arith, elements)

-- a buffer that characters fill is too small for them and what follows
pub non_empty : (old front rest : List ℕ) → length old ≤ length (utf16 front)
    → (with_units (utf16 front) old ≡ with_text (front ++ rest) old) × (Some BufferTooSmall ≡ from_str_with_buf_refusal (front ++ rest) (length old))
non_empty old front rest full =
    let more : utf16 (front ++ rest) ≡ utf16 front ++ utf16 rest = flat_map-append encode_utf16 front rest in
    let all : with_text (front ++ rest) old ≡ with_units (utf16 front ++ nul_terminated (utf16 rest)) old =
    ap (λ units. with_units (nul_terminated units) old) more
    ∙ ap (λ units. with_units units old) (append_assoc (utf16 front) (utf16 rest) (0 ∷ [])) in
    (with_units-full old (utf16 front) (nul_terminated (utf16 rest)) full ∙ sym all, grind (arith, common_steps))

-- of characters of which none decides each is one unit
pub utf16-undecided : (cs : List ℕ) → find is_deciding_char cs ≡ None → utf16 cs ≡ cs
utf16-undecided [] none = refl
utf16-undecided (c ∷ cs) none =
    let rest : find is_deciding_char cs ≡ None = grind (arith, common_steps) in
    let others = utf16-undecided cs rest in
    grind (arith, common_steps)

-- where no place is found, no element is
find-nowhere : (p : ℕ → Bool) (xs : List ℕ) → position p xs ≡ None → find p xs ≡ None
find-nowhere p xs none =
    let past : length xs ≤ position_or_len p xs = grind (arith, common_steps) in
    find_at p xs ∙ slice_get_past xs (position_or_len p xs) past

-- and the other way round
position-none : (p : ℕ → Bool) (xs : List ℕ) → find p xs ≡ None → position p xs ≡ None
position-none p xs none =
    elim (cases_lt (position_or_len p xs) (length xs)) [
      | inl found ↦
          let some : find p xs ≡ Some (get_or xs (position_or_len p xs) 0) = find_at p xs ∙ slice_get-get_or xs (position_or_len p xs) 0 found in
          absurd (grind (arith, common_steps))
      | inr past ↦ grind (arith, common_steps)
    ]

-- one more character decides where none before it did
pub refusal-push : (cs : List ℕ) (c len : ℕ) → len ≡ length (utf16 cs)
    → from_str_with_buf_refusal_at (cs ++ c ∷ []) (position is_deciding_char (cs ++ c ∷ []))
    ≡ option_or (from_str_with_buf_refusal_at cs (position is_deciding_char cs))
    (if is_deciding_char c then Some (refusal_of_char_at c len) else None)
refusal-push cs c len count = go (position is_deciding_char cs) refl
  where
    go : (o : Option ℕ) → position is_deciding_char cs ≡ o
        → from_str_with_buf_refusal_at (cs ++ c ∷ []) (position is_deciding_char (cs ++ c ∷ []))
        ≡ option_or (from_str_with_buf_refusal_at cs (position is_deciding_char cs))
        (if is_deciding_char c then Some (refusal_of_char_at c len) else None)
    go None e =
        let same = utf16-undecided cs (find-nowhere is_deciding_char cs e) in
        let n : len ≡ length cs = count ∙ ap length same in
        let within = prefix_len-le-length (λ x. not (is_deciding_char x)) cs in
        let pushed = position_or_len_push is_deciding_char cs c in
        let here = get_or-append_seam cs c [] 0 in
        grind (arith, common_steps)
    go (Some i) e =
        let found = position-Some is_deciding_char cs i 0 e in
        let pushed = position_or_len_push is_deciding_char cs c in
        grind (arith, common_steps)

-- characters that leave a place for their NUL are refused for what they are alone
pub ended : (old buffer cs : List ℕ) (len : ℕ) → len ≡ length (utf16 cs) → len < length buffer
    → buffer ≡ with_units (utf16 cs) old
    → (set buffer len 0 ≡ with_text cs old) × (from_str_with_buf_refusal cs (length old) ≡ from_str_with_buf_refusal_at cs (position is_deciding_char cs))
ended old buffer cs len count place so_far =
    let same_length : length buffer ≡ length old = ap length so_far ∙ length-with_units (utf16 cs) old in
    let room : length (utf16 cs) < length old = omega arith in
    let nul = with_units-nul old (utf16 cs) room in
    (cc, grind (arith, common_steps))

-- where none is refused, each is one unit
pub unrefused : (cs : List ℕ) → from_str_with_buf_refusal_at cs (position is_deciding_char cs) ≡ None
    → (find is_deciding_char cs ≡ None) × (utf16 cs ≡ cs)
unrefused cs accepted = go (position is_deciding_char cs) refl accepted
  where
    go : (o : Option ℕ) → position is_deciding_char cs ≡ o → from_str_with_buf_refusal_at cs o ≡ None
        → (find is_deciding_char cs ≡ None) × (utf16 cs ≡ cs)
    go None e a = let none = find-nowhere is_deciding_char cs e in (none, utf16-undecided cs none)
    go (Some i) e a = cc

-- and where such characters leave a place, they and a NUL are written before what stays
pub undecided : (old cs : List ℕ) → find is_deciding_char cs ≡ None → length cs < length old
    → (nul_terminated cs ++ drop (length cs + 1) old ≡ with_text cs old) × (None ≡ from_str_with_buf_refusal cs (length old))
undecided old cs none place =
    let units = utf16-undecided cs none in
    let nul : length (nul_terminated cs) ≡ length cs + 1 = length-append cs (0 ∷ []) in
    let written : with_text cs old ≡ nul_terminated cs ++ drop (length (nul_terminated cs)) old =
    ap (λ us. with_units (nul_terminated us) old) units ∙ with_units-prefix old (nul_terminated cs) (omega arith) in
    let nowhere : position is_deciding_char cs ≡ None = position-none is_deciding_char cs none in
    (rw (written, nul) refl, rw (units, lt-ltb (length cs) (length old) place, nowhere) refl)

-- characters of which none is refused, written before what stays, are what was read so far
pub front_written : (old buffer cs : List ℕ) (len : ℕ) → find is_deciding_char cs ≡ None → len ≡ length cs → len < length buffer
    → buffer ≡ cs ++ drop len old
    → (len ≡ length (utf16 cs)) × (buffer ≡ with_units (utf16 cs) old) × (None ≡ from_str_with_buf_refusal_at cs (position is_deciding_char cs))
front_written old buffer cs len none count place so_far =
    let units = utf16-undecided cs none in
    let room : length cs ≤ length old = omega (arith, count, place, ap length so_far ∙ length-append cs (drop len old), length-drop len old) in
    let nowhere : position is_deciding_char cs ≡ None = position-none is_deciding_char cs none in (
      count ∙ ap length (sym units),
      so_far ∙ ap (λ n. cs ++ drop n old) count ∙ sym (with_units-prefix old cs room) ∙ ap (λ us. with_units us old) (sym units),
      rw nowhere refl,
    )

-- where a buffer was large enough too, its prefix is the characters and a NUL
pub accepted : (old cs : List ℕ) → from_str_with_buf_refusal cs (length old) ≡ None
    → (find is_deciding_char cs ≡ None) × (take (length cs + 1) (with_text cs old) ≡ nul_terminated cs)
accepted old cs none =
    let room : length (utf16 cs) < length old = grind (arith, common_steps) in
    let units = unrefused cs (grind (arith, common_steps)) in
    let places : length cs < length old = grind (arith, common_steps) in
    let nul : length (nul_terminated cs) ≡ length cs + 1 = length-append cs (0 ∷ []) in
    let front : with_text cs old ≡ nul_terminated cs ++ drop (length (nul_terminated cs)) old =
    ap (λ us. with_units (nul_terminated us) old) units.1 ∙ with_units-prefix old (nul_terminated cs) (omega arith) in
    (units.0, rw (front, ← nul) (take-append_seam (nul_terminated cs) _))
