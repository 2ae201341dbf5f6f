-- Texts in UTF-16 as the bytes of their UTF-8.
use Rattle.std.proofs.Common.{◌≡◌, ◌≢◌, ℕ, zero, suc, ◌+◌, ◌-◌, ◌*◌, ◌/◌, ◌%◌, ◌<◌, ◌≤◌, Bool, true, false, true≢false, ◌||◌, cond, ltb, min, ◌&&◌, ◌⊎◌, inl, inr, List, [], ◌∷◌, ◌++◌, length, take, drop, slice_index, refl, ap, sym, subst, ◌∙◌, arith, append_assoc}
use Rattle.std.specs.Prelude.{Some, None, Option, Ok, Err, not, ◌==◌}
use Rattle.std.specs.Char.{len_utf8, IsScalar}
use Rattle.std.specs.Char.Escape.{encode_utf16}
use Rattle.std.specs.Char.Utf16.{is_high_surrogate, is_low_surrogate, lone_unit_char, surrogate_pair_char, utf16_chars, utf16_lossy_chars}
use Rattle.std.specs.Option.{unwrap_or}
use Rattle.std.specs.List.{All, flat_map, list_all, list_any, position_or_len}
use Rattle.std.specs.Str.{IsAscii, chars, encode_utf8_all, is_utf8}
use Rattle.std.proofs.Math.ListN.{drop_of_length-le}
use Rattle.std.proofs.Math.Seq.{drop-append_seam, drop-cons, take-length}
use Rattle.std.proofs.Math.Utf8.{low_scalar}
use Rattle.std.proofs.lemmas.Bool.{and_from, cases_lt, ltb-true, ne_eqb, or_parts}
use Rattle.std.proofs.lemmas.Bool.Decides.{nat_tests}
use Rattle.std.proofs.lemmas.List.{append-nil, flat_map_more, length-append, length-drop, take-append-drop}
use Rattle.std.proofs.lemmas.List.Elements.{All-cons, All-nil}
use Rattle.std.proofs.lemmas.List.Folds.{list_any-append}
use Rattle.std.proofs.lemmas.Str.{chars-nil, chars-IsAscii, encode_ascii, encodes-IsAscii, IsUtf8-from_ascii, encodes-append, chars_past_char, encode_same, IsCharBoundary-from_drop, IsUtf8-append, IsUtf8-encode, IsUtf8-from_is_utf8, IsUtf8-nil, IsUtf8-past_char, is_utf8-from_IsUtf8, length-encode, len_utf8_bounds}
use borrow.Author.Tests.{eq-eqb}
use lib.Utf8.{encode, encodes}
use Rattle.uefi_text.proofs.SunkUnits.{encoded_ascii}
use Rattle.uefi_text.proofs.Surrogates.{lone_first, pair_first}
use Rattle.uefi_text.specs.UnitBytes.{unit_bytes}
use Rattle.uefi_text.proofs.UnitBytes.{unit_bytes-append}
use Rattle.uefi_text.proofs.Utf8Bytes.{encode_utf8-four, encode_utf8-three, encode_utf8-two}
use Rattle.uefi_node_reader.specs.NamedFiles.{ends_name, is_after_node, is_name_char, name_bytes}
use Rattle.uefi_node_reader.specs.declared.utf16_texts.Utf16Text.{Utf16Text}
use Rattle.uefi_node_reader.specs.Utf16Texts.{utf8_from, chars_before, nul_padded, paired_chars, paired_len, utf16_read}

-- whether two units are the surrogates of one character
abbrev is_pair : ℕ → ℕ → Bool
is_pair u v = is_high_surrogate u && is_low_surrogate v

-- the character of two units, and the number of units that it has
module _ (u v c k : ℕ)
    (first : (units : List ℕ) (place : ℕ) → place < length units → slice_index units place ≡ u → slice_index units (place + 1) ≡ v
    → utf16_lossy_chars (drop place units) ≡ c ∷ utf16_lossy_chars (drop (place + k) units))
    (some : 0 < k)
    (within : (units : List ℕ) (place : ℕ) → place < length units → slice_index units (place + 1) ≡ v → place + k ≤ length units) where
  abbrev both : List ℕ
  both = u ∷ v ∷ []

  lossy_both : utf16_lossy_chars both ≡ c ∷ utf16_lossy_chars (drop k both)
  lossy_both =
      let same : 0 + k ≡ k = omega arith in
      first both 0 (omega arith) refl refl ∙ ap (λ (n : ℕ). c ∷ utf16_lossy_chars (drop n both)) same

  one_or_two : (k ≡ 1) ⊎ (k ≡ 2)
  one_or_two = elim (k_cases k refl) [ inl e ↦ inl e | inr e ↦ inr (let most = within both 0 (omega arith) refl in omega (arith, most, some, e)) ]
    where
      k_cases : (n : ℕ) → k ≡ n → (k ≡ 1) ⊎ (2 ≤ k)
      k_cases zero e = absurd (omega (arith, some, e))
      k_cases (suc zero) e = inl e
      k_cases (suc (suc n)) e = inr (omega (arith, e))

  not_one : surrogate_pair_char u v ∷ utf16_lossy_chars [] ≡ c ∷ utf16_lossy_chars (v ∷ []) → ⊥
  unfolding utf16_chars
  not_one e = absurd (omega (arith, ap length e))

  not_two : unwrap_or (lone_unit_char u) 0xFFFD ∷ utf16_lossy_chars (v ∷ []) ≡ c ∷ utf16_lossy_chars [] → ⊥
  unfolding utf16_chars
  not_two e = absurd (omega (arith, ap length e))

  is_of_pair : is_pair u v ≡ true → (c ≡ surrogate_pair_char u v) × (k ≡ 2)
  is_of_pair h =
      let e : surrogate_pair_char u v ∷ utf16_lossy_chars [] ≡ c ∷ utf16_lossy_chars (drop k both) = sym (pair_first u v [] h) ∙ lossy_both in
      elim one_or_two [
        | inl one ↦ absurd (not_one (e ∙ ap (λ (n : ℕ). c ∷ utf16_lossy_chars (drop n both)) one))
        | inr two ↦ (let same : c ≡ surrogate_pair_char u v = cc in same, two)
      ]

  is_of_one : is_pair u v ≡ false → (c ≡ unwrap_or (lone_unit_char u) 0xFFFD) × (k ≡ 1)
  is_of_one h =
      let e : unwrap_or (lone_unit_char u) 0xFFFD ∷ utf16_lossy_chars (v ∷ []) ≡ c ∷ utf16_lossy_chars (drop k both) = sym (lone_first u (v ∷ []) h) ∙ lossy_both in
      elim one_or_two [
        | inl one ↦ (let same : c ≡ unwrap_or (lone_unit_char u) 0xFFFD = cc in same, one)
        | inr two ↦ absurd (not_two (e ∙ ap (λ (n : ℕ). c ∷ utf16_lossy_chars (drop n both)) two))
      ]

-- the first character of units, or none
chars_lone : (u : ℕ) (us : List ℕ) → is_pair u (slice_index us 0) ≡ false → utf16_chars (u ∷ us) ≡ lone_unit_char u ∷ utf16_chars us
unfolding utf16_chars
chars_lone u [] h = refl
chars_lone u (v ∷ us) h = rw h refl

chars_pair : (u v : ℕ) (us : List ℕ) → is_pair u v ≡ true → utf16_chars (u ∷ v ∷ us) ≡ Some (surrogate_pair_char u v) ∷ utf16_chars us
unfolding utf16_chars
chars_pair u v us h = rw h refl

-- units begin with those of the character c
abbrev pub Encodes : List ℕ → ℕ → List ℕ → Type 0
Encodes units c rest = (paired_chars units ≡ c ∷ paired_chars rest) × (units ≡ encode_utf16 c ++ rest)

pub one_encodes : (u : ℕ) (us : List ℕ) → IsScalar u → u < 0x1_0000 → Encodes (u ∷ us) u us
one_encodes u us scalar small =
    let alone : is_pair u (slice_index us 0) ≡ false = grind (arith, nat_tests, scalar) in
    let is : lone_unit_char u ≡ Some u = grind (arith, nat_tests, scalar) in
    let units : encode_utf16 u ≡ u ∷ [] = grind (arith, nat_tests, small) in (
      ap chars_before (chars_lone u us alone ∙ ap (λ (o : Option ℕ). o ∷ utf16_chars us) is),
      ap (λ (l : List ℕ). l ++ us) (sym units),
    )

-- what is said of two units
abbrev pub PairSaid : ℕ → ℕ → ℕ → ℕ → Type 0
PairSaid u v c k = (is_pair u v ≡ true → (c ≡ surrogate_pair_char u v) × (k ≡ 2))
    × (is_pair u v ≡ false → (c ≡ unwrap_or (lone_unit_char u) 0xFFFD) × (k ≡ 1))

pub pair_said : (u v c k : ℕ)
    → ((units : List ℕ) (place : ℕ) → place < length units → slice_index units place ≡ u → slice_index units (place + 1) ≡ v
    → utf16_lossy_chars (drop place units) ≡ c ∷ utf16_lossy_chars (drop (place + k) units))
    → 0 < k → ((units : List ℕ) (place : ℕ) → place < length units → slice_index units (place + 1) ≡ v → place + k ≤ length units)
    → PairSaid u v c k
pair_said u v c k first some within = (is_of_pair u v c k first some within, is_of_one u v c k first some within)

pub two_encode : (u v c k : ℕ) (us : List ℕ) → PairSaid u v c k → k ≢ 1 → Encodes (u ∷ v ∷ us) c us
two_encode u v c k us said other = by (is_pair u v) refl
  where
    pair : is_pair u v ≡ true → Encodes (u ∷ v ∷ us) (surrogate_pair_char u v) us
    pair h =
        let large : ltb (surrogate_pair_char u v) 0x1_0000 ≡ false = grind (arith, nat_tests) in
        let high : 0xD800 + (surrogate_pair_char u v - 0x1_0000) / 0x400 ≡ u = grind (arith, nat_tests, h) in
        let low : 0xDC00 + (surrogate_pair_char u v - 0x1_0000) % 0x400 ≡ v = grind (arith, nat_tests, h) in (
          ap chars_before (chars_pair u v us h),
          rw (large, high, low) refl,
        )

    by : (b : Bool) → is_pair u v ≡ b → Encodes (u ∷ v ∷ us) c us
    by true h = subst (λ (d : ℕ). Encodes (u ∷ v ∷ us) d us) (sym (said.0 h).0) (pair h)
    by false h = absurd (other (said.1 h).1)

-- a surrogate without a partner
surrogate_lone : (u : ℕ) → (IsScalar u → ⊥) → u < 0x1_0000 → lone_unit_char u ≡ None
surrogate_lone u other small = grind (arith, nat_tests, other, small)

pub last_unpaired : (u : ℕ) → (IsScalar u → ⊥) → u < 0x1_0000 → paired_chars (u ∷ []) ≡ []
unfolding utf16_chars
last_unpaired u other small = ap chars_before (ap (λ (o : Option ℕ). o ∷ []) (surrogate_lone u other small))

pub one_unpaired : (u v c k : ℕ) (us : List ℕ) → PairSaid u v c k → k ≡ 1 → (IsScalar u → ⊥) → u < 0x1_0000 → paired_chars (u ∷ v ∷ us) ≡ []
one_unpaired u v c k us said one other small = by (is_pair u v) refl
  where
    by : (b : Bool) → is_pair u v ≡ b → paired_chars (u ∷ v ∷ us) ≡ []
    by true h = absurd (omega (arith, (said.0 h).1, one))
    by false h = ap chars_before (chars_lone u (v ∷ us) h ∙ ap (λ (o : Option ℕ). o ∷ utf16_chars (v ∷ us)) (surrogate_lone u other small))

-- the rest of units, as a pattern gives it
abbrev pub tail_of : List ℕ → List ℕ
tail_of units = take (length units - 1) (drop 1 units)

tail_is : (u : ℕ) (us : List ℕ) → tail_of (u ∷ us) ≡ us
tail_is u us = let count : suc (length us) - 1 ≡ length us = omega arith in ap (λ (n : ℕ). take n us) count ∙ take-length us

pub units_none : (units : List ℕ) → length units < 1 → paired_chars units ≡ []
unfolding utf16_chars
units_none [] none = refl
units_none (u ∷ us) none = absurd (omega (arith, none))

-- units whose first one is a character, or a surrogate
module _ (code : ℕ) where
  pub units_one : (units : List ℕ) → 1 ≤ length units → code ≡ slice_index units 0 → code < 0x1_0000 → IsScalar code → Encodes units code (tail_of units)
  units_one [] some is small scalar = absurd (omega (arith, some))
  units_one (u ∷ us) some is small scalar =
      subst (λ (d : ℕ). Encodes (u ∷ us) d (tail_of (u ∷ us))) (sym is) (subst (Encodes (u ∷ us) u) (sym (tail_is u us))
      (one_encodes u us (subst IsScalar is scalar) (omega (arith, small, is))))

  pub units_last : (units : List ℕ) → 1 ≤ length units → length (tail_of units) < 1 → code ≡ slice_index units 0 → code < 0x1_0000 → (IsScalar code → ⊥)
      → paired_chars units ≡ []
  units_last [] some last is small other = absurd (omega (arith, some))
  units_last (u ∷ []) some last is small other = last_unpaired u (λ s. other (subst IsScalar (sym is) s)) (omega (arith, small, is))
  units_last (u ∷ v ∷ us) some last is small other = absurd (omega (arith, last, ap length (tail_is u (v ∷ us))))

  pub units_unpaired : (units : List ℕ) (c k : ℕ) → 1 ≤ length units → 1 ≤ length (tail_of units) → code ≡ slice_index units 0 → code < 0x1_0000
      → (IsScalar code → ⊥) → PairSaid (slice_index units 0) (slice_index (tail_of units) 0) c k → k ≡ 1 → paired_chars units ≡ []
  units_unpaired [] c k some two is small other said one = absurd (omega (arith, some))
  units_unpaired (u ∷ []) c k some two is small other said one = absurd (omega (arith, two, ap length (tail_is u [])))
  units_unpaired (u ∷ v ∷ us) c k some two is small other said one =
      one_unpaired u v c k us (subst (λ (l : List ℕ). PairSaid u (slice_index l 0) c k) (tail_is u (v ∷ us)) said) one
      (λ s. other (subst IsScalar (sym is) s)) (omega (arith, small, is))

pub units_two : (units : List ℕ) (c k : ℕ) → 1 ≤ length units → 1 ≤ length (tail_of units) → PairSaid (slice_index units 0) (slice_index (tail_of units) 0) c k
    → k ≢ 1 → Encodes units c (tail_of (tail_of units))
units_two [] c k some two said other = absurd (omega (arith, some))
units_two (u ∷ []) c k some two said other = absurd (omega (arith, two, ap length (tail_is u [])))
units_two (u ∷ v ∷ us) c k some two said other =
    let rest : tail_of (tail_of (u ∷ v ∷ us)) ≡ us = ap tail_of (tail_is u (v ∷ us)) ∙ tail_is v us in
    subst (Encodes (u ∷ v ∷ us) c) (sym rest)
    (two_encode u v c k us (subst (λ (l : List ℕ). PairSaid u (slice_index l 0) c k) (tail_is u (v ∷ us)) said) other)

-- bytes before the NULs that stand for missing ones
pub padded_more : (n b : ℕ) (bs : List ℕ) → 0 < n → nul_padded n (b ∷ bs) ≡ b ∷ nul_padded (n - 1) bs
padded_more zero b bs some = absurd (omega (arith, some))
padded_more (suc n) b bs some = let same : n ≡ suc n - 1 = omega arith in ap (λ (m : ℕ). b ∷ nul_padded m bs) same

pub length-padded : (n : ℕ) (bs : List ℕ) → length (nul_padded n bs) ≡ n
length-padded zero bs = refl
length-padded (suc n) [] = ap suc (length-padded n [])
length-padded (suc n) (b ∷ bs) = ap suc (length-padded n bs)

pub take-padded : (m n : ℕ) (bs : List ℕ) → m ≤ n → nul_padded m bs ≡ take m (nul_padded n bs)
take-padded zero n bs le = refl
take-padded (suc m) zero bs le = absurd (omega (arith, le))
take-padded (suc m) (suc n) [] le = ap (λ (l : List ℕ). 0 ∷ l) (take-padded m n [] (omega (arith, le)))
take-padded (suc m) (suc n) (b ∷ bs) le = ap (λ (l : List ℕ). b ∷ l) (take-padded m n bs (omega (arith, le)))

-- as many bytes as there are
pub padded_all : (bs : List ℕ) → nul_padded (length bs) bs ≡ bs
padded_all [] = refl
padded_all (b ∷ bs) = ap (λ (l : List ℕ). b ∷ l) (padded_all bs)

-- bytes that fit, and those after them
pub padded-append : (n : ℕ) (xs ys : List ℕ) → length xs ≤ n → nul_padded n (xs ++ ys) ≡ xs ++ nul_padded (n - length xs) ys
padded-append n [] ys le = let same : n ≡ n - 0 = omega arith in ap (λ (m : ℕ). nul_padded m ys) same
padded-append zero (x ∷ xs) ys le = absurd (omega (arith, le))
padded-append (suc n) (x ∷ xs) ys le =
    let left : n - length xs ≡ suc n - suc (length xs) = omega arith in
    ap (λ (l : List ℕ). x ∷ l) (padded-append n xs ys (omega (arith, le)) ∙ ap (λ (m : ℕ). xs ++ nul_padded m ys) left)

-- fewer bytes than there are
pub padded-part : (n : ℕ) (xs ys : List ℕ) → n ≤ length xs → nul_padded n (xs ++ ys) ≡ take n xs
padded-part zero xs ys le = refl
padded-part (suc n) [] ys le = absurd (omega (arith, le))
padded-part (suc n) (x ∷ xs) ys le = ap (λ (l : List ℕ). x ∷ l) (padded-part n xs ys (omega (arith, le)))

-- before a NUL that stands for missing bytes
pub padded_nul : (n : ℕ) → nul_padded n [] ≡ nul_padded n (0 ∷ [])
padded_nul zero = refl
padded_nul (suc n) = refl

-- a byte that follows another begins no text in UTF-8
pub no_lead : (b : ℕ) (bs : List ℕ) → 128 ≤ b → b < 192 → is_utf8 (b ∷ bs) ≡ true → ⊥
no_lead b bs low high e =
    let cut = IsCharBoundary-from_drop (0 ∷ b ∷ bs) 1 (omega arith) (IsUtf8-from_is_utf8 (b ∷ bs) e) in
    omega (arith, cut.1 (omega arith) low, high)

-- a byte that follows another in a character
abbrev IsInside : ℕ → Type 0
IsInside b = (128 ≤ b) × (b < 192)

later_at : (a : ℕ) (bs : List ℕ) (p : ℕ) → All IsInside bs → 0 < p → p < length (a ∷ bs) → IsInside (slice_index (a ∷ bs) p)
later_at a bs zero all some within = absurd (omega (arith, some))
later_at a bs (suc p) all some within = all p 0 (omega (arith, within))

later_in : (c p a : ℕ) (bs : List ℕ) → encode c ≡ a ∷ bs → All IsInside bs → 0 < p → p < length (encode c) → IsInside (slice_index (encode c) p)
later_in c p a bs e all some within =
    subst (λ (l : List ℕ). IsInside (slice_index l p)) (sym e) (later_at a bs p all some (omega (arith, within, ap length e)))

later_byte : (c p : ℕ) → 0 < p → p < length (encode c) → IsInside (slice_index (encode c) p)
later_byte c p some within =
    let one = All-cons IsInside (128 + c % 64) [] (omega arith, omega arith) (All-nil IsInside) in
    let two = All-cons IsInside (128 + c / 64 % 64) ((128 + c % 64) ∷ []) (omega arith, omega arith) one in
    let three = All-cons IsInside (128 + c / 4096 % 64) ((128 + c / 64 % 64) ∷ (128 + c % 64) ∷ []) (omega arith, omega arith) two in
    elim (cases_lt c 128) [
      | inl low ↦ later_in c p c [] (encode_ascii c low) (All-nil IsInside) some within
      | inr high ↦
          elim (cases_lt c 2048) [
            | inl low ↦ later_in c p (192 + c / 64) ((128 + c % 64) ∷ []) (encode_utf8-two c high low) one some within
            | inr higher ↦
                elim (cases_lt c 65536) [
                  | inl low ↦ later_in c p (224 + c / 4096) ((128 + c / 64 % 64) ∷ (128 + c % 64) ∷ []) (encode_utf8-three c higher low) two some within
                  | inr highest ↦
                      later_in c p (240 + c / 262144) ((128 + c / 4096 % 64) ∷ (128 + c / 64 % 64) ∷ (128 + c % 64) ∷ []) (encode_utf8-four c highest) three some
                      within
                ]
          ]
    ]

-- neither does a part of a character
pub no_part : (n c : ℕ) → n < length (encode c) → is_utf8 (take n (encode c)) ≡ true → take n (encode c) ≡ []
no_part n c less e = let (cs, (s, is)) = IsUtf8-from_is_utf8 (take n (encode c)) e in by cs is
  where
    by : (cs : List ℕ) → encodes cs ≡ take n (encode c) → take n (encode c) ≡ []
    by [] is = sym is
    by (d ∷ ds) is =
        let whole : encode d ++ (encodes ds ++ drop n (encode c)) ≡ encode c ++ [] =
        sym (append_assoc (encode d) (encodes ds) (drop n (encode c))) ∙ ap (λ (l : List ℕ). l ++ drop n (encode c)) is
        ∙ take-append-drop n (encode c) ∙ sym (append-nil (encode c)) in
        let none = (encode_same d c (encodes ds ++ drop n (encode c)) [] whole).1 in
        absurd (omega (arith, less, ap length none, length-append (encodes ds) (drop n (encode c)), length-drop n (encode c)))

-- whether bytes are UTF-8 of characters that may be in a name
abbrev pub is_named : List ℕ → Bool
is_named bs = is_utf8 bs && list_all is_name_char (chars bs)

pub utf8_more : (c : ℕ) (bs : List ℕ) → IsScalar c → is_utf8 (encode c ++ bs) ≡ is_utf8 bs
utf8_more c bs s = by (is_utf8 bs) (is_utf8 (encode c ++ bs)) refl refl
  where
    by : (a b : Bool) → is_utf8 bs ≡ a → is_utf8 (encode c ++ bs) ≡ b → is_utf8 (encode c ++ bs) ≡ is_utf8 bs
    by true b e f =
        let whole = IsUtf8-append (encode c) bs (IsUtf8-encode c s) (IsUtf8-from_is_utf8 bs e) in
        is_utf8-from_IsUtf8 (encode c ++ bs) whole ∙ sym e
    by false true e f =
        let rest = IsUtf8-past_char (encode c ++ bs) bs c (IsUtf8-from_is_utf8 (encode c ++ bs) f) refl in
        absurd (true≢false (sym (is_utf8-from_IsUtf8 bs rest) ∙ e))
    by false false e f = f ∙ sym e

pub chars_more : (c : ℕ) (bs : List ℕ) → IsScalar c → is_utf8 bs ≡ true → chars (encode c ++ bs) ≡ c ∷ chars bs
chars_more c bs s e =
    chars_past_char (encode c ++ bs) bs c (IsUtf8-append (encode c) bs (IsUtf8-encode c s) (IsUtf8-from_is_utf8 bs e)) refl

pub named_more : (c : ℕ) (bs : List ℕ) → IsScalar c → is_named (encode c ++ bs) ≡ is_name_char c && is_named bs
named_more c bs s = by (is_utf8 bs) refl
  where
    or : (a : Bool) → false ≡ a && false
    or true = refl
    or false = refl

    by : (a : Bool) → is_utf8 bs ≡ a → is_named (encode c ++ bs) ≡ is_name_char c && is_named bs
    by true e =
        (λ i. (utf8_more c bs s ∙ e) i && list_all is_name_char (chars_more c bs s e i))
        ∙ ap (λ (b : Bool). is_name_char c && (b && list_all is_name_char (chars bs))) (sym e)
    by false e =
        ap (λ (b : Bool). b && list_all is_name_char (chars (encode c ++ bs))) (utf8_more c bs s ∙ e)
        ∙ or (is_name_char c) ∙ ap (λ (b : Bool). is_name_char c && (b && list_all is_name_char (chars bs))) (sym e)

pub named_none : (bs : List ℕ) → bs ≡ [] → is_named bs ≡ true
named_none bs e = ap is_named e ∙ and_from _ _ (is_utf8-from_IsUtf8 [] IsUtf8-nil) (ap (list_all is_name_char) chars-nil)

pub not_named : (bs : List ℕ) → (is_utf8 bs ≡ true → bs ≡ []) → 0 < length bs → is_named bs ≡ false
not_named bs none some = by (is_utf8 bs) refl
  where
    by : (a : Bool) → is_utf8 bs ≡ a → is_named bs ≡ false
    by true e = absurd (omega (arith, some, ap length (none e)))
    by false e = ap (λ (b : Bool). b && list_all is_name_char (chars bs)) e

pub from_start : (cs : List ℕ) → utf8_from 0 cs ≡ encode_utf8_all cs
from_start [] = refl
from_start (c ∷ cs) = let none : min 0 (len_utf8 c - 1) ≡ 0 = omega arith in ap (λ (n : ℕ). drop n (encode c) ++ encode_utf8_all cs) none

-- the bytes at a place of units
abbrev pub bytes_at : List ℕ → ℕ → ℕ → List ℕ
bytes_at units place n = nul_padded n (utf8_from (place % 4) (paired_chars (drop (place / 4) units)))

-- the bytes of a text
abbrev pub bytes_of : Utf16Text → List ℕ
bytes_of text = bytes_at text.units.now.now text.place (text.end - 1)

pub length_of : (text : Utf16Text) → length (bytes_of text) ≡ text.end - 1
length_of text = length-padded (text.end - 1) _

-- bytes in UTF-8 as the bytes of their UTF-16
abbrev pub utf16_bytes : List ℕ → List ℕ
utf16_bytes bs = unit_bytes (flat_map encode_utf16 (chars bs))

-- characters were read from the start of units, up to what is left
pub record CharsRead (units rest : List ℕ) (end : ℕ) : Type 0 where
  pub read : List ℕ
  pub all : units ≡ flat_map encode_utf16 read ++ rest
  pub paired : paired_chars units ≡ read ++ paired_chars rest
  pub size : end ≡ length (encode_utf8_all read) + 1
  pub few : length (encode_utf8_all read) ≤ 3 * length (flat_map encode_utf16 read)

-- the part of units that a part of them ends with
pub suffix_at : (units front rest : List ℕ) (place : ℕ) → drop place units ≡ front ++ rest → drop (length units - length rest) units ≡ rest
suffix_at units front rest place e =
    let all : (take place units ++ front) ++ rest ≡ units =
    append_assoc (take place units) front rest ∙ ap (λ (l : List ℕ). take place units ++ l) (sym e) ∙ take-append-drop place units in
    let count : length units - length rest ≡ length (take place units ++ front) =
    omega (arith, ap length all, length-append (take place units ++ front) rest) in
    ap (λ (n : ℕ). drop n units) count ∙ ap (drop (length (take place units ++ front))) (sym all)
    ∙ drop-append_seam (take place units ++ front) rest

-- places of whole characters
pub whole_place : (units rest : List ℕ) (m n : ℕ) → drop m units ≡ rest → bytes_at units (4 * m) n ≡ nul_padded n (encode_utf8_all (paired_chars rest))
whole_place units rest m n e =
    let none : 4 * m % 4 ≡ 0 = omega arith in
    let index : 4 * m / 4 ≡ m = omega arith in
    (λ i. nul_padded n (utf8_from (none i) (paired_chars (drop (index i) units))))
    ∙ ap (nul_padded n) (from_start (paired_chars (drop m units)))
    ∙ ap (λ (l : List ℕ). nul_padded n (encode_utf8_all (paired_chars l))) e

-- a NUL stands for a character that is missing
pub none_from : (cs : List ℕ) (n passed : ℕ) → cs ≡ [] → nul_padded n (utf8_from passed cs) ≡ nul_padded n (utf8_from passed (0 ∷ cs))
none_from [] n passed none =
    let whole : min passed 0 ≡ 0 = omega arith in
    padded_nul n ∙ (λ i. nul_padded n (drop (sym whole i) (sym (encode_ascii 0 (omega arith)) i) ++ []))
none_from (c ∷ cs) n passed none = absurd (omega (arith, ap length none))

-- what is said of the first character of a part of units, and of the units after it
module _ (units part : List ℕ) (place c : ℕ) (after : List ℕ) (at : part ≡ drop (place / 4) units)
    (chars : (n passed : ℕ) → nul_padded n (utf8_from passed (paired_chars part)) ≡ nul_padded n (utf8_from passed (c ∷ paired_chars after)))
    (within : (front : List ℕ) × (part ≡ front ++ after)) where
  is : (n passed : ℕ) → nul_padded n (utf8_from passed (paired_chars (drop (place / 4) units))) ≡ nul_padded n (utf8_from passed (c ∷ paired_chars after))
  is n passed = ap (λ (l : List ℕ). nul_padded n (utf8_from passed (paired_chars l))) (sym at) ∙ chars n passed

  abbrev left : List ℕ
  left = encode_utf8_all (paired_chars after)

  -- the place after the character
  abbrev next : ℕ
  next = 4 * (length units - length after)

  at_next : (n : ℕ) → bytes_at units next n ≡ nul_padded n left
  at_next n = whole_place units after (length units - length after) n (suffix_at units within.0 after (place / 4) (sym at ∙ within.1))

  module _ (p : ℕ) (passed : p ≡ min (place % 4) (len_utf8 c - 1)) where
    abbrev byte : ℕ
    byte = slice_index (encode c) p

    inside : p < length (encode c)
    inside = omega (arith, passed, length-encode c, len_utf8_bounds c)

    here : (n : ℕ) → 0 < n → bytes_at units place n ≡ byte ∷ nul_padded (n - 1) (drop (p + 1) (encode c) ++ left)
    here n some =
        let one : drop p (encode c) ≡ byte ∷ drop (p + 1) (encode c) =
        let after : suc p ≡ p + 1 = omega arith in drop-cons (encode c) p 0 inside ∙ ap (λ (k : ℕ). byte ∷ drop k (encode c)) after in
        is n (place % 4) ∙ ap (λ (k : ℕ). nul_padded n (drop k (encode c) ++ left)) (sym passed)
        ∙ ap (λ (l : List ℕ). nul_padded n (l ++ left)) one
        ∙ padded_more n byte (drop (p + 1) (encode c) ++ left) some

    pub byte_inside : (n : ℕ) → 0 < n → p + 1 < len_utf8 c → bytes_at units place n ≡ byte ∷ bytes_at units (place / 4 * 4 + p + 1) (n - 1)
    byte_inside n some less =
        let rest : (place / 4 * 4 + p + 1) % 4 ≡ p + 1 = omega (arith, less, len_utf8_bounds c) in
        let index : (place / 4 * 4 + p + 1) / 4 ≡ place / 4 = omega (arith, less, len_utf8_bounds c) in
        let same : min (p + 1) (len_utf8 c - 1) ≡ p + 1 = omega (arith, less) in
        here n some ∙ ap (λ (l : List ℕ). byte ∷ l) (sym (
        (λ i. nul_padded (n - 1) (utf8_from (rest i) (paired_chars (drop (index i) units)))) ∙ is (n - 1) (p + 1)
        ∙ ap (λ (k : ℕ). nul_padded (n - 1) (drop k (encode c) ++ left)) same
        ))

    pub byte_last : (n : ℕ) → 0 < n → len_utf8 c ≤ p + 1 → bytes_at units place n ≡ byte ∷ bytes_at units next (n - 1)
    byte_last n some most =
        let none : drop (p + 1) (encode c) ≡ [] = drop_of_length-le (encode c) (omega (arith, most, length-encode c)) in
        here n some ∙ ap (λ (l : List ℕ). byte ∷ nul_padded (n - 1) (l ++ left)) none ∙ ap (λ (l : List ℕ). byte ∷ l) (sym (at_next (n - 1)))

  module _ (whole : min (place % 4) (len_utf8 c - 1) ≡ 0) where
    bytes_are : (n : ℕ) → bytes_at units place n ≡ nul_padded n (encode c ++ left)
    bytes_are n = is n (place % 4) ∙ ap (λ (k : ℕ). nul_padded n (drop k (encode c) ++ left)) whole

    pub begins_with : (end len : ℕ) → len ≡ len_utf8 c → len < end → bytes_at units place (end - 1) ≡ encode c ++ bytes_at units next (end - len - 1)
    begins_with end len size more =
        let rest : end - 1 - length (encode c) ≡ end - len - 1 = omega (arith, length-encode c, size) in
        bytes_are (end - 1) ∙ padded-append (end - 1) (encode c) left (omega (arith, length-encode c, size, more))
        ∙ ap (λ (n : ℕ). encode c ++ nul_padded n left) rest ∙ ap (λ (l : List ℕ). encode c ++ l) (sym (at_next (end - len - 1)))

    pub begins_none : (end : ℕ) → end ≤ len_utf8 c → is_utf8 (bytes_at units place (end - 1)) ≡ true → bytes_at units place (end - 1) ≡ []
    begins_none end less e =
        let few : end - 1 < length (encode c) = omega (arith, length-encode c, less, len_utf8_bounds c) in
        let part : bytes_at units place (end - 1) ≡ take (end - 1) (encode c) = bytes_are (end - 1) ∙ padded-part (end - 1) (encode c) left (omega (arith, few)) in
        part ∙ no_part (end - 1) c few (ap is_utf8 (sym part) ∙ e)

  -- a byte that is not the first of its character
  pub later_first : (n : ℕ) → 0 < min (place % 4) (len_utf8 c - 1) → is_utf8 (bytes_at units place n) ≡ true → bytes_at units place n ≡ []
  later_first zero some e = refl
  later_first (suc n) some e =
      let p = min (place % 4) (len_utf8 c - 1) in
      let bytes = here p refl (suc n) (omega arith) in
      let later = later_byte c p (omega (arith, some)) (omega (arith, len_utf8_bounds c, length-encode c)) in
      absurd (no_lead (slice_index (encode c) p) (nul_padded (suc n - 1) (drop (p + 1) (encode c) ++ left)) later.0 later.1 (ap is_utf8 (sym bytes) ∙ e))

  pub no_next : (end : ℕ) → (end ≤ len_utf8 c) ⊎ (0 < min (place % 4) (len_utf8 c - 1)) → is_utf8 (bytes_at units place (end - 1)) ≡ true
      → bytes_at units place (end - 1) ≡ []
  no_next end (inr some) e = later_first (end - 1) some e
  no_next end (inl less) e = elim (cases_lt 0 (min (place % 4) (len_utf8 c - 1))) [
    | inl some ↦ later_first (end - 1) some e
    | inr none ↦ begins_none (omega (arith, none)) end less e
  ]

-- ASCII
pub ascii_chars : (xs ys : List ℕ) → IsAscii xs → paired_chars (xs ++ ys) ≡ xs ++ paired_chars ys
ascii_chars [] ys are = refl
ascii_chars (x ∷ xs) ys are =
    let small = are 0 in
    (one_encodes x (xs ++ ys) (low_scalar x (omega (arith, small))) (omega (arith, small))).0
    ∙ ap (λ (l : List ℕ). x ∷ l) (ascii_chars xs ys (λ i. are (suc i)))

pub ascii_bytes : (xs ys : List ℕ) → IsAscii xs → encode_utf8_all (paired_chars (xs ++ ys)) ≡ xs ++ encode_utf8_all (paired_chars ys)
ascii_bytes xs ys are =
    ap encode_utf8_all (ascii_chars xs ys are) ∙ encodes-append xs (paired_chars ys)
    ∙ ap (λ (l : List ℕ). l ++ encode_utf8_all (paired_chars ys)) (encodes-IsAscii xs are)

pub ascii_split : (units xs ys : List ℕ) (place n : ℕ) → place % 4 ≡ 0 → drop (place / 4) units ≡ xs ++ ys → IsAscii xs → length xs ≤ n
    → bytes_at units place n ≡ xs ++ bytes_at units (4 * (length units - length ys)) (n - length xs)
ascii_split units xs ys place n whole e are some =
    (λ i. nul_padded n (utf8_from (whole i) (paired_chars (e i)))) ∙ ap (nul_padded n) (from_start (paired_chars (xs ++ ys)) ∙ ascii_bytes xs ys are)
    ∙ padded-append n xs (encode_utf8_all (paired_chars ys)) some
    ∙ ap (λ (l : List ℕ). xs ++ l) (sym (whole_place units ys (length units - length ys) (n - length xs) (suffix_at units xs ys (place / 4) e)))

pub ascii_first : (units : List ℕ) (place n : ℕ) → place / 4 < length units → slice_index units (place / 4) < 128 → 0 < n
    → bytes_at units place n ≡ slice_index units (place / 4) ∷ bytes_at units (4 * (place / 4 + 1)) (n - 1)
ascii_first units place n within small some =
    let u = slice_index units (place / 4) in
    let rest = drop (place / 4 + 1) units in
    let split : drop (place / 4) units ≡ u ∷ rest =
    let after : suc (place / 4) ≡ place / 4 + 1 = omega arith in drop-cons units (place / 4) 0 within ∙ ap (λ (k : ℕ). u ∷ drop k units) after in
    let one : encode u ≡ u ∷ [] = encode_ascii u small in
    let whole : min (place % 4) (len_utf8 u - 1) ≡ 0 = omega (arith, length-encode u, ap length one) in
    let chars : paired_chars (u ∷ rest) ≡ u ∷ paired_chars rest = ascii_chars (u ∷ []) rest (λ i. first_small u small i) in
    (λ i. nul_padded n (utf8_from (place % 4) (paired_chars (split i)))) ∙ ap (λ (cs : List ℕ). nul_padded n (utf8_from (place % 4) cs)) chars
    ∙ (λ i. nul_padded n (drop (whole i) (one i) ++ encode_utf8_all (paired_chars rest)))
    ∙ padded_more n u (encode_utf8_all (paired_chars rest)) some
    ∙ ap (λ (l : List ℕ). u ∷ l) (sym (whole_place units rest (place / 4 + 1) (n - 1) refl))
  where
    first_small : (u : ℕ) → u < 128 → IsAscii (u ∷ [])
    first_small u small zero = small
    first_small u small (suc i) = omega arith

pub next_shorter : (bs rest : List ℕ) (c : ℕ) → bs ≡ encode c ++ rest → length rest < length bs
next_shorter bs rest c e = omega (arith, ap length e, length-append (encode c) rest, length-encode c, (len_utf8_bounds c).0)

pub utf16_more : (c : ℕ) (bs : List ℕ) → IsScalar c → is_utf8 bs ≡ true
    → utf16_bytes (encode c ++ bs) ≡ unit_bytes (encode_utf16 c) ++ utf16_bytes bs
utf16_more c bs s e =
    ap (λ (cs : List ℕ). unit_bytes (flat_map encode_utf16 cs)) (chars_more c bs s e)
    ∙ unit_bytes-append (encode_utf16 c) (flat_map encode_utf16 (chars bs))

pub utf16_none : (bs : List ℕ) → bs ≡ [] → utf16_bytes bs ≡ []
utf16_none bs e = ap utf16_bytes e ∙ ap (λ (cs : List ℕ). unit_bytes (flat_map encode_utf16 cs)) chars-nil

-- a part of the name that a text begins with, and what is left of the text
abbrev pub PastName : List ℕ → List ℕ → Type 0
PastName all rest = (front : List ℕ) × (list_any ends_name front ≡ false) × (all ≡ front ++ rest)

pub none_before : (xs : List ℕ) → list_any ends_name (take (position_or_len ends_name xs) xs) ≡ false
none_before [] = refl
none_before (x ∷ xs) = by (ends_name x) refl (none_before xs)
  where
    by : (b : Bool) → ends_name x ≡ b → list_any ends_name (take (position_or_len ends_name xs) xs) ≡ false
        → list_any ends_name (take (position_or_len ends_name (x ∷ xs)) (x ∷ xs)) ≡ false
    by true e others = ap (λ (b : Bool). list_any ends_name (take (cond (not b) (1 + position_or_len ends_name xs) 0) (x ∷ xs))) e
    by false e others =
        let more : 1 + position_or_len ends_name xs ≡ suc (position_or_len ends_name xs) = omega arith in
        ap (λ (b : Bool). list_any ends_name (take (cond (not b) (1 + position_or_len ends_name xs) 0) (x ∷ xs))) e
        ∙ ap (λ (n : ℕ). list_any ends_name (take n (x ∷ xs))) more
        ∙ ap (λ (b : Bool). b || list_any ends_name (take (position_or_len ends_name xs) xs)) e ∙ others

-- no byte of a character ends a name, unless the character does
none_in_char : (c : ℕ) → ends_name c ≡ false → list_any ends_name (encode c) ≡ false
none_in_char c other = elim (cases_lt c 128) [
  | inl low ↦ ap (list_any ends_name) (encode_ascii c low) ∙ grind (arith, nat_tests, other)
  | inr high ↦
      elim (cases_lt c 2048) [
        | inl low ↦ ap (list_any ends_name) (encode_utf8-two c high low) ∙ grind (arith, nat_tests)
        | inr higher ↦
            elim (cases_lt c 65536) [
              | inl low ↦ ap (list_any ends_name) (encode_utf8-three c higher low) ∙ grind (arith, nat_tests)
              | inr highest ↦ ap (list_any ends_name) (encode_utf8-four c highest) ∙ grind (arith, nat_tests)
            ]
      ]
]

pub name_more : (all rest bytes after : List ℕ) → PastName all rest → rest ≡ bytes ++ after → list_any ends_name bytes ≡ false → PastName all after
name_more all rest bytes after past e none =
    (past.0 ++ bytes, list_any-append ends_name past.0 bytes ∙ (λ i. past.1 i || none i), past.2 ∙ ap (λ (l : List ℕ). past.0 ++ l) e ∙ sym (append_assoc past.0 bytes after))

pub name_more_char : (all rest after : List ℕ) (c : ℕ) → PastName all rest → rest ≡ encode c ++ after → ends_name c ≡ false → PastName all after
name_more_char all rest after c past e other = name_more all rest (encode c) after past e (none_in_char c other)

position_past : (front rest : List ℕ) → list_any ends_name front ≡ false → is_after_node rest ≡ true → position_or_len ends_name (front ++ rest) ≡ length front
position_past [] [] none ends = refl
position_past [] (b ∷ bs) none ends = ap (λ (t : Bool). cond (not t) (1 + position_or_len ends_name bs) 0) ends
position_past (x ∷ xs) rest none ends =
    let parts = or_parts (ends_name x) (list_any ends_name xs) none in
    let more : 1 + length xs ≡ suc (length xs) = omega arith in
    ap (λ (t : Bool). cond (not t) (1 + position_or_len ends_name (xs ++ rest)) 0) parts.0
    ∙ ap (λ (n : ℕ). 1 + n) (position_past xs rest parts.1 ends) ∙ more

module _ (all rest : List ℕ) (past : PastName all rest) (ends : is_after_node rest ≡ true) where
  name_length : position_or_len ends_name all ≡ length past.0
  name_length = ap (position_or_len ends_name) past.2 ∙ position_past past.0 rest past.1 ends

  pub name_front : (n : ℕ) → n ≡ length all - length rest → take n all ≡ name_bytes all
  name_front n is =
      let size : n ≡ position_or_len ends_name all = omega (arith, is, name_length, ap length past.2, length-append past.0 rest) in
      ap (λ (k : ℕ). take k all) size

  pub name_rest : rest ≡ drop (position_or_len ends_name all) all
  name_rest = sym (ap (λ (k : ℕ). drop k all) name_length ∙ ap (drop (length past.0)) past.2 ∙ drop-append_seam past.0 rest)

-- bytes that are all ASCII
pub ascii_whole : (all xs ys : List ℕ) → all ≡ xs ++ ys → length xs ≡ length all → all ≡ xs
ascii_whole all xs [] e size = e ∙ append-nil xs
ascii_whole all xs (y ∷ ys) e size = absurd (omega (arith, size, ap length e, length-append xs (y ∷ ys)))

pub ascii_named : (xs : List ℕ) → IsAscii xs → list_all is_name_char xs ≡ is_named xs
ascii_named xs are =
    sym (ap (λ (b : Bool). b && list_all is_name_char (chars xs)) (is_utf8-from_IsUtf8 xs (IsUtf8-from_ascii xs are)) ∙ ap (list_all is_name_char) (chars-IsAscii xs are))

pub ascii_utf16 : (xs : List ℕ) → IsAscii xs → utf16_bytes xs ≡ unit_bytes xs
ascii_utf16 xs are = ap unit_bytes (encoded_ascii xs are)

-- units that were read up to what is left
chars_paired : (c : ℕ) → (length (encode c) ≤ 3 * length (encode_utf16 c))
chars_paired c = by (ltb c 0x1_0000) refl
  where
    either : {b : Bool} → ltb c 0x1_0000 ≡ b
        → encode_utf16 c ≡ cond b (c ∷ []) ((0xD800 + (c - 0x1_0000) / 0x400) ∷ (0xDC00 + (c - 0x1_0000) % 0x400) ∷ [])
    either e = ap (λ (t : Bool). cond t (c ∷ []) ((0xD800 + (c - 0x1_0000) / 0x400) ∷ (0xDC00 + (c - 0x1_0000) % 0x400) ∷ [])) e

    by : (b : Bool) → ltb c 0x1_0000 ≡ b → length (encode c) ≤ 3 * length (encode_utf16 c)
    by true e =
        let small = ltb-true c 0x1_0000 e in
        let one : length (encode_utf16 c) ≡ 1 = ap length (either e) in
        grind (arith, nat_tests, one, length-encode c, small)
    by false e =
        let two : length (encode_utf16 c) ≡ 2 = ap length (either e) in
        omega (arith, two, length-encode c, (len_utf8_bounds c).1)

pub chars_read_more : (units rest after : List ℕ) (c end more : ℕ) → CharsRead units rest end → more ≡ len_utf8 c
    → paired_chars rest ≡ c ∷ paired_chars after → rest ≡ encode_utf16 c ++ after → CharsRead units after (end + more)
chars_read_more units rest after c end more on size paired all =
    let read = on.read ++ c ∷ [] in
    let bytes : encode_utf8_all read ≡ encode_utf8_all on.read ++ encode c =
    encodes-append on.read (c ∷ []) ∙ ap (λ (l : List ℕ). encode_utf8_all on.read ++ l) (append-nil (encode c)) in
    let encoded : flat_map encode_utf16 read ≡ flat_map encode_utf16 on.read ++ encode_utf16 c = sym (flat_map_more encode_utf16 [] on.read c) in
    record {
      read = read;
      all = on.all ∙ ap (λ (l : List ℕ). flat_map encode_utf16 on.read ++ l) all
          ∙ sym (append_assoc (flat_map encode_utf16 on.read) (encode_utf16 c) after) ∙ ap (λ (l : List ℕ). l ++ after) (sym encoded);
      paired = on.paired ∙ ap (λ (l : List ℕ). on.read ++ l) paired ∙ sym (append_assoc on.read (c ∷ []) (paired_chars after));
      size = omega (arith, on.size, size, ap length bytes, length-append (encode_utf8_all on.read) (encode c), length-encode c);
      few = omega (
        arith,
        on.few,
        chars_paired c,
        ap length bytes,
        length-append (encode_utf8_all on.read) (encode c),
        ap length encoded,
        length-append (flat_map encode_utf16 on.read) (encode_utf16 c),
      );
    }

module _ (units rest : List ℕ) (end : ℕ) (on : CharsRead units rest end) (over : paired_chars rest ≡ []) where
  all_paired : paired_chars units ≡ on.read
  all_paired = on.paired ∙ ap (λ (l : List ℕ). on.read ++ l) over ∙ append-nil on.read

  read_len : paired_len units + length rest ≡ length units
  read_len =
      let size = ap (λ (cs : List ℕ). length (flat_map encode_utf16 cs)) all_paired in
      omega (arith, size, ap length on.all, length-append (flat_map encode_utf16 on.read) rest)

  pub read_of_all : length rest ≡ 0 → Ok (nul_padded (end - 1) (utf8_from 0 (paired_chars units))) ≡ utf16_read units
  read_of_all none =
      let whole : (paired_len units == length units) ≡ true = eq-eqb _ _ (omega (arith, none, read_len)) in
      let size : end - 1 ≡ length (encode_utf8_all (paired_chars units)) =
      let same = ap (λ (cs : List ℕ). length (encode_utf8_all cs)) all_paired in omega (arith, on.size, same) in
      (λ i. Ok (nul_padded (size i) (from_start (paired_chars units) i)))
      ∙ ap (λ (l : List ℕ). Ok l) (padded_all (encode_utf8_all (paired_chars units)))
      ∙ sym (ap (λ (b : Bool). cond b (Ok (encode_utf8_all (paired_chars units))) (Err (paired_len units))) whole)

  pub read_of_part : 0 < length rest → Err (length units - length rest) ≡ utf16_read units
  read_of_part some =
      let part : (paired_len units == length units) ≡ false = ne_eqb _ _ (λ e. omega (arith, some, read_len, e)) in
      let place : length units - length rest ≡ paired_len units = omega (arith, read_len) in
      ap (λ (n : ℕ). Err n) place
      ∙ sym (ap (λ (b : Bool). cond b (Ok (encode_utf8_all (paired_chars units))) (Err (paired_len units))) part)

pub read_of_ascii : (units : List ℕ) → IsAscii units → Ok (nul_padded (length units + 1 - 1) (utf8_from 0 (paired_chars units))) ≡ utf16_read units
read_of_ascii units are =
    let chars : paired_chars units ≡ units =
    ap paired_chars (sym (append-nil units)) ∙ ascii_chars units [] are ∙ ap (λ (l : List ℕ). units ++ l) (units_none [] (omega arith)) ∙ append-nil units in
    let encoded : flat_map encode_utf16 units ≡ units = ap (flat_map encode_utf16) (sym (chars-IsAscii units are)) ∙ encoded_ascii units are in
    let bytes : encode_utf8_all (paired_chars units) ≡ units = ap encode_utf8_all chars ∙ encodes-IsAscii units are in
    let whole : (paired_len units == length units) ≡ true = eq-eqb _ _ (ap (λ (cs : List ℕ). length (flat_map encode_utf16 cs)) chars ∙ ap length encoded) in
    let size : length units + 1 - 1 ≡ length (encode_utf8_all (paired_chars units)) = omega (arith, ap length bytes) in
    (λ i. Ok (nul_padded (size i) (from_start (paired_chars units) i)))
    ∙ ap (λ (l : List ℕ). Ok l) (padded_all (encode_utf8_all (paired_chars units)))
    ∙ sym (ap (λ (b : Bool). cond b (Ok (encode_utf8_all (paired_chars units))) (Err (paired_len units))) whole)
