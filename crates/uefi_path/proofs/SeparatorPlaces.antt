-- Where separators stand.
use Rattle.std.proofs.Common.{◌≡◌, ◌≢◌, ℕ, suc, ◌+◌, ◌-◌, ◌<◌, ◌≤◌, List, [], ◌∷◌, ◌++◌, length, get_or, take, drop, true, false, inl, inr, ap, sym, refl, ◌∙◌, arith, add-zero, zero, ◌*◌, ◌/◌, ◌^◌, not, map, cond, div-one, pow-suc, mul_comm, add_comm, subst, zero-add, drop-cons, add-one, length-append}
use Rattle.std.specs.List.{count_by, onto_first, slice_range, slice_split, prefix_len}
use Rattle.std.proofs.lemmas.Bool.{cases_Bool, ne_eqb}
use Rattle.std.proofs.lemmas.List.{drop-drop, length-drop, drop-take, length-take, length-take-le, take-append-drop, take_at}
use Rattle.std.proofs.lemmas.List.Sums.{sum_by-cons}
use Rattle.std.proofs.lemmas.List.Splits.{slice_split-cons_no, slice_split-cons_yes}
use Rattle.uefi_path.specs.Separators.{becomes_separator, canonical, is_separator, places_from, places_of, with_separators, IsPlain, separator, slash}
use Rattle.std.proofs.lemmas.Grind.{common_steps}
use Rattle.std.proofs.Math.Nat.{div-div-eq-div-mul, zero-div}
use Rattle.std.specs.Simd.Lanes.{mask_l}
use Rattle.std.specs.Int.Count.{count_trailing_zeros}
use Rattle.std.proofs.lemmas.List.Folds.{drop_split}
use Rattle.std.proofs.lemmas.Simd.{trailing_mask_l}
use Rattle.std.proofs.Math.Seq.{take-append-add}
use Rattle.std.proofs.lemmas.List.Elements.{All-append, All-drop, All-take, All-head, All-tail}
use Rattle.uefi_text.proofs.Texts.{IsText-replaced}
use Rattle.uefi_text.specs.Units.{IsText, IsTextUnit}
use Rattle.uefi_path.specs.Components.{IsPiece}
use Rattle.uefi_path.specs.Popping.{IsPopped}

-- where the units begin with a separator, so do the places
pub places_from-yes : (start u : ℕ) (us : List ℕ) → is_separator u ≡ true
    → places_from start (u ∷ us) ≡ start ∷ places_from (start + 1) us
places_from-yes start u us cut = rw cut refl

pub places_from-no : (start u : ℕ) (us : List ℕ) → is_separator u ≡ false
    → places_from start (u ∷ us) ≡ places_from (start + 1) us
places_from-no start u us other = rw other refl

-- with no separator all units are one piece
pub whole_piece : (start : ℕ) (us : List ℕ) → [] ≡ places_from start us → slice_split is_separator us ≡ us ∷ []
whole_piece start [] none = refl
whole_piece start (u ∷ us) none =
    elim (cases_Bool (is_separator u)) [
      | inl cut ↦ absurd (let at = places_from-yes start u us cut in cc)
      | inr other ↦ grind (arith, whole_piece (start + 1) us (none ∙ places_from-no start u us other), slice_split-cons_no, places_from-no)
    ]

-- how the first place cuts units: those before it are the first piece
record FirstPlace (start : ℕ) (us : List ℕ) (place : ℕ) (places : List ℕ) : Type 0 where
  before : ℕ
  at : place ≡ start + before
  inside : before < length us
  pieces : slice_split is_separator us ≡ take before us ∷ slice_split is_separator (drop (suc before) us)
  after : places ≡ places_from (place + 1) (drop (suc before) us)

first_place : (start : ℕ) (us : List ℕ) (place : ℕ) (places : List ℕ) → place ∷ places ≡ places_from start us
    → FirstPlace start us place places
first_place start [] place places found = absurd (cc)
first_place start (u ∷ us) place places found =
    elim (cases_Bool (is_separator u)) [
      | inl cut ↦ grind (arith, places_from-yes, slice_split-cons_yes)
      | inr other ↦
          let next = first_place (start + 1) us place places (found ∙ places_from-no start u us other) in record {
            before = suc next.before;
            at = omega (arith, next.at);
            inside = omega (arith, next.inside);
            pieces = slice_split-cons_no is_separator u us other ∙ ap (onto_first u) next.pieces;
            after = next.after;
          }
    ]

-- how the first place cuts what a text has from `start` on
pub record PlacedCut (text : List ℕ) (start place : ℕ) (places : List ℕ) : Type 0 where
  pub from : start ≤ place
  pub inside : place < length text
  pub pieces :
      slice_split is_separator (drop start text)
      ≡ slice_range text start place ∷ slice_split is_separator (drop (place + 1) text)
  pub after : places ≡ places_from (place + 1) (drop (place + 1) text)

pub placed_cut : (text : List ℕ) (start place : ℕ) (places : List ℕ) → start ≤ length text
    → place ∷ places ≡ places_from start (drop start text) → PlacedCut text start place places
placed_cut text start place places within found =
    let first = first_place start (drop start text) place places found in
    let long : length (drop start text) ≡ length text - start = length-drop start text in
    let before : first.before ≡ place - start = omega (arith, first.at) in
    let end : start + suc first.before ≡ place + 1 = omega (arith, first.at) in
    let rest : drop (suc first.before) (drop start text) ≡ drop (place + 1) text =
    drop-drop (suc first.before) start text ∙ ap (λ n. drop n text) end in grind (arith, first, long, before, rest)

-- there are as many places as separators
pub length-places_from : (start : ℕ) (us : List ℕ) → length (places_from start us) ≡ count_by is_separator us
length-places_from start [] = refl
length-places_from start (u ∷ us) = grind (arith, common_steps, length-places_from (start + 1) us, sum_by-cons)

-- and once slashes are replaced, as many as become one
count_by-with_separators : (us : List ℕ) → count_by is_separator (with_separators us) ≡ count_by becomes_separator us
count_by-with_separators [] = refl
count_by-with_separators (u ∷ us) = grind (arith, common_steps, count_by-with_separators us, sum_by-cons)

pub length-places : (start : ℕ) (us : List ℕ)
    → length (places_from start (with_separators us)) ≡ count_by becomes_separator us
length-places start us = length-places_from start (with_separators us) ∙ count_by-with_separators us

-- the places of both of two parts
pub places_from-append : (start : ℕ) (us vs : List ℕ)
    → places_from start (us ++ vs) ≡ places_from start us ++ places_from (start + length us) vs
places_from-append start [] vs = ap (λ n. places_from n vs) (sym (add-zero start))
places_from-append start (u ∷ us) vs = grind (arith, places_from-append (start + 1) us vs)

-- whether the text begins with a separator is what its first place says
pub canonical_placed : (text : List ℕ) → 0 < length (places_of text) → get_or (places_of text) 0 0 ≡ 0
    → (1 ≤ length text) × (drop 1 text ≡ canonical text) × (drop 1 (places_of text) ≡ places_from 1 (drop 1 text))
canonical_placed [] some first = absurd (omega (arith, some))
canonical_placed (u ∷ us) some first =
    elim (cases_Bool (is_separator u)) [
      | inl cut ↦ grind (arith, places_from-yes)
      | inr other ↦
          let none = places_from-no 0 u us other in
          absurd (later (places_from 1 us) refl (omega (arith, some, ap length none)) (sym (ap (λ ps. get_or ps 0 0) none) ∙ first))
    ]
  where
    later : (places : List ℕ) → places ≡ places_from 1 us → 0 < length places → get_or places 0 0 ≢ 0
    later [] are some first = absurd (omega (arith, some))
    later (place ∷ places) are some first = omega (arith, (first_place 1 us place places are).at, first)

-- the bit of one unit, below those of others
bit_no : (u : ℕ) (us : List ℕ) → is_separator u ≡ false
    → mask_l (map is_separator (u ∷ us)) ≡ 2 * mask_l (map is_separator us)
bit_no u us other = ap (λ b. cond b 1 0 + 2 * mask_l (map is_separator us)) other ∙ omega arith

-- where no bit is set, the separators stand after the units
none_ahead : (at : ℕ) (us vs : List ℕ) → mask_l (map is_separator us) ≡ 0
    → places_from at (us ++ vs) ≡ places_from (at + length us) vs
none_ahead at [] vs none = ap (λ n. places_from n vs) (sym (add-zero at))
none_ahead at (u ∷ us) vs none = elim (cases_Bool (is_separator u)) [
  | inl cut ↦ absurd (omega (arith, none, ap (λ b. cond b 1 0 + 2 * mask_l (map is_separator us)) cut))
  | inr other ↦ grind (arith, none_ahead (at + 1) us vs (omega (arith, none, bit_no u us other)), places_from-no, bit_no)
]

-- where one is set, the lowest is the first separator's
record FirstAhead (at : ℕ) (us vs : List ℕ) (gap : ℕ) : Type 0 where
  inside : gap < length us
  places : places_from at (us ++ vs) ≡ (at + gap) ∷ places_from (at + gap + 1) (drop (gap + 1) (us ++ vs))

first_ahead : (at : ℕ) (us vs : List ℕ) → 0 < mask_l (map is_separator us)
    → FirstAhead at us vs (prefix_len (λ u. not (is_separator u)) us)
first_ahead at [] vs some = absurd (omega (arith, some))
first_ahead at (u ∷ us) vs some = elim (cases_Bool (is_separator u)) [
  | inl cut ↦
      rw cut (record {
        inside = omega arith;
        places = places_from-yes at u (us ++ vs) cut ∙ ap (λ n. n ∷ places_from (n + 1) (us ++ vs)) (sym (add-zero at));
      })
  | inr other ↦
      let next = first_ahead (at + 1) us vs (omega (arith, some, bit_no u us other)) in
      let gap = prefix_len (λ u. not (is_separator u)) us in
      let same : at + 1 + gap ≡ at + (1 + gap) = omega arith in
      let after : suc (gap + 1) ≡ 1 + gap + 1 = omega arith in grind (arith, places_from-no, next, gap, same, after)
]

bits-drop : (count : ℕ) (us : List ℕ) → mask_l (map is_separator us) / 2 ^ count ≡ mask_l (map is_separator (drop count us))
bits-drop zero us = div-one (mask_l (map is_separator us))
bits-drop (suc count) [] = zero-div (2 ^ suc count)
bits-drop (suc count) (u ∷ us) =
    let all = mask_l (map is_separator (u ∷ us)) in
    ap (λ n. all / n) (pow-suc 2 count ∙ mul_comm (2 ^ count) 2)
    ∙ sym (div-div-eq-div-mul all 2 (2 ^ count))
    ∙ ap (λ n. n / 2 ^ count) (grind arith)
    ∙ bits-drop count us

-- units from a place on, of which those up to an end were looked at
length-seen : (us : List ℕ) (start end : ℕ) → end ≤ length us → length (slice_range us start end) ≡ end - start
length-seen us start end within = omega (arith, length-take (end - start) (drop start us), length-drop start us, within)

pub others_ahead : (us : List ℕ) (start end : ℕ) → start ≤ end → end ≤ length us
    → mask_l (map is_separator (slice_range us start end)) ≡ 0 → places_from start (drop start us) ≡ places_from end (drop end us)
others_ahead us start end ordered within none =
    let next : start + length (slice_range us start end) ≡ end = omega (arith, ordered, length-seen us start end within) in
    ap (places_from start) (drop_split us start end ordered)
    ∙ none_ahead start (slice_range us start end) (drop end us) none
    ∙ ap (λ n. places_from n (drop end us)) next

-- how the lowest bit cuts units from a place on
pub record LowestCut (us : List ℕ) (start end bits gap : ℕ) : Type 0 where
  pub inside : start + gap < end
  pub places : places_from start (drop start us) ≡ (start + gap) ∷ places_from (start + gap + 1) (drop (start + gap + 1) us)
  pub seen : bits / 2 ^ gap / 2 ≡ mask_l (map is_separator (slice_range us (start + gap + 1) end))

pub lowest_cut : (us : List ℕ) (start end bits : ℕ) → start ≤ end → end ≤ length us → end - start ≤ 64
    → bits ≡ mask_l (map is_separator (slice_range us start end)) → 0 < bits
    → LowestCut us start end bits (count_trailing_zeros 64 bits)
lowest_cut us start end bits ordered within word is some =
    let seen = slice_range us start end in
    let lowest = prefix_len (λ u. not (is_separator u)) seen in
    let size = length-seen us start end within in
    let set : 0 < mask_l (map is_separator seen) = omega (arith, is, some) in
    let first = first_ahead start seen (drop end us) set in
    let same : count_trailing_zeros 64 bits ≡ lowest =
    ap (count_trailing_zeros 64) is ∙ trailing_mask_l is_separator 64 seen (omega (arith, size, word)) set in
    let at : lowest + 1 + start ≡ start + lowest + 1 = omega arith in
    let all = drop_split us start end ordered in
    let rest : drop (lowest + 1) (drop start us) ≡ drop (start + lowest + 1) us =
    drop-drop (lowest + 1) start us ∙ ap (λ n. drop n us) (add_comm start (lowest + 1) ∙ at) in
    let count : end - start ≡ lowest + 1 + (end - (start + lowest + 1)) = omega (arith, first.inside, size) in
    subst (LowestCut us start end bits) (sym same) (record {
      inside = omega (arith, first.inside, size);
      places = grind (arith, lowest, first, all, rest);
      seen =
          ap (λ n. n / 2 ^ lowest / 2) is
          ∙ ap (λ n. n / 2) (bits-drop lowest seen)
          ∙ bits-drop 1 (drop lowest seen)
          ∙ ap (λ vs. mask_l (map is_separator vs))
          (drop-drop 1 lowest seen
          ∙ ap (λ n. drop (lowest + 1) (take n (drop start us))) count
          ∙ drop-take (lowest + 1) (end - (start + lowest + 1)) (drop start us)
          ∙ ap (take (end - (start + lowest + 1))) rest);
    })

-- a text stays one with its slashes replaced
pub IsTextUnit-separator : IsTextUnit separator
IsTextUnit-separator = (omega arith, (omega arith, λ high. omega (arith, high.0)))

pub IsText-with_separators : (us : List ℕ) → IsText us → IsText (with_separators us)
IsText-with_separators us is_text = IsText-replaced slash separator us is_text IsTextUnit-separator

pub IsText-part : (us : List ℕ) (start end : ℕ) → IsText us → IsText (with_separators (slice_range us start end))
IsText-part us start end is_text =
    IsText-with_separators (slice_range us start end)
    (All-take IsTextUnit (end - start) (drop start us) (All-drop IsTextUnit start us is_text))

-- a plain text with a plain block after it is plain, and has the places of the block's separators after its own
pub block_added : (text places block new new_places : List ℕ) → IsPlain text → places ≡ places_of text → IsPlain block
    → new ≡ text ++ block → new_places ≡ places ++ places_from (length text) block → IsPlain new × (new_places ≡ places_of new)
block_added text places block new new_places plain all of_block is are =
    grind (arith, common_steps, All-append, zero-add, places_from-append)

-- what is left of both where a text is cut back
pub text_cut : (text places new new_places : List ℕ) (len count : ℕ) → IsPlain text → places ≡ places_of text
    → count ≡ length (places_of (take len text)) → new ≡ take len text → new_places ≡ take count places
    → IsPlain new × (new_places ≡ places_of new)
text_cut text places new new_places len count plain all counted is are =
    let front = places_of (take len text) in
    let back = places_from (0 + length (take len text)) (drop len text) in
    let both : places_of text ≡ front ++ back =
    ap places_of (sym (take-append-drop len text)) ∙ places_from-append 0 (take len text) (drop len text) in
    rw is (
      All-take (λ unit. unit ≢ slash) len text plain,
      are ∙ ap (take count) (all ∙ both) ∙ take_at front back count (sym counted),
    )

-- the units up to a place, and those after them up to another
pub ranges_joined : (us : List ℕ) (start end : ℕ) → start ≤ end → start ≤ length us
    → take start us ++ slice_range us start end ≡ take end us
ranges_joined us start end ordered within =
    let size : length (take start us) + (end - start) ≡ end = omega (arith, length-take-le start us within, ordered) in
    sym (take-append-add (take start us) (drop start us) (end - start))
    ∙ ap (take (length (take start us) + (end - start))) (take-append-drop start us)
    ∙ ap (λ n. take n us) size

-- a piece has none
places_from-piece : (start : ℕ) (us : List ℕ) → IsPiece us → places_from start us ≡ []
places_from-piece start [] piece = refl
places_from-piece start (u ∷ us) piece =
    places_from-no start u us (ne_eqb u separator (All-head (λ unit. unit ≢ separator) u us piece))
    ∙ places_from-piece (start + 1) us (All-tail (λ unit. unit ≢ separator) u us piece)

cut_at : (text : List ℕ) (end : ℕ) → end < length text → get_or text end 0 ≡ separator → text ≡ take end text ++ separator ∷ drop (end + 1) text
cut_at text end inside is = grind (arith, add-one, drop-cons, take-append-drop)

pub popped : (text : List ℕ) (end : ℕ) → end < length text → get_or text end 0 ≡ separator → IsPiece (drop (end + 1) text) → IsPopped text (take end text)
popped text end inside is piece = record { component = drop (end + 1) text; whole = cut_at text end inside is; piece = piece }

-- the last one goes with the piece after it
pub count-popped : (text : List ℕ) (end : ℕ) → end < length text → get_or text end 0 ≡ separator → IsPiece (drop (end + 1) text)
    → length (places_of text) - 1 ≡ length (places_of (take end text))
count-popped text end inside is piece =
    grind (arith, cut_at text end inside is, places_from-append, places_from-piece, length-append)
