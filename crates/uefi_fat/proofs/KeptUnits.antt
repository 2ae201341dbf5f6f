-- The step of the loop that writes a name in the characters of short names, and its end.
use Rattle.std.proofs.Common.{◌≡◌, ◌+◌, ◌<◌, ◌≤◌, ℕ, zero, suc, Bool, true, false, not, ◌||◌, List, [], ◌∷◌, ◌++◌, map, min, take, drop, length, inl, inr, arith, ap, set, sym, refl, ◌∙◌, add-one, length-drop}
use Rattle.std.specs.List.{list_any}
use Rattle.std.proofs.lemmas.Bool.{cases_lt, cond-true}
use Rattle.std.proofs.lemmas.Grind.{common_steps}
use Rattle.std.proofs.lemmas.List.{drop_all, length-map, map-append, take-append-drop, take-map, take_all, take_more_set}
use Rattle.std.proofs.lemmas.List.Folds.{list_any-append}
use Rattle.uefi_text.specs.FromStrWithBuf.{with_units}
use Rattle.uefi_fat.specs.Oem.{fat_byte, kept_units}
use Rattle.uefi_fat.specs.Trimming.{is_space_or_dot}

-- one more element
pub next_kept : (units rest : List ℕ) (n u : ℕ) → drop n units ≡ u ∷ rest
    → (n < length units) × (drop (suc n) units ≡ rest) × (take (suc n) units ≡ take n units ++ u ∷ [])
next_kept [] rest zero u e = absurd (cc)
next_kept [] rest (suc n) u e = absurd (cc)
next_kept (k ∷ ks) rest zero u e =
    let head : k ≡ u = cc in
    let tail : ks ≡ rest = cc in
    (omega arith, tail, ap (λ v. v ∷ []) head)
next_kept (k ∷ ks) rest (suc n) u e =
    let others = next_kept ks rest n u e in
    (omega (arith, others.0), others.1, ap (λ us. k ∷ us) others.2)

-- the first elements, as many as there are or have room
take_min : (units : List ℕ) (n room : ℕ) → n ≡ min (length units) room → take n units ≡ take room units
take_min units n room is =
    elim (cases_lt room (length units)) [
      | inl inside ↦ let same : n ≡ room = omega arith in ap (λ k. take k units) same
      | inr all ↦ take_all n units (omega arith) ∙ sym (take_all room units all)
    ]

pub replaced_all : (test : ℕ → Bool) (units : List ℕ) (n room : ℕ) → n ≡ min (length units) room
    → list_any test (take n units) ≡ list_any test (take room units)
replaced_all test units n room is = ap (list_any test) (take_min units n room is)

-- a buffer that begins with the bytes of as many units as it has room for
pub whole_buffer : (units before after : List ℕ) (n : ℕ) → n ≡ min (length units) (length before)
    → take n after ≡ map fat_byte (take n units) → drop n after ≡ drop n before
    → after ≡ with_units (map fat_byte units) before
whole_buffer units before after n is written others =
    let front : take n after ≡ take (length before) (map fat_byte units) =
    written ∙ ap (map fat_byte) (take_min units n (length before) is) ∙ sym (take-map fat_byte (length before) units) in
    let back : drop n after ≡ drop (length (map fat_byte units)) before =
    others ∙ elim (cases_lt (length before) (length units)) [
      | inl inside ↦ drop_all n before (omega arith) ∙ sym (drop_all (length (map fat_byte units)) before (omega (arith, length-map units fat_byte)))
      | inr all ↦ let same : n ≡ length (map fat_byte units) = omega (arith, length-map units fat_byte) in ap (λ k. drop k before) same
    ] in
    sym (take-append-drop n after) ∙ ap (λ us. us ++ drop n after) front ∙ ap (λ us. take (length before) (map fat_byte units) ++ us) back

or_false : (b : Bool) → (b || false) ≡ b
or_false true = refl
or_false false = refl

-- a unit that is kept is the next
pub next_unit : (units left rest : List ℕ) (n u : ℕ) → drop n units ≡ kept_units left → left ≡ u ∷ rest
    → is_space_or_dot u ≡ false → drop n units ≡ u ∷ kept_units rest
next_unit units left rest n u before steps kept =
    before ∙ ap kept_units steps
    ∙ cond-true (not (is_space_or_dot u)) (u ∷ kept_units rest) (kept_units rest) (ap not kept)

-- the byte of one more unit
pub written_more : (units rest buffer : List ℕ) (n u byte : ℕ) → n < length buffer → byte ≡ fat_byte u
    → take n buffer ≡ map fat_byte (take n units) → drop n units ≡ u ∷ rest
    → take (n + 1) (set buffer n byte) ≡ map fat_byte (take (n + 1) units)
written_more units rest buffer n u byte inside is written next =
    take_more_set buffer n byte inside ∙ ap (λ us. us ++ byte ∷ []) written
    ∙ ap (λ b. map fat_byte (take n units) ++ b ∷ []) is
    ∙ sym (ap (λ k. map fat_byte (take k units)) (add-one n) ∙ ap (map fat_byte) ((next_kept units rest n u next).2)
    ∙ map-append fat_byte (take n units) (u ∷ []))

pub others_more : (before buffer : List ℕ) (n byte : ℕ) → n < length buffer → drop n buffer ≡ drop n before
    → drop (n + 1) (set buffer n byte) ≡ drop (n + 1) before
others_more before buffer n byte inside same = grind (arith, common_steps)

pub replaced_more : (test : ℕ → Bool) (units rest : List ℕ) (n u : ℕ) (so_far : Bool)
    → so_far ≡ list_any test (take n units) → drop n units ≡ u ∷ rest
    → (so_far || test u) ≡ list_any test (take (n + 1) units)
replaced_more test units rest n u so_far is next =
    ap (λ b. b || test u) is
    ∙ sym (ap (λ k. list_any test (take k units)) (add-one n) ∙ ap (list_any test) ((next_kept units rest n u next).2)
    ∙ list_any-append test (take n units) (u ∷ []) ∙ ap (λ b. list_any test (take n units) || b) (or_false (test u)))

-- nothing is left after all of a list
pub none_left : (units : List ℕ) (n : ℕ) → drop n units ≡ [] → length units ≤ n
none_left units n none = omega (arith, ap length none, length-drop n units)
