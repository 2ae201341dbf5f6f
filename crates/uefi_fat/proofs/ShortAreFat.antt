-- An 8.3 name is a name of a file: nothing of it is trimmed, it is short enough, and holds no illegal unit.
use Rattle.std.proofs.Common.{◌≡◌, ◌+◌, ◌-◌, ◌<◌, ◌≤◌, ◌||◌, ◌==◌, ℕ, suc, Bool, true, false, not, List, [], ◌∷◌, ◌++◌, All, drop, length, get_or, inl, inr, arith, ap, sym, refl, subst, ◌∙◌, length-append}
use Rattle.std.specs.Prelude.{nat_lt}
use Rattle.std.specs.List.{AllPass, list_any, prefix_len, range_with_len, suffix_len}
use Rattle.std.proofs.lemmas.Bool.{cond-false, eqb-true, false_from_ne_true, true≢false}
use Rattle.std.proofs.lemmas.Bool.Decides.{nat_tests}
use Rattle.std.proofs.lemmas.List.{get_or-append-add, take_all}
use Rattle.std.proofs.lemmas.List.Elements.{All-append, All-cons, All-contains, All-get_or, All-head, All-weaker}
use Rattle.std.proofs.lemmas.List.Folds.{Any-from_list_any}
use Rattle.std.proofs.lemmas.List.FromFn.{get_or-range_with_len, length-range_with_len}
use Rattle.std.proofs.lemmas.List.Sums.{AllPass-from_list_all, suffix_len-take_no}
use Rattle.uefi_text.specs.Units.{denied_characters}
use Rattle.uefi_fat.specs.LongNames.{IsFatName, is_illegal}
use Rattle.uefi_fat.specs.ShortNames.{IsShortName, IsShortPart, is_short_unit}
use Rattle.uefi_fat.specs.Trimming.{period, is_space, is_space_or_dot, trimmed, without_leading, without_trailing}

-- no illegal unit stands in short names, since none of those does
failed : (b : Bool) → not b ≡ true → b ≡ false
failed true e = absurd (cc)
failed false e = refl

low_unfit : (u : ℕ) → u < 0x20 → is_short_unit u ≡ false
low_unfit u low =
    let all = AllPass-from_list_all (λ v. not (is_short_unit v)) (range_with_len 0 0x20) refl in
    let inside : u < length (range_with_len 0 0x20) = omega (arith, length-range_with_len 0 0x20) in
    let here : get_or (range_with_len 0 0x20) u 0 ≡ u = get_or-range_with_len 0 0x20 u 0 low ∙ omega arith in
    failed (is_short_unit u)
    (subst (λ v. not (is_short_unit v) ≡ true) here
    (All-get_or (λ v. not (is_short_unit v) ≡ true) (range_with_len 0 0x20) u 0 inside all))

denied_unfit : (u : ℕ) → list_any (λ other. other == u) denied_characters ≡ true → is_short_unit u ≡ false
denied_unfit u denied =
    let found = Any-from_list_any (λ other. other == u) denied_characters denied in
    let all = AllPass-from_list_all (λ v. not (is_short_unit v)) denied_characters refl in
    failed (is_short_unit u)
    (subst (λ v. not (is_short_unit v) ≡ true) (eqb-true found.1 u found.4)
    (All-contains (λ v. not (is_short_unit v) ≡ true) denied_characters found.1 all (found.0, found.2, found.3)))

unfit : (u : ℕ) (low denied : Bool) → nat_lt u 0x20 ≡ low → list_any (λ other. other == u) denied_characters ≡ denied
    → (low || denied) ≡ true → is_short_unit u ≡ false
unfit u true denied is_low is_denied illegal = low_unfit u (grind (arith, nat_tests))
unfit u false true is_low is_denied illegal = denied_unfit u is_denied
unfit u false false is_low is_denied illegal = absurd (cc)

legal : (u : ℕ) → is_short_unit u ≡ true → is_illegal u ≡ false
legal u short =
    false_from_ne_true (is_illegal u) (λ illegal.
    true≢false (sym short ∙ unfit u (nat_lt u 0x20) (list_any (λ other. other == u) denied_characters) refl refl illegal))

-- nor is one of them trimmed
trimmed_unfit : (u : ℕ) (space dot : Bool) → (u == 0x20) ≡ space → (u == period) ≡ dot → (space || dot) ≡ true
    → is_short_unit u ≡ false
trimmed_unfit u true dot is_space is_dot end = ap is_short_unit (eqb-true u 0x20 is_space)
trimmed_unfit u false true is_space is_dot end = ap is_short_unit (eqb-true u period is_dot)
trimmed_unfit u false false is_space is_dot end = absurd (cc)

next_at : (x : ℕ) (xs : List ℕ) (i : ℕ) → get_or (x ∷ xs) (1 + i) 0 ≡ get_or xs i 0
next_at x xs i = let same : 1 + i ≡ suc i = omega arith in ap (λ k. get_or (x ∷ xs) k 0) same

no_end : (u : ℕ) → is_short_unit u ≡ true → is_space_or_dot u ≡ false
no_end u short =
    false_from_ne_true (is_space_or_dot u) (λ end. true≢false (sym short ∙ trimmed_unfit u (u == 0x20) (u == period) refl refl end))

no_space : (u : ℕ) → is_short_unit u ≡ true → is_space u ≡ false
no_space u short =
    false_from_ne_true (is_space u) (λ space. true≢false (sym short ∙ ap is_short_unit (eqb-true u 0x20 space)))

-- so what begins and ends with such units is trimmed already
untrimmed : (u last : ℕ) (us : List ℕ) → is_short_unit u ≡ true → is_short_unit last ≡ true
    → last ≡ get_or (u ∷ us) (length us) 0 → trimmed (u ∷ us) ≡ u ∷ us
untrimmed u last us first_short last_short is_last =
    let name = u ∷ us in
    let none_before : prefix_len is_space name ≡ 0 =
    cond-false (is_space u) (1 + prefix_len is_space us) 0 (no_space u first_short) in
    let leading : without_leading is_space name ≡ name = ap (λ n. drop n name) none_before in
    let end : is_space_or_dot (get_or name (length name - 1) 0) ≡ false =
    let place : length us ≡ length name - 1 = omega arith in
    subst (λ i. is_space_or_dot (get_or name i 0) ≡ false) place
    (subst (λ v. is_space_or_dot v ≡ false) is_last (no_end last last_short)) in
    let some : 0 < length name = omega arith in
    let all : length name ≤ length name = omega arith in
    let none_after : suffix_len is_space_or_dot name ≡ 0 =
    subst (λ xs. suffix_len is_space_or_dot xs ≡ 0) (take_all (length name) name all)
    (suffix_len-take_no is_space_or_dot name (length name) 0 some all end) in
    let whole : length name ≤ length name - suffix_len is_space_or_dot name = omega (arith, none_after) in
    ap (without_trailing is_space_or_dot) leading
    ∙ take_all (length name - suffix_len is_space_or_dot name) name whole

units_legal : (us : List ℕ) → AllPass is_short_unit us → All (λ v. is_illegal v ≡ false) us
units_legal us short = All-weaker (λ v. is_short_unit v ≡ true) (λ v. is_illegal v ≡ false) legal us short

fat_name : (u : ℕ) (us : List ℕ) → trimmed (u ∷ us) ≡ u ∷ us → length (u ∷ us) ≤ 255
    → All (λ v. is_illegal v ≡ false) (u ∷ us) → IsFatName (u ∷ us)
fat_name u us same short all = record {
  not_empty = λ e. let none : u ∷ us ≡ [] = sym same ∙ e in absurd (cc);
  within = subst (λ xs. length xs ≤ 255) (sym same) short;
  none_illegal = subst (All (λ v. is_illegal v ≡ false)) (sym same) all;
}

base_is_fat : (name : List ℕ) → IsShortPart 8 name → IsFatName name
base_is_fat [] short = let some : 0 < length {A = ℕ} [] = short.not_empty in absurd (omega arith)
base_is_fat (u ∷ us) short =
    let P : ℕ → Type 0 = λ v. is_short_unit v ≡ true in
    let last = get_or (u ∷ us) (length us) 0 in
    let inside : length us < length (u ∷ us) = omega arith in
    fat_name u us
    (untrimmed u last us (All-head P u us short.short_units) (All-get_or P (u ∷ us) (length us) 0 inside short.short_units) refl)
    (omega (arith, short.within)) (units_legal (u ∷ us) short.short_units)

both_are_fat : (base extension : List ℕ) → IsShortPart 8 base → IsShortPart 3 extension
    → IsFatName (base ++ period ∷ extension)
both_are_fat [] extension short after = let some : 0 < length {A = ℕ} [] = short.not_empty in absurd (omega arith)
both_are_fat (u ∷ us) extension short after =
    let P : ℕ → Type 0 = λ v. is_short_unit v ≡ true in
    let rest = us ++ period ∷ extension in
    let end = length extension - 1 in
    let some : 0 < length extension = after.not_empty in
    let inside : end < length extension = omega arith in
    let long : length rest ≡ length us + (1 + length extension) = length-append us (period ∷ extension) ∙ omega arith in
    let place : length rest ≡ length (u ∷ us) + (1 + end) = omega (arith, long) in
    let last_is : get_or extension end 0 ≡ get_or (u ∷ rest) (length rest) 0 =
    sym (ap (λ i. get_or (u ∷ rest) i 0) place ∙ get_or-append-add (u ∷ us) (period ∷ extension) (1 + end) 0
    ∙ next_at period extension end) in
    fat_name u rest
    (untrimmed u (get_or extension end 0) rest (All-head P u us short.short_units)
    (All-get_or P extension end 0 inside after.short_units) last_is)
    (omega (arith, short.within, after.within, long))
    (All-append (λ v. is_illegal v ≡ false) (u ∷ us) (period ∷ extension) (units_legal (u ∷ us) short.short_units)
    (All-cons (λ v. is_illegal v ≡ false) period extension refl (units_legal extension after.short_units)))

pub short_are_fat : (name : List ℕ) → IsShortName name → IsFatName name
short_are_fat name short =
    elim short [
      | inl whole ↦ base_is_fat name whole
      | inr (base, extension, is, short_base, short_extension) ↦
          subst IsFatName (sym is) (both_are_fat base extension short_base short_extension)
    ]
