-- A short name is cut at its dot, which is the first.
use Rattle.std.proofs.Common.{◌≡◌, ◌+◌, ◌-◌, ◌<◌, ◌≤◌, ◌↔◌, IsTrue, length-drop, ℕ, suc, Bool, true, false, not, List, [], ◌∷◌, ◌++◌, None, Some, take, drop, length, get_or, slice_range, inl, inr, arith, ap, sym, refl, subst, ◌∙◌, length-append, add-one}
use Rattle.std.specs.List.{AllPass, list_all, position, position_or_len}
use Rattle.std.specs.Prelude.{nat_lt}
use Rattle.std.proofs.Math.Seq.{drop-cons, take-append_seam, drop-append-add}
use Rattle.std.proofs.lemmas.Bool.{cond-true, eqb-true, false_from_ne_true, true≢false}
use Rattle.std.proofs.lemmas.Bool.Decides.{nat_tests}
use Rattle.std.proofs.lemmas.List.{take-append-drop, take_all}
use Rattle.std.proofs.lemmas.List.Sums.{AllPass-from_list_all, list_all-from_AllPass}
use Rattle.std.proofs.lemmas.List.Elements.{All-head, All-tail, All-get_or}
use Rattle.std.proofs.lemmas.List.Quantifiers.{position-Some}
use Rattle.uefi_fat.specs.ShortNames.{IsShortName, IsShortPart, is_short_unit}
use Rattle.uefi_fat.specs.Trimming.{period, is_dot}

-- no character of a short name is a dot
no_dot : (u : ℕ) → is_short_unit u ≡ true → is_dot u ≡ false
no_dot u short =
    false_from_ne_true (is_dot u) (λ dot.
    let same : u ≡ period = eqb-true u period dot in
    true≢false (sym short ∙ ap is_short_unit same))

-- so the first dot stands after the base
first_dot : (base extension : List ℕ) → AllPass is_short_unit base
    → position_or_len is_dot (base ++ period ∷ extension) ≡ length base
first_dot [] extension short = refl
first_dot (u ∷ us) extension short =
    let fails : not (is_dot u) ≡ true = ap not (no_dot u (All-head (λ v. is_short_unit v ≡ true) u us short)) in
    cond-true (not (is_dot u)) (1 + position_or_len is_dot (us ++ period ∷ extension)) 0 fails
    ∙ ap (λ n. 1 + n) (first_dot us extension (All-tail (λ v. is_short_unit v ≡ true) u us short))
    ∙ omega arith

found_dot : (base extension : List ℕ) → AllPass is_short_unit base
    → position is_dot (base ++ period ∷ extension) ≡ Some (length base)
found_dot base extension short =
    let at = first_dot base extension short in
    let inside : nat_lt (position_or_len is_dot (base ++ period ∷ extension)) (length (base ++ period ∷ extension)) ≡ true =
    grind (arith, nat_tests, at, length-append base (period ∷ extension)) in
    cond-true _ (Some (position_or_len is_dot (base ++ period ∷ extension))) None inside ∙ ap Some at

-- without a dot a name is all base
pub base_alone : (name : List ℕ) → position is_dot name ≡ None → IsShortName name ↔ IsShortPart 8 name
base_alone name none = (
  λ short. elim short [
    | inl whole ↦ whole
    | inr (base, extension, is, short_base, short_extension) ↦
        let found : position is_dot name ≡ Some (length base) =
        ap (position is_dot) is ∙ found_dot base extension short_base.short_units in
        absurd (cc)
  ],
  λ whole. inl whole,
)

-- a dot of a name cuts it
cut_at : (name : List ℕ) (dot : ℕ) → dot < length name → is_dot (get_or name dot 0) ≡ true
    → name ≡ take dot name ++ period ∷ drop (dot + 1) name
cut_at name dot inside is =
    let here : drop dot name ≡ period ∷ drop (dot + 1) name =
    rw (add-one) (drop-cons name dot 0 inside ∙ ap (λ u. u ∷ drop (suc dot) name) (eqb-true (get_or name dot 0) period is)) in
    sym (ap (λ us. take dot name ++ us) (sym here) ∙ take-append-drop dot name)

-- with a dot it is the base before the first, and the extension after it
pub base_and_extension : (name : List ℕ) (dot : ℕ) → position is_dot name ≡ Some dot
    → IsShortName name ↔ (IsShortPart 8 (take dot name) × IsShortPart 3 (drop (dot + 1) name))
base_and_extension name dot found =
    let facts = position-Some is_dot name dot 0 found in (
      λ short. elim short [
        | inl whole ↦
            absurd (true≢false (sym facts.1
            ∙ no_dot (get_or name dot 0) (All-get_or (λ v. is_short_unit v ≡ true) name dot 0 facts.0 whole.short_units)))
        | inr (base, extension, is, short_base, short_extension) ↦
            let same : Some (length base) ≡ Some dot =
            sym (found_dot base extension short_base.short_units) ∙ ap (position is_dot) (sym is) ∙ found in
            let place : length base ≡ dot = cc in
            let front : take dot name ≡ base =
            ap (take dot) is ∙ ap (λ n. take n (base ++ period ∷ extension)) (sym place) ∙ take-append_seam base _ in
            let back : drop (dot + 1) name ≡ extension =
            ap (drop (dot + 1)) is ∙ ap (λ n. drop (n + 1) (base ++ period ∷ extension)) (sym place)
            ∙ drop-append-add base (period ∷ extension) 1 in
            (subst (IsShortPart 8) (sym front) short_base, subst (IsShortPart 3) (sym back) short_extension)
      ],
      λ parts. inr (take dot name, drop (dot + 1) name, cut_at name dot facts.0 facts.1, parts.0, parts.1),
    )

-- one way and another
pub both_ways : {A B C : Type 0} → (A → B) × (B → A) → (C → B) × (B → C) → (A → C) × (C → A)
both_ways first second = (λ a. second.1 (first.0 a), λ c. first.1 (second.0 c))

some_length : (part : List ℕ) → (part ≡ [] → ⊥) → 0 < length part
some_length [] some = absurd (some refl)
some_length (u ∷ us) some = omega arith

pub short_part : (answer : Bool) (most : ℕ) (part : List ℕ) → (part ≡ [] → ⊥) → length part ≤ most
    → answer ≡ list_all is_short_unit part → IsTrue answer ↔ IsShortPart most part
short_part answer most part some few is = (
  λ holds. record {
    not_empty = some_length part some;
    within = few;
    short_units = AllPass-from_list_all is_short_unit part (sym is ∙ holds);
  },
  λ short. is ∙ list_all-from_AllPass is_short_unit part short.short_units,
)

-- the parts as they are cut
pub base_at : (name : List ℕ) (dot : ℕ) → slice_range name 0 dot ≡ take dot name
base_at name dot = let same : dot - 0 ≡ dot = omega arith in ap (λ n. take n name) same

pub extension_at : (name : List ℕ) (dot : ℕ) → slice_range name (dot + 1) (length name) ≡ drop (dot + 1) name
extension_at name dot = take_all (length name - (dot + 1)) (drop (dot + 1) name) (omega (arith, length-drop (dot + 1) name))

-- a name is short where its base and its extension are
pub extension_decides : (name base extension : List ℕ) (dot : ℕ) (first second : Bool) → position is_dot name ≡ Some dot
    → base ≡ slice_range name 0 dot → extension ≡ slice_range name (dot + 1) (length name)
    → IsTrue first ↔ IsShortPart 8 base → IsTrue second ↔ IsShortPart 3 extension → first ≡ true
    → IsTrue second ↔ IsShortName name
extension_decides name base extension dot first second found is_base is_extension base_short extension_short taken =
    let cut = base_and_extension name dot found in
    let front : base ≡ take dot name = is_base ∙ base_at name dot in
    let back : extension ≡ drop (dot + 1) name = is_extension ∙ extension_at name dot in (
      λ holds. cut.1
          (subst (IsShortPart 8) front (base_short.0 taken), subst (IsShortPart 3) back (extension_short.0 holds)),
      λ short. extension_short.1 (subst (IsShortPart 3) (sym back) ((cut.0 short).1)),
    )

pub base_decides : (name base : List ℕ) (dot : ℕ) (first : Bool) → position is_dot name ≡ Some dot
    → base ≡ slice_range name 0 dot → IsTrue first ↔ IsShortPart 8 base → first ≡ false
    → IsTrue first ↔ IsShortName name
base_decides name base dot first found is_base base_short refused =
    let cut = base_and_extension name dot found in
    let front : base ≡ take dot name = is_base ∙ base_at name dot in (
      λ holds. absurd (true≢false (sym holds ∙ refused)),
      λ short. base_short.1 (subst (IsShortPart 8) (sym front) ((cut.0 short).0)),
    )
