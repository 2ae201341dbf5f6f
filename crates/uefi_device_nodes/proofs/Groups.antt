-- Forms that stand one group after the other.
use Rattle.std.proofs.Common.{◌≡◌, ℕ, suc, ◌+◌, ◌-◌, ◌<◌, ◌==◌, ◌&&◌, nat_le, length, map, Bool, true, false, cond, get_or, List, [], ◌∷◌, ◌++◌, refl, sym, ap, ◌∙◌, arith}
use Rattle.std.specs.Prelude.{Option, Some, None}
use Rattle.std.proofs.lemmas.List.FromFn.{get_or-map-range_with_len}
use Rattle.std.specs.List.{list_all, range_with_len}
use Rattle.std.proofs.lemmas.Bool.{and_parts, eqb-true}
use Rattle.uefi_device_nodes.specs.Rows.{Form, begin_with_kind, find_form, has_bytes, have_one_kind, is_laid_out, is_used, matches}
use Rattle.uefi_device_nodes.specs.Table.{forms, forms_from, group_forms}

-- the fields of each form lie in its fixed part: computed
pub table_laid_out : list_all is_laid_out forms ≡ true
unfolding group_forms
table_laid_out = refl

-- what is computed for each group, by its index
pub all_groups : (test : ℕ → Bool) → map test (range_with_len 0 16) ≡ map (λ (k : ℕ). true) (range_with_len 0 16)
    → (index : ℕ) → index < 16 → test index ≡ true
all_groups test computed index more =
    sym (get_or-map-range_with_len test 0 16 index index false more (omega arith))
    ∙ ap (λ (bs : List Bool). get_or bs index false) computed
    ∙ get_or-map-range_with_len (λ (k : ℕ). true) 0 16 index index false more (omega arith)

-- the forms of each group are for nodes of one type: computed
pub one_kind : (index : ℕ) → index < 16 → have_one_kind (group_forms index) ≡ true
unfolding group_forms
one_kind = all_groups (λ k. have_one_kind (group_forms k)) refl

module _ (display_only : Bool) (kind sub_kind : ℕ) (content : List ℕ) where
  no_match : (form : Form) → (form.kind == kind) ≡ false → matches display_only kind sub_kind content form ≡ false
  no_match form e = ap (λ (b : Bool). (b && ((form.sub_kind == sub_kind) && is_used display_only form.mode))
      && (nat_le (form.least + form.more) (length content) && has_bytes form.when content)) e

  none_of : (first : ℕ) → (first == kind) ≡ false → (forms : List Form) → list_all (λ (other : Form). other.kind == first) forms ≡ true
      → find_form (matches display_only kind sub_kind content) forms ≡ None
  none_of first other [] all = refl
  none_of first other (form ∷ forms) all =
      let parts = and_parts (form.kind == first) (list_all (λ (f : Form). f.kind == first) forms) all in
      let same : form.kind ≡ first = eqb-true form.kind first parts.0 in
      let own : matches display_only kind sub_kind content form ≡ false = no_match form (ap (λ (k : ℕ). k == kind) same ∙ other) in
      ap (λ (b : Bool). cond b (Some form) (find_form (matches display_only kind sub_kind content) forms)) own
      ∙ none_of first other forms parts.1

  -- no form of a group of another type is for a node
  pub other_kind : (forms : List Form) → have_one_kind forms ≡ true → begin_with_kind kind forms ≡ false
      → find_form (matches display_only kind sub_kind content) forms ≡ None
  other_kind [] one not = refl
  other_kind (form ∷ forms) one not =
      ap (λ (b : Bool). cond b (Some form) (find_form (matches display_only kind sub_kind content) forms)) (no_match form not)
      ∙ none_of form.kind not forms one

pub next_group : (index : ℕ) → index < 15 → forms_from index (15 - index) ≡ group_forms index ++ forms_from (index + 1) (15 - (index + 1))
next_group index l = ap (λ (n : ℕ). forms_from index n) {x = 15 - index} {y = suc (15 - (index + 1))} (omega arith)

module _ (test : Form → Bool) where
  find_some : (xs bs : List Form) (form : Form) → find_form test xs ≡ Some form → find_form test (xs ++ bs) ≡ Some form
  find_some [] bs form e = cc
  find_some (a ∷ xs) bs form e = by (test a) refl e (find_some xs bs form)
    where
      by : (b : Bool) → test a ≡ b → cond b (Some a) (find_form test xs) ≡ Some form → (find_form test xs ≡ Some form → find_form test (xs ++ bs) ≡ Some form)
          → cond (test a) (Some a) (find_form test (xs ++ bs)) ≡ Some form
      by true p q h = ap (λ (b : Bool). cond b (Some a) (find_form test (xs ++ bs))) p ∙ q
      by false p q h = ap (λ (b : Bool). cond b (Some a) (find_form test (xs ++ bs))) p ∙ h q

  find_none : (xs bs : List Form) → find_form test xs ≡ None → find_form test (xs ++ bs) ≡ find_form test bs
  find_none [] bs e = refl
  find_none (a ∷ xs) bs e = by (test a) refl e (find_none xs bs)
    where
      by : (b : Bool) → test a ≡ b → cond b (Some a) (find_form test xs) ≡ None → (find_form test xs ≡ None → find_form test (xs ++ bs) ≡ find_form test bs)
          → cond (test a) (Some a) (find_form test (xs ++ bs)) ≡ find_form test bs
      by true p q h = cc
      by false p q h = ap (λ (b : Bool). cond b (Some a) (find_form test (xs ++ bs))) p ∙ h q

  module _ (index : ℕ) (more : index < 15) (group : List Form) (is : group ≡ group_forms index) where
    rest : List Form
    rest = forms_from (index + 1) (15 - (index + 1))

    here : forms_from index (15 - index) ≡ group ++ rest
    unfolding rest
    here = next_group index more ∙ ap (λ (l : List Form). l ++ forms_from (index + 1) (15 - (index + 1))) (sym is)

    -- the search of one group more
    pub some_step : (form : Form) (all : Option Form) → Some form ≡ find_form test group
        → find_form test (forms_from index (15 - index)) ≡ all → Some form ≡ all
    some_step form all e a = sym (find_some group rest form (sym e)) ∙ ap (λ (l : List Form). find_form test l) (sym here) ∙ a

    pub none_step : (all : Option Form) → None ≡ find_form test group
        → find_form test (forms_from index (15 - index)) ≡ all → find_form test (forms_from (index + 1) (15 - (index + 1))) ≡ all
    unfolding rest
    none_step all e a = sym (find_none group rest (sym e)) ∙ ap (λ (l : List Form). find_form test l) (sym here) ∙ a
