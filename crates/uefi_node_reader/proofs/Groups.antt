-- Forms that stand one group after the other, and what is computed of the whole table.
use Rattle.std.proofs.Common.{◌≡◌, ℕ, suc, ◌+◌, ◌-◌, ◌<◌, ◌≤◌, Bool, true, false, cond, List, [], ◌∷◌, ◌++◌, length, refl, sym, ap, ◌∙◌, arith}
use Rattle.std.specs.Prelude.{Some, None, ◌&&◌}
use Rattle.std.specs.List.{list_all}
use Rattle.std.proofs.lemmas.Bool.{and_parts}
use Rattle.uefi_device_nodes.specs.Rows.{Form, find_form, item_of}
use Rattle.uefi_device_nodes.specs.Table.{forms, forms_from, group_forms}
use Rattle.uefi_device_nodes.proofs.Groups.{all_groups, next_group}
use Rattle.uefi_node_reader.specs.TableReading.{all_differ, form_place, is_filled, is_sound}

pub table_sound : list_all is_sound forms ≡ true
unfolding group_forms item_of
table_sound = refl

pub table_filled : list_all is_filled forms ≡ true
unfolding group_forms
table_filled = refl

pub table_differs : all_differ forms ≡ true
unfolding group_forms
table_differs = refl

-- the same of each group, and that its forms are filled: computed
group_holds : (index : ℕ) → index < 16 → (list_all is_sound (group_forms index) && list_all is_filled (group_forms index)) ≡ true
unfolding group_forms item_of
group_holds = all_groups (λ k. list_all is_sound (group_forms k) && list_all is_filled (group_forms k)) refl

pub group_sound : (index : ℕ) → index < 16 → list_all is_sound (group_forms index) ≡ true
group_sound index l = (and_parts _ _ (group_holds index l)).0

pub group_filled : (index : ℕ) → index < 16 → list_all is_filled (group_forms index) ≡ true
group_filled index l = (and_parts _ _ (group_holds index l)).1

module _ (test : Form → Bool) where
  -- where no form passes a test
  pub no_place : (xs : List Form) → find_form test xs ≡ None → form_place test xs ≡ length xs
  no_place [] e = refl
  no_place (a ∷ xs) e = by (test a) refl e (no_place xs)
    where
      by : (b : Bool) → test a ≡ b → cond b (Some a) (find_form test xs) ≡ None → (find_form test xs ≡ None → form_place test xs ≡ length xs)
          → cond (test a) 0 (form_place test xs + 1) ≡ suc (length xs)
      by true p q h = cc
      by false p q h = let others = h q in ap (λ (b : Bool). cond b 0 (form_place test xs + 1)) p ∙ omega arith

  place_within : (xs bs : List Form) → form_place test xs < length xs → form_place test (xs ++ bs) ≡ form_place test xs
  place_within [] bs l = absurd (omega arith)
  place_within (a ∷ xs) bs l = by (test a) refl l (place_within xs bs)
    where
      by : (b : Bool) → test a ≡ b → cond b 0 (form_place test xs + 1) < suc (length xs) → (form_place test xs < length xs → form_place test (xs ++ bs) ≡ form_place test xs)
          → cond (test a) 0 (form_place test (xs ++ bs) + 1) ≡ cond (test a) 0 (form_place test xs + 1)
      by true p q h = ap (λ (b : Bool). cond b 0 (form_place test (xs ++ bs) + 1)) p ∙ sym (ap (λ (b : Bool). cond b 0 (form_place test xs + 1)) p)
      by false p q h = ap (λ (n : ℕ). cond (test a) 0 (n + 1)) (h (omega arith))

  place_past : (xs bs : List Form) → length xs ≤ form_place test xs → form_place test (xs ++ bs) ≡ length xs + form_place test bs
  place_past [] bs l = omega arith
  place_past (a ∷ xs) bs l = by (test a) refl l (place_past xs bs)
    where
      by : (b : Bool) → test a ≡ b → suc (length xs) ≤ cond b 0 (form_place test xs + 1) → (length xs ≤ form_place test xs → form_place test (xs ++ bs) ≡ length xs + form_place test bs)
          → cond (test a) 0 (form_place test (xs ++ bs) + 1) ≡ suc (length xs) + form_place test bs
      by true p q h = absurd (omega arith)
      by false p q h = let others = h (omega arith) in ap (λ (b : Bool). cond b 0 (form_place test (xs ++ bs) + 1)) p ∙ omega arith

module _ (index : ℕ) (more : index < 15) (group : List Form) (is : group ≡ group_forms index) where
  rest : List Form
  rest = forms_from (index + 1) (15 - (index + 1))

  here : forms_from index (15 - index) ≡ group ++ rest
  unfolding rest
  here = next_group index more ∙ ap (λ (l : List Form). l ++ forms_from (index + 1) (15 - (index + 1))) (sym is)

  -- the search for a place in one group more
  pub within_step : (test : Form → Bool) (before place all : ℕ) → place ≡ form_place test group → place < length group
      → before + form_place test (forms_from index (15 - index)) ≡ all → before + place ≡ all
  within_step test before place all e l a = ap (λ (n : ℕ). before + n)
      (e ∙ sym (place_within test group rest (omega arith)) ∙ ap (λ (l : List Form). form_place test l) (sym here)) ∙ a

  pub past_step : (test : Form → Bool) (before place all : ℕ) → place ≡ form_place test group → length group ≤ place
      → before + form_place test (forms_from index (15 - index)) ≡ all
      → before + length group + form_place test (forms_from (index + 1) (15 - (index + 1))) ≡ all
  unfolding rest
  past_step test before place all e l a =
      let past : form_place test (forms_from index (15 - index)) ≡ length group + form_place test (forms_from (index + 1) (15 - (index + 1))) =
      ap (λ (l : List Form). form_place test l) here ∙ place_past test group rest (omega arith) in
      omega arith
