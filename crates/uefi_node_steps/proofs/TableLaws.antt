-- The laws of a table.
use Rattle.std.proofs.Common.{◌≡◌, ℕ, ◌≤◌, Bool, true, false, cond, List, [], ◌∷◌, ◌++◌, ◌||◌, not, inl, inr, length, map, refl, sym, ap, subst, ◌∙◌, arith}
use Rattle.std.proofs.lemmas.Bool.{and_parts, cond-false, cond-true}
use Rattle.std.specs.List.{list_all}
use Rattle.std.specs.Prelude.{nat_lt, ◌⊎◌, Ok, Err}
use Rattle.uefi_node_steps.specs.Leaves.{Read}
use Rattle.uefi_node_steps.specs.Steps.{FitsLists, Parts, ends_all, is_closed, is_sound, lists, part_of, step_leaf, steps_leaf}
use Rattle.uefi_node_steps.specs.Table.{FitsForm, Form, IsOf, Tabled, all_differ, are_sound, behind, differ, form_leaf, form_text, forms_read, is_exact, is_read, is_sound_form, lead, or_next, reject}
use Rattle.uefi_node_steps.proofs.Differences.{Stops, led, reject_stops, sound_behind, stops_next}
use Rattle.uefi_node_steps.proofs.ItemLaws.{lists_commas, lists_keep, sound_is, sound_keeps}
use Rattle.uefi_node_steps.proofs.Combinations.{Goes, Keeps}
use Rattle.uefi_node_steps.proofs.StepLaws.{closed_ends}

pub form_keeps : (form : Form) → is_sound_form form ≡ true → Keeps (form_leaf form) (FitsForm form) (λ rest. true)
form_keeps form s =
    let parts = and_parts (is_sound form.laid) (ends_all is_closed form.laid.steps) s in
    sound_keeps lists FitsLists lists_keep lists_commas is_closed (λ rest. true) (λ class rest c e. closed_ends class rest c) form.laid parts.0 parts.1

-- what is known of a form
pub of_all : (test : Form → Bool) (form : Form) (forms : List Form) → IsOf form forms → list_all test forms ≡ true → test form ≡ true
of_all test form [] o e = absurd o
of_all test form (other ∷ forms) (inl same) e = subst (λ (f : Form). test f ≡ true) (sym same) (and_parts (test other) (list_all test forms) e).0
of_all test form (other ∷ forms) (inr o) e = of_all test form forms o (and_parts (test other) (list_all test forms) e).1

pub unless : (a b : Bool) → not a || b ≡ true → a ≡ true → b ≡ true
unless true b e t = e
unless false b e t = cc

-- a form does not read what a later one prints
other_stops : (form other : Form) → is_sound_form form ≡ true → is_sound_form other ≡ true → reject form.laid.steps (lead other.laid.steps) (behind other.laid.steps) ≡ true
    → (data_ : Parts) → FitsForm other data_ → (rest : List ℕ) → Stops ((form_leaf form).read ((form_leaf other).text data_ ++ rest))
other_stops form other s o e data_ f rest =
    let parts = and_parts (is_sound form.laid) (ends_all is_closed form.laid.steps) s in
    let others = and_parts (is_sound other.laid) (ends_all is_closed other.laid.steps) o in
    let behind_is = sound_behind other.laid.size other.laid.steps (record { sound = (sound_is other.laid others.0).steps; ends = others.1 }) in
    stops_next _ _ (led (λ t. Stops ((steps_leaf (step_leaf lists) form.laid.steps).read t)) other.laid.steps (map (part_of data_) other.laid.steps) rest f.parts
    (λ ws fit. reject_stops form.laid.size other.laid.size form.laid.steps (sound_is form.laid parts.0).steps (lead other.laid.steps) (behind other.laid.steps) ws rest behind_is.1 behind_is.0 fit e))

-- the laws of a table whose forms are sound and differ
pub record Reads (forms : List Form) : Type 0 where
  pub again : (x : Form × Parts) (rest : List ℕ) → Tabled forms x → is_exact x.0.mode ≡ true → forms_read forms (form_text x ++ rest) ≡ Ok (x, rest)
  pub goes : (text : List ℕ) → Goes (Tabled forms) text (forms_read forms text)

module _ (form : Form) (forms : List Form) (others : Reads forms) where
  -- a form that is read
  module _ (is : is_read form.mode ≡ true) (sound : is_sound_form form ≡ true) (sounds : are_sound forms ≡ true) (differs : list_all (differ form) forms ≡ true) where
    here : (data_ : Parts) (rest : List ℕ) (o : Read (Form × Parts)) (g : Form) → g ≡ form → FitsForm g data_
        → or_next form ((form_leaf form).read ((form_leaf g).text data_ ++ rest)) o ≡ Ok ((g, data_), rest)
    here data_ rest o g same = subst (λ (g : Form). FitsForm g data_ → or_next form ((form_leaf form).read ((form_leaf g).text data_ ++ rest)) o ≡ Ok ((g, data_), rest)) (sym same)
        (λ f. ap (λ r. or_next form r o) ((form_keeps form sound).again data_ rest f refl))

    found : (x : Form × Parts) (rest : List ℕ) → (x.0 ≡ form) ⊎ IsOf x.0 forms → is_read x.0.mode ≡ true → FitsForm x.0 x.1 → is_exact x.0.mode ≡ true
        → or_next form ((form_leaf form).read (form_text x ++ rest)) (forms_read forms (form_text x ++ rest)) ≡ Ok (x, rest)
    found x rest (inl same) r f e = here x.1 rest _ x.0 same f
    found x rest (inr o) r f e =
        let sound_x = unless (is_read x.0.mode) (is_sound_form x.0) (of_all (λ (f : Form). not (is_read f.mode) || is_sound_form f) x.0 forms o sounds) r in
        let differ_x = unless (is_exact x.0.mode) _ (unless (is_read form.mode) _ (of_all (differ form) x.0 forms o differs) is) e in
        let stop = other_stops form x.0 sound sound_x differ_x x.1 f rest in
        ap (λ r. or_next form r (forms_read forms (form_text x ++ rest))) stop.1 ∙ ap (λ r. or_next form (Err stop.0) r) (others.again x rest (record { listed = o; read = r; told = f }) e)

    read_goes : (text : List ℕ) (r : Read Parts) → Goes (FitsForm form) text r → (o : Read (Form × Parts)) → Goes (Tabled forms) text o → Goes (Tabled (form ∷ forms)) text (or_next form r o)
    read_goes text (Ok read) g o h = (record { listed = inl refl; read = is; told = g.0 }, g.1)
    read_goes text (Err stop) g (Ok read) h = (record { listed = inr h.0.listed; read = h.0.read; told = h.0.told }, h.1)
    read_goes text (Err stop) g (Err other) h = by (nat_lt other.left stop.left)
      where
        by : (b : Bool) → (cond b other stop).left ≤ length text
        by true = h
        by false = g

    with_form : Reads (form ∷ forms)
    with_form = record {
      again = λ x rest t e. cond-true _ _ _ is ∙ found x rest t.listed t.read t.told e;
      goes = λ text. rw is (read_goes text _ ((form_keeps form sound).goes text) _ (others.goes text));
    }

  -- a form that is not read
  module _ (no : is_read form.mode ≡ false) where
    not_here : (x : Form × Parts) → (x.0 ≡ form) ⊎ IsOf x.0 forms → is_read x.0.mode ≡ true → IsOf x.0 forms
    not_here x (inl same) r = absurd (none (sym r ∙ ap (λ (g : Form). is_read g.mode) same ∙ no))
      where
        none : true ≡ false → ⊥
        none e = cc
    not_here x (inr o) r = o

    more : (text : List ℕ) (r : Read (Form × Parts)) → Goes (Tabled forms) text r → Goes (Tabled (form ∷ forms)) text r
    more text (Ok read) g = (record { listed = inr g.0.listed; read = g.0.read; told = g.0.told }, g.1)
    more text (Err stop) g = g

    without_form : Reads (form ∷ forms)
    without_form = record {
      again = λ x rest t e. cond-false _ _ _ no ∙ others.again x rest (record { listed = not_here x t.listed t.read; read = t.read; told = t.told }) e;
      goes = λ text. rw no (more text _ (others.goes text));
    }

first : (form : Form) (forms : List Form) → Reads forms → not (is_read form.mode) || is_sound_form form ≡ true → are_sound forms ≡ true → list_all (differ form) forms ≡ true
    → (b : Bool) → is_read form.mode ≡ b → Reads (form ∷ forms)
first form forms others s sounds d true is = with_form form forms others is (unless (is_read form.mode) (is_sound_form form) s is) sounds d
first form forms others s sounds d false e = without_form form forms others e

pub table_reads : (forms : List Form) → are_sound forms ≡ true → all_differ forms ≡ true → Reads forms
table_reads [] s d = record { again = λ x rest t e. absurd t.listed; goes = λ text. omega arith }
table_reads (form ∷ forms) s d =
    let sounds = and_parts (not (is_read form.mode) || is_sound_form form) (are_sound forms) s in
    let differs = and_parts (list_all (differ form) forms) (all_differ forms) d in
    first form forms (table_reads forms sounds.1 differs.1) sounds.0 sounds.1 differs.0 (is_read form.mode) refl
