-- Texts that are tried in one form after the other, one group of forms after the other.
use Rattle.std.proofs.Common.{◌≡◌, ℕ, suc, ◌+◌, ◌-◌, ◌<◌, List, [], ◌∷◌, ◌++◌, length, refl, sym, ap, ◌∙◌, arith}
use Rattle.std.specs.Prelude.{Option, Some, None, Result, Ok, Err}
use Rattle.std.specs.Option.{ok_or}
use Rattle.std.specs.Result.{result_ok}
use Rattle.uefi_device_nodes.specs.Rows.{Form}
use Rattle.uefi_device_nodes.specs.Table.{forms_from, group_forms}
use Rattle.uefi_device_nodes.proofs.Groups.{next_group}
use Rattle.uefi_device_nodes.specs.Nodes.{Node}
use Rattle.uefi_node_reader.specs.FieldReading.{either_read}
use Rattle.uefi_node_reader.specs.LenientCalls.{first_tried, or_next}
use Rattle.uefi_node_reader.specs.Stops.{further}
use Rattle.uefi_node_reader.specs.TableReading.{form_read, forms_read, kept}
use Rattle.uefi_node_reader.specs.declared.errors.faults.Stop.{Stop}

module _ {A : Type 0} where
  next_assoc : (r : Result A (Option Stop)) (f g : Option Stop → Result A (Option Stop))
      → or_next r (λ stop. or_next (f stop) g) ≡ or_next (or_next r f) g
  next_assoc (Ok read) f g = refl
  next_assoc (Err stop) f g = refl

  module _ (tried : ℕ → Form → Result A (Option Stop)) where
    tried_append : (place : ℕ) (xs ys : List Form) (furthest : Option Stop)
        → first_tried tried place (xs ++ ys) furthest ≡ or_next (first_tried tried place xs furthest) (first_tried tried (place + length xs) ys)
    tried_append place [] ys furthest = ap (λ (n : ℕ). first_tried tried n ys furthest) {x = place} {y = place + 0} (omega arith)
    tried_append place (x ∷ xs) ys furthest =
        ap (or_next (tried place x)) (λ i stop. (tried_append (place + 1) xs ys (further furthest stop)
        ∙ ap (λ (n : ℕ). or_next (first_tried tried (place + 1) xs (further furthest stop)) (first_tried tried n ys))
        {x = place + 1 + length xs} {y = place + suc (length xs)} (omega arith)) i)
        ∙ next_assoc (tried place x) (λ stop. first_tried tried (place + 1) xs (further furthest stop)) (first_tried tried (place + suc (length xs)) ys)

    -- trying one group more
    pub tried_step : (index : ℕ) → index < 15 → (group : List Form) → group ≡ group_forms index
        → (place : ℕ) (furthest : Option Stop) (all : Result A (Option Stop))
        → first_tried tried place (forms_from index (15 - index)) furthest ≡ all
        → (here : Result A (Option Stop)) → here ≡ first_tried tried place group furthest
        → or_next here (first_tried tried (place + length group) (forms_from (index + 1) (15 - (index + 1)))) ≡ all
    tried_step index more group is place furthest all so_far here e =
        let others = forms_from (index + 1) (15 - (index + 1)) in
        ap (λ (r : Result A (Option Stop)). or_next r (first_tried tried (place + length group) others)) e
        ∙ sym (tried_append place group others furthest)
        ∙ ap (λ (l : List Form). first_tried tried place l furthest)
        (ap (λ (l : List Form). l ++ others) is ∙ sym (next_group index more))
        ∙ so_far

-- forms that are tried exactly
pub tried_exactly : (all : List Form) (place : ℕ) (group : List Form) (furthest : Option Stop) (text : List ℕ)
    → result_ok (first_tried (λ place form. ok_or (kept all place form (form_read form text)) None) place group furthest)
    ≡ forms_read all place group text
tried_exactly all place [] furthest text = refl
tried_exactly all place (form ∷ others) furthest text =
    by (kept all place form (form_read form text)) (tried_exactly all (place + 1) others (further furthest None) text)
  where
    by : (o : Option (Node × List ℕ))
        → result_ok (first_tried (λ place form. ok_or (kept all place form (form_read form text)) None) (place + 1) others (further furthest None))
        ≡ forms_read all (place + 1) others text
        → result_ok (or_next (ok_or o None) (λ stop. first_tried (λ place form. ok_or (kept all place form (form_read form text)) None) (place + 1) others (further furthest stop)))
        ≡ either_read o (forms_read all (place + 1) others text)
    by None rest = rest
    by (Some read) rest = refl
