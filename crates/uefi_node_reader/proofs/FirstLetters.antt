-- A group of forms reads no call that begins with another letter.
use Rattle.std.proofs.Common.{◌≡◌, ℕ, ◌+◌, ◌&&◌, ◌||◌, ◌⊎◌, inl, inr, Bool, true, false, eqb, List, [], ◌∷◌, sym, ap, ◌∙◌, refl, true≢false, arith}
use Rattle.std.specs.Prelude.{Err, None, Option, Result, Some}
use Rattle.std.specs.Char.{to_ascii_lowercase, to_ascii_uppercase}
use Rattle.std.proofs.lemmas.Bool.{and_parts, or_parts}
use Rattle.std.proofs.lemmas.Bool.Decides.{nat_tests}
use borrow.Author.Tests.{eqb-true}
use Rattle.uefi_device_nodes.specs.Rows.{Form}
use Rattle.uefi_node_reader.specs.FirstLetters.{all_begin_in, begins_in, begins_in_either_case, is_in}
use Rattle.uefi_node_reader.specs.LenientCalls.{begins_call_name, first_tried, or_next}
use Rattle.uefi_node_reader.specs.Stops.{further}
use Rattle.uefi_node_reader.specs.declared.errors.faults.Stop.{Stop}

-- a letter in either case is a letter in that case
cased : (c t : ℕ) → eqb (to_ascii_uppercase c) (to_ascii_uppercase t) ≡ true → (c ≡ to_ascii_uppercase t) ⊎ (c ≡ to_ascii_lowercase t)
cased c t e = grind (arith, nat_tests, eqb-true _ _ e)

-- a call does not begin with the name of a form that begins with another letter
pub name_unread : (letters : ℕ) (start call : List ℕ) → begins_in letters start ≡ true → begins_in_either_case letters call ≡ false
    → begins_call_name start call ≡ false
name_unread letters [] call s t = absurd (true≢false (sym s))
name_unread letters (c ∷ cs) [] s t = refl
name_unread letters (c ∷ cs) (d ∷ ds) s t = by (eqb (to_ascii_uppercase c) (to_ascii_uppercase d)) refl
  where
    by : (b : Bool) → eqb (to_ascii_uppercase c) (to_ascii_uppercase d) ≡ b → b && (eqb c 40 || begins_call_name cs ds) ≡ false
    by false e = refl
    by true e =
        let none = or_parts (is_in letters (to_ascii_uppercase d)) (is_in letters (to_ascii_lowercase d)) t in
        elim (cased c d e) [
          | inl is ↦ absurd (true≢false (sym s ∙ ap (is_in letters) is ∙ none.0))
          | inr is ↦ absurd (true≢false (sym s ∙ ap (is_in letters) is ∙ none.1))
        ]

-- such forms are not tried
pub none_tried : {A : Type 0} (tried : ℕ → Form → Result A (Option Stop)) (letters place : ℕ) (forms : List Form) (furthest : Option Stop)
    → ((place : ℕ) (form : Form) → begins_in letters form.start ≡ true → tried place form ≡ Err None)
    → all_begin_in letters forms ≡ true → first_tried tried place forms furthest ≡ Err furthest
none_tried tried letters place [] furthest needed a = refl
none_tried {A} tried letters place (form ∷ forms) furthest needed a =
    let parts = and_parts (begins_in letters form.start) (all_begin_in letters forms) a in
    ap (λ (r : Result A (Option Stop)). or_next r (λ stop. first_tried tried (place + 1) forms (further furthest stop)))
    (needed place form parts.0)
    ∙ ap (first_tried tried (place + 1) forms) (same furthest) ∙ none_tried tried letters (place + 1) forms furthest needed parts.1
  where
    same : (stop : Option Stop) → further stop None ≡ stop
    same None = refl
    same (Some stop) = refl
