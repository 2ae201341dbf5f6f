-- What is printed part by part, compared with a text.
use Rattle.std.proofs.Common.{◌≡◌, ℕ, Bool, true, false, cond, eqb, List, [], ◌∷◌, ◌++◌, refl, ap, ◌∙◌}
use Rattle.std.proofs.lemmas.List.{append-nil}
use Rattle.std.specs.Prelude.{Result, Ok, Err}
use Rattle.std.specs.Fmt.{WritesInCalls}
use Rattle.uefi_text.proofs.Puts.{taken_whole}
use Rattle.uefi_node_steps.specs.Leaves.{◌>>=◌, stop_at}
use Rattle.uefi_node_steps.specs.Nodes.{printed_read}
use Rattle.uefi_node_steps.specs.declared.steps.Expected.TheVariants as expected
use Rattle.uefi_node_steps.specs.declared.steps.Stop.{Stop}

no_part : (r : Result (List ℕ) Stop) → r ≡ (r >>= printed_read [])
no_part (Ok text) = refl
no_part (Err stop) = refl

both_parts : (a b text : List ℕ) → (printed_read a text >>= printed_read b) ≡ printed_read (a ++ b) text
both_parts [] b text = refl
both_parts (d ∷ ds) b [] = refl
both_parts (d ∷ ds) b (c ∷ cs) = by (eqb c d) (both_parts ds b cs)
  where
    by : (t : Bool) → (printed_read ds cs >>= printed_read b) ≡ printed_read (ds ++ b) cs
        → (cond t (printed_read ds cs) (Err (stop_at (c ∷ cs) (expected.Letter d))) >>= printed_read b) ≡ cond t (printed_read (ds ++ b) cs) (Err (stop_at (c ∷ cs) (expected.Letter d)))
    by true h = h
    by false h = refl

two_parts : (a b : List ℕ) (r : Result (List ℕ) Stop) → ((r >>= printed_read a) >>= printed_read b) ≡ (r >>= printed_read (a ++ b))
two_parts a b (Ok text) = both_parts a b text
two_parts a b (Err stop) = refl

-- all parts that a sink took
module _ {S : Type 0} (left : S → Result (List ℕ) Stop) where
  abbrev took : S → List ℕ → S → Type 0
  took old text new = left new ≡ (left old >>= printed_read text)

  pub compared : (old new : S) (all : List ℕ) → WritesInCalls took old all new → left new ≡ (left old >>= printed_read all)
  compared old new all w = taken_whole took (λ s. no_part (left s))
      (λ f g h a b p q. q ∙ ap (λ r. r >>= printed_read b) p ∙ two_parts a b (left f)) old new all w

  -- one part
  pub one_part : (old new : S) (part text : List ℕ) → part ≡ text → left new ≡ (left old >>= printed_read part) → WritesInCalls took old text new
  one_part old new part text same e = record {
    parts = text ∷ [];
    calls = (new, e ∙ ap (λ (l : List ℕ). left old >>= printed_read l) same, refl);
    whole = append-nil text;
  }
