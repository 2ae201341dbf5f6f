-- An iterator that takes the first item of what it shows gives all of it in order.
use Rattle.std.proofs.Common.{◌≡◌, ◌≢◌, Bor, Iter, None, Option, Some, ℕ, List, ◌∷◌, All, length, get_or, inl, inr, ap, subst, arith}
use Rattle.std.specs.List.{HoldsAt}
use Rattle.std.specs.Option.{IfSome, option_copied}
use Rattle.std.specs.Iterator.{YieldsFirst, YieldsFirstBy}
use Rattle.std.specs.Iterator.Adapters.{copied_source, copied_steps}
use Rattle.std.specs.Slice.Iter.{iter_rest, iter_steps}
use Rattle.std.specs.Iterator.Runs.{AllItems, ItemsMapTo, Run}
use Rattle.std.specs.declared.iter.Copied.{Copied}
use Rattle.std.proofs.iter.runs.Lists.{at_some}
use Rattle.std.proofs.iter.runs.Made.{took}
use Rattle.std.proofs.iter.runs.Sources.{from_front}
use Rattle.std.proofs.lemmas.Bool.{cases_lt}
use Rattle.std.proofs.lemmas.Grind.{common_steps}
use Rattle.std.proofs.lemmas.Iterator.Consumers.{YieldsList-from_first, YieldsList-so_far}
use Rattle.uefi_text.specs.Runs.{CopiesNoNul, GivesEach, GivesNoNul}

pub gives_each : {S A B : Type 0} (view : A → B) (left : S → List B) (here : S) → GivesEach view left here
gives_each view left here run seen from =
    let drained = took run in
    let in_order =
    subst (λ s. ItemsMapTo run view (left s)) from
    (from_front (YieldsFirstBy view left) view left (λ s t ended. ap length ended.0) (λ s x t took. took) run seen) in
    let front =
    YieldsList-so_far (YieldsList-from_first view left (left here) (ap left from)) run.items drained.0
    drained.1 in
    (in_order, rw run.long front)

-- an item of a run that gives a list without NUL is none
module _ {S : Type 0} {steps : S → Option ℕ → S → Type 0} (run : Run steps) (items : List ℕ) where
  no_nul_item : ((k : ℕ) → IfSome (run.at k) (λ c. HoldsAt (λ unit. c ≡ unit) items k)) → All (λ c. c ≢ 0) items → AllItems run (λ c. c ≢ 0)
  no_nul_item given no_nul k =
      at_some (run.at k) (λ c. c ≢ 0) (λ c found.
      let same : c ≡ get_or items k 1 = subst (λ item. IfSome item (λ c. HoldsAt (λ unit. c ≡ unit) items k)) found (given k) 1 in
      elim (cases_lt k (length items)) [ inl inside ↦ rw same (no_nul k 1 inside) | inr past ↦ grind (arith, common_steps) ])

-- and no NUL where it shows none
pub gives_no_nul : {S : Type 0} (left : S → List ℕ) (here : S) → All (λ c. c ≢ 0) (left here) → GivesNoNul (YieldsFirst left) here
gives_no_nul left here no_nul run seen from =
    no_nul_item run (left here) (gives_each (λ c. c) left here run seen from).0.3 no_nul

copied_ended : (s t : Copied (Iter ℕ)) → copied_steps iter_steps s None t → length (iter_rest (copied_source s)) ≡ 0
copied_ended s t step = go step.0 step.1 step.2
  where
    go : (o : Option (Bor ℕ)) → iter_steps (copied_source s) o (copied_source t) → None ≡ option_copied o → length (iter_rest (copied_source s)) ≡ 0
    go None taken e = taken.0
    go (Some x) taken e = absurd (cc)

copied_took : (s : Copied (Iter ℕ)) (c : ℕ) (t : Copied (Iter ℕ)) → copied_steps iter_steps s (Some c) t
    → iter_rest (copied_source s) ≡ c ∷ iter_rest (copied_source t)
copied_took s c t step = go step.0 step.1 step.2
  where
    go : (o : Option (Bor ℕ)) → iter_steps (copied_source s) o (copied_source t) → Some c ≡ option_copied o
        → iter_rest (copied_source s) ≡ c ∷ iter_rest (copied_source t)
    go None taken e = absurd (cc)
    go (Some x) taken e = cc

-- nor among the copied items of a slice
pub copies_no_nul : (characters : List ℕ) → All (λ c. c ≢ 0) characters → CopiesNoNul characters
copies_no_nul characters no_nul run seen shown =
    let left = λ (s : Copied (Iter ℕ)). iter_rest (copied_source s) in
    let given = from_front (copied_steps iter_steps) (λ c. c) left copied_ended copied_took run seen in
    no_nul_item run characters (subst (λ items. (k : ℕ) → IfSome (run.at k) (λ c. HoldsAt (λ unit. c ≡ unit) items k)) shown given.3) no_nul
