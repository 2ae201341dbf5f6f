-- What a plan keeps of the variables.
use Rattle.std.proofs.Common.{◌≡◌, ◌≢◌, ℕ, ◌∙◌, ap, sym, refl, inl, inr, Bool, true, false, cond, eqb, List, [], ◌∷◌, ◌++◌, Option, None, Some, append_assoc, subst}
use Rattle.std.proofs.lemmas.Bool.{eq-eqb, false≢true, ne_eqb}
use Rattle.uefi_boot_variables.specs.Orders.{stands_in, with_at, without}
use Rattle.uefi_boot_plans.specs.Plans.{Change, deleted, is_next, ordered, written}
use Rattle.uefi_boot_plans.specs.PowerFailures.{CreationIsSafe, DeletionIsSafe, DeletionOnFullIsSafe, EditIsSafe, FirstIsSafe, KeepsOthers, OrderIsSafe, OthersAreSafe, Throughout, Values, values_after, order_in}
use Rattle.uefi_boot_plans.specs.declared.plan.Variable.TheVariants.{Entry, Next, Order, Timeout}
use Rattle.uefi_boot_variables.proofs.OrderLists.{gone, others_keep_order, others_stay}
use Rattle.uefi_text.proofs.UnitBytes.{units_of_bytes-unit_bytes}

-- what an order that is written keeps
order_after : (xs : List ℕ) (now : Values) → order_in (values_after (ordered xs) now) ≡ xs
order_after [] now = refl
order_after (x ∷ xs) now = units_of_bytes-unit_bytes (x ∷ xs)

entry_after : (xs : List ℕ) (now : Values) (m : ℕ) → values_after (ordered xs) now (Entry m) ≡ now (Entry m)
entry_after [] now m = refl
entry_after (x ∷ xs) now m = refl

keeps : (n : ℕ) (before : Values) → KeepsOthers n before before
keeps n before other ne = (refl, refl)

-- a change of the entry itself
other_entry : (b : Bool) (v w : Option (List ℕ)) → b ≡ false → cond b v w ≡ w
other_entry true v w e = cc
other_entry false v w e = refl

keeps-entry : (n : ℕ) (v : Option (List ℕ)) (before now : Values) → KeepsOthers n before now
    → KeepsOthers n before (values_after (record { variable = Entry n; value = v }) now)
keeps-entry n v before now k other ne =
    (other_entry (eqb n other) v (now (Entry other)) (ne_eqb n other (λ e. ne (sym e))) ∙ (k other ne).0, (k other ne).1)

keeps-order : (n : ℕ) (xs : List ℕ) (before now : Values) → KeepsOthers n before now
    → ((other : ℕ) → other ≢ n → stands_in other xs ≡ stands_in other (order_in before))
    → KeepsOthers n before (values_after (ordered xs) now)
keeps-order n xs before now k same other ne =
    (entry_after xs now other ∙ (k other ne).0, ap (stands_in other) (order_after xs now) ∙ same other ne)

keeps-without : (n : ℕ) (before now : Values) → KeepsOthers n before now
    → KeepsOthers n before (values_after (ordered (without n (order_in before))) now)
keeps-without n before now k =
    keeps-order n (without n (order_in before)) before now k (λ other ne. others_stay other n (order_in before) ne)

-- a change that is made only where a test holds
through_if : (Fact : Values → Type 0) (b : Bool) (c : Change) (cs : List Change) (now : Values)
    → (b ≡ true → Fact now × Throughout Fact cs (values_after c now)) → (b ≡ false → Throughout Fact cs now)
    → Throughout Fact (cond b (c ∷ []) [] ++ cs) now
through_if Fact true c cs now t f = t refl
through_if Fact false c cs now t f = f refl

through_last : (Fact : Values → Type 0) (b : Bool) (c : Change) (now : Values)
    → Fact now → (b ≡ true → Fact (values_after c now)) → Throughout Fact (cond b (c ∷ []) []) now
through_last Fact true c now here t = (here, t refl)
through_last Fact false c now here t = here

-- the entry itself
itself : (b : Bool) (v w : Option (List ℕ)) → b ≡ true → cond b v w ≡ v
itself true v w e = refl
itself false v w e = cc

at_itself : (n : ℕ) (v : Option (List ℕ)) (now : Values) → values_after (record { variable = Entry n; value = v }) now (Entry n) ≡ v
at_itself n v now = itself (eqb n n) v (now (Entry n)) (eq-eqb n n refl)

-- an order with a number at an index has each other number that it had
placed : (index n other : ℕ) (xs : List ℕ) → other ≢ n → stands_in other (with_at index n xs) ≡ stands_in other xs
placed index n other xs ne =
    sym (others_stay other n (with_at index n xs) ne) ∙ ap (stands_in other) (others_keep_order index n xs)
    ∙ others_stay other n xs ne

pub create : CreationIsSafe
create index n entry before =
    let middle : Values = values_after (written (Entry n) entry) before in
    let there : middle (Entry n) ≡ Some entry = at_itself n (Some entry) before in (
      (keeps n before, inl refl),
      (
        (keeps-entry n (Some entry) before before (keeps n before), inr there),
        (
          keeps-order n (with_at index n (order_in before)) before middle (keeps-entry n (Some entry) before before (keeps n before))
              (λ other ne. placed index n other (order_in before) ne),
          inr (entry_after (with_at index n (order_in before)) middle n ∙ there),
        ),
      ),
    )

pub delete : DeletionIsSafe
delete n next before =
    let Fact : Values → Type 0 = λ now. KeepsOthers n before now × (stands_in n (order_in now) ≡ true → now (Entry n) ≡ before (Entry n)) in
    let last : (now : Values) → KeepsOthers n before now → now (Entry n) ≡ before (Entry n) → stands_in n (order_in now) ≡ false
    → Throughout Fact (deleted (Entry n) ∷ []) now =
    λ now k same not_there.
    ((k, λ e. same), (keeps-entry n None before now k, λ e. absurd (false≢true (sym not_there ∙ e)))) in
    let tail : (now : Values) → KeepsOthers n before now → now (Entry n) ≡ before (Entry n) → stands_in n (order_in now) ≡ false
    → Throughout Fact (cond (is_next n next) (deleted Next ∷ []) [] ++ (deleted (Entry n) ∷ [])) now =
    λ now k same not_there. through_if Fact (is_next n next) (deleted Next) (deleted (Entry n) ∷ []) now
    (λ e. ((k, λ e. same), last (values_after (deleted Next) now) k same not_there)) (λ e. last now k same not_there) in
    let xs = order_in before in
    let first : List Change = cond (stands_in n xs) (ordered (without n xs) ∷ []) [] in
    let second : List Change = cond (is_next n next) (deleted Next ∷ []) [] in
    subst (λ cs. Throughout Fact cs before) (sym (append_assoc first second (deleted (Entry n) ∷ [])))
    (through_if Fact (stands_in n xs) (ordered (without n xs)) (second ++ (deleted (Entry n) ∷ [])) before
    (λ e. (
      (keeps n before, λ e. refl),
      tail (values_after (ordered (without n xs)) before) (keeps-without n before before (keeps n before))
          (entry_after (without n xs) before n) (ap (stands_in n) (order_after (without n xs) before) ∙ gone n xs),
    ))
    (λ e. tail before (keeps n before) refl e))

pub delete_on_full : DeletionOnFullIsSafe
delete_on_full n next before =
    let Fact : Values → Type 0 = KeepsOthers n before in
    let xs = order_in before in
    let tail : (now : Values) → KeepsOthers n before now
    → Throughout Fact (deleted (Entry n) ∷ cond (stands_in n xs) (ordered (without n xs) ∷ []) []) now =
    λ now k. (
      k,
      through_last Fact (stands_in n xs) (ordered (without n xs)) (values_after (deleted (Entry n)) now)
          (keeps-entry n None before now k) (λ e. keeps-without n before (values_after (deleted (Entry n)) now) (keeps-entry n None before now k)),
    ) in
    through_if Fact (is_next n next) (deleted Next) (deleted (Entry n) ∷ cond (stands_in n xs) (ordered (without n xs) ∷ []) []) before
    (λ e. (keeps n before, tail (values_after (deleted Next) before) (keeps n before))) (λ e. tail before (keeps n before))

pub order : OrderIsSafe
order numbers before = (((λ n. refl), inl refl), ((λ n. entry_after numbers before n), inr (order_after numbers before)))

pub first : FirstIsSafe
first n before = (
  (keeps n before, refl),
  (
    keeps-order n (with_at 0 n (order_in before)) before before (keeps n before) (λ other ne. placed 0 n other (order_in before) ne),
    entry_after (with_at 0 n (order_in before)) before n,
  ),
)

pub edit : EditIsSafe
edit n entry before = (
  (keeps n before, refl, inl refl),
  (keeps-entry n (Some entry) before before (keeps n before), refl, inr (at_itself n (Some entry) before)),
)

pub others : OthersAreSafe
others (Entry m) value before (inl e) = cc
others (Entry m) value before (inr e) = cc
others Order value before (inl e) = cc
others Order value before (inr e) = cc
others Next value before e = (((λ n. refl), refl), ((λ n. refl), refl))
others Timeout value before e = (((λ n. refl), refl), ((λ n. refl), refl))
