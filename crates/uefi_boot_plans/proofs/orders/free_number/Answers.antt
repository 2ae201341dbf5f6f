use Rattle.std.proofs.Common.{ℕ, ◌≡◌, true, Contains, arith, below_more, nat_cmp, sym, ◌∙◌}
use Rattle.std.proofs.lemmas.Map.Lookups.{exact_unsigned}
use Rattle.std.proofs.lemmas.Map.Views.{btree_set_contains_iff}
use Rattle.std.specs.BTreeSet.{BTreeSet, contains}
use Rattle.std.specs.Cmp.{nat_cmp_total}
use Rattle.uefi_boot_plans.proofs.orders.free_number.Goals as goal

-- a number that is found is among the numbers
found : (used : BTreeSet ℕ) (number : ℕ) → contains nat_cmp used number ≡ true → Contains used.keys number
found used number = (btree_set_contains_iff nat_cmp_total exact_unsigned used number).0

pub loop-number-preserved : goal.loop-number-preserved
loop-number-preserved _ c =
    below_more _ _ c.loop-number.invariant
    (found c.args.used.now c.loop-number.number-counter (sym c.contains.ensures ∙ c.if-not-contains.false))

pub returns-else-not-contains-clause-none : goal.returns-else-not-contains-clause-none
returns-else-not-contains-clause-none _ c = λ _ number below.
    below_more _ _ c.loop-number.invariant
    (found c.args.used.now c.loop-number.number-counter (sym c.contains.ensures ∙ c.if-not-contains.false)) number (omega arith)
