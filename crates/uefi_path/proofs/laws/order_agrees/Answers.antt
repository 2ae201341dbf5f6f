use Rattle.std.proofs.Common.{◌≡◌, ℕ, List, true, sym, ◌∙◌, refl, arith}
use Rattle.std.proofs.lemmas.Bool.{false≢true}
use Rattle.std.proofs.lemmas.Bool.Decides.{nat_tests}
use Rattle.std.proofs.lemmas.Cmp.{same_from_slice_cmp}
use Rattle.std.specs.Cmp.{nat_cmp_total, on_total}
use Rattle.std.specs.Cmp.Lexicographic.{bytes_decides, lists_total, pointwise, slice_cmp}
use Rattle.std.specs.Ordering.{is_eq, nat_cmp}
use Rattle.std.specs.Prelude.{nat_eq}
use Rattle.std.specs.declared.cmp.Ordering.{Ordering}
use Rattle.std.specs.declared.cmp.Ordering.TheVariants.{Equal}
use Rattle.uefi_path.specs.Separators.{canonical}
use Rattle.uefi_path.proofs.laws.order_agrees.Goals as goal

-- texts are tied exactly where they are the same
ties : (us vs : List ℕ) (order : Ordering) → order ≡ slice_cmp nat_cmp us vs
    → is_eq order ≡ pointwise nat_eq us vs
ties =
    same_from_slice_cmp nat_cmp is_eq (pointwise nat_eq) refl (λ _ _. refl) (λ _ _. refl)
    (λ x y xs ys order h. grind (arith, nat_tests))

is_Equal : (order : Ordering) → is_eq order ≡ true → order ≡ Equal
is_Equal order h1 = grind (arith, false≢true)

pub returns-clause-total : goal.returns-clause-total
returns-clause-total c = on_total canonical (lists_total nat_cmp_total)

pub returns-clause-ties : goal.returns-clause-ties
returns-clause-ties c text other =
    let same_texts = bytes_decides (canonical text) (canonical other) in (
      λ tied. same_texts.0 (sym (ties (canonical text) (canonical other) Equal (sym tied))),
      λ same. is_Equal (slice_cmp nat_cmp (canonical text) (canonical other))
          (ties (canonical text) (canonical other) _ refl ∙ same_texts.1 same),
    )
