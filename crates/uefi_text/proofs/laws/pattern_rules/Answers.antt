use Rattle.std.proofs.Common.{◌∷◌, ◌++◌, [], sym, subst}
use Rattle.uefi_text.specs.Patterns.{Matches, Nothing, Any, One, OneOf, Itself}
use Rattle.uefi_text.proofs.PatternCuts.{any_cut, one_cut, one_of_cut, only_nothing, open_set, same_cut}
use Rattle.uefi_text.proofs.laws.pattern_rules.Goals as goal

pub returns-clause-nothing : goal.returns-clause-nothing
returns-clause-nothing c text = (only_nothing text, λ e. subst (λ us. Matches [] us) (sym e) Nothing)

pub returns-clause-any : goal.returns-clause-any
returns-clause-any c pattern text = (
  λ m. let cut = any_cut pattern text m in (cut.front, cut.back, cut.whole, cut.goes_on),
  λ cut. subst (λ us. Matches (42 ∷ pattern) us) (sym cut.2) (Any cut.0 cut.3),
)

pub returns-clause-one : goal.returns-clause-one
returns-clause-one c pattern text = (
  λ m. let cut = one_cut pattern text m in (cut.first, cut.back, cut.whole, cut.goes_on),
  λ cut. subst (λ us. Matches (63 ∷ pattern) us) (sym cut.2) (One cut.0 cut.3),
)

pub returns-clause-set : goal.returns-clause-set
returns-clause-set c set pattern text none = (
  λ m. let cut = one_of_cut set pattern text none m in (cut.first, cut.back, cut.whole, cut.taken, cut.goes_on),
  λ cut. subst (λ us. Matches (91 ∷ (set ++ 93 ∷ pattern)) us) (sym cut.2) (OneOf set cut.0 none cut.3 cut.4),
)

pub returns-clause-open_set : goal.returns-clause-open_set
returns-clause-open_set c = open_set

pub returns-clause-itself : goal.returns-clause-itself
returns-clause-itself c unit pattern text no_any no_one no_set = (
  λ m. let cut = same_cut unit pattern text no_any no_one no_set m in (cut.first, cut.back, cut.whole, cut.taken, cut.goes_on),
  λ cut. subst (λ us. Matches (unit ∷ pattern) us) (sym cut.2) (Itself unit cut.0 no_any no_one no_set cut.3 cut.4),
)
