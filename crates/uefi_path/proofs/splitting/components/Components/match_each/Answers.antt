use Rattle.std.proofs.Common.{◌≡◌, ◌∷◌, ◌↔◌, ℕ, List, refl, subst}
use Rattle.uefi_text.specs.Patterns.{Matches}
use Rattle.uefi_text.specs.Views.{units_of}
use Rattle.uefi_path.specs.Views.{components_left}
use Rattle.uefi_path.specs.WithoutCase.{MatchEach}
use Rattle.uefi_path.proofs.splitting.components.Components.match_each.Goals as goal

-- what is left decides after a component that its pattern matches
after_a_match : {P : Type 0} (piece own : List ℕ) (us vs pieces owns : List (List ℕ)) → vs ≡ piece ∷ pieces → us ≡ own ∷ owns
    → Matches piece own → P ↔ MatchEach vs us → P ↔ MatchEach pieces owns
after_a_match {P} piece own us vs pieces owns first other here before =
    let both : P ↔ MatchEach (piece ∷ pieces) (own ∷ owns) = subst (λ ps. P ↔ MatchEach ps (own ∷ owns)) first (subst (λ ps. P ↔ MatchEach vs ps) other before) in
    (λ p. (both.0 p).1, λ rest. both.1 (here, rest))

pub loop-pattern-preserved : goal.loop-pattern-preserved
loop-pattern-preserved c =
    after_a_match (units_of c.in-Some.pattern) (units_of c.in-Some-next.component) _ _ _ _ c.in-Some.ensures.steps c.in-Some-next.ensures.steps
    (c.if-not-matches.ensures.0 refl) c.loop-pattern.invariant
