-- What follows the base in the path is what follows the components to come of one in those of the other.
use Rattle.std.proofs.Common.{◌≡◌, ◌∷◌, ◌++◌, All, ap, length, refl, subst, true, sym, ◌∙◌, arith}
use Rattle.std.proofs.lemmas.Grind.{common_steps}
use Rattle.std.proofs.lemmas.List.Elements.{All-tail}
use Rattle.std.specs.Cmp.Lexicographic.{bytes_decides, pointwise}
use Rattle.std.specs.Prelude.{nat_eq}
use Rattle.uefi_text.specs.Units.{IsText}
use Rattle.uefi_text.specs.Views.{units_of}
use Rattle.uefi_path.specs.Views.{components_left}
use Rattle.uefi_text.proofs.Runs.{gives_each}
use Rattle.uefi_path.proofs.TakenComponents.{gives_no_nul}
use Rattle.uefi_path.proofs.splitting.components.Components.strip.Goals as goal

pub loop-component-preserved : goal.loop-component-preserved
loop-component-preserved c =
    let component = units_of c.in-Some.component in
    let left = components_left c.next-in-loop-component.new.self in
    let tested : pointwise nat_eq (units_of c.in-Some-next.own) component ≡ true = grind (arith, common_steps) in
    let theirs : components_left c.loop-component.component-iterator ≡ component ∷ components_left c.next.new.self = c.in-Some.ensures.steps in
    let ours : components_left c.loop-component.rest ≡ component ∷ left =
    c.in-Some-next.ensures.steps ∙ ap (λ piece. piece ∷ left) ((bytes_decides _ component).0 tested) in
    record {
      same = grind (arith, c.loop-component, component, theirs, ours);
      texts = All-tail IsText _ _ (subst (All IsText) ours c.loop-component.invariant.texts);
      bound = omega (arith, ap length ours);
    }

pub returns-clause-starts : goal.returns-clause-starts
returns-clause-starts c =
    let rest = components_left c.loop-component.rest in (
      λ _. (
        rest,
        (c.loop-component.invariant.same rest).1 (sym (ap (λ ps. ps ++ rest) c.in-None.ensures.steps.0)),
      ),
      λ _. refl,
    )

pub returns-clause-runs : goal.returns-clause-runs
returns-clause-runs c = gives_each units_of components_left _

pub returns-clause-no_nul : goal.returns-clause-no_nul
returns-clause-no_nul c = gives_no_nul _ c.loop-component.invariant.texts
