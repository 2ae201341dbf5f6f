-- What follows the base in the path is what follows the components to come of one in those of the other.
use Rattle.std.proofs.Common.{◌≡◌, ◌∷◌, ◌++◌, ◌∙◌, All, ap, length, refl, subst, sym, arith}
use Rattle.std.proofs.lemmas.Grind.{common_steps}
use Rattle.std.proofs.lemmas.List.Elements.{All-tail}
use Rattle.uefi_text.specs.Case.{uppers}
use Rattle.uefi_text.specs.Units.{IsText}
use Rattle.uefi_text.specs.Views.{units_of}
use Rattle.uefi_path.specs.Views.{components_left}
use Rattle.uefi_path.specs.WithoutCase.{capital_pieces}
use Rattle.uefi_path.proofs.TakenComponents.{dropped_step, same_step, gives_no_nul}
use Rattle.uefi_text.proofs.Runs.{gives_each}
use Rattle.uefi_path.proofs.splitting.components.Components.strip_ignore_case.Goals as goal

pub loop-component-preserved : goal.loop-component-preserved
loop-component-preserved c =
    let so_far = c.loop-component.invariant in
    let component = units_of c.in-Some.component in
    let own = units_of c.in-Some-next.own in
    let theirs : components_left c.loop-component.component-iterator ≡ component ∷ components_left c.next.new.self = c.in-Some.ensures.steps in
    let ours : components_left c.loop-component.rest ≡ own ∷ components_left c.next-in-loop-component.new.self = c.in-Some-next.ensures.steps in
    let same : uppers own ≡ uppers component = grind (arith, common_steps) in
    record {
      same = λ more. same_step own component _ _ _ _ more ours theirs same (so_far.same more);
      left = so_far.left ∙ dropped_step own component _ _ _ _ ours theirs;
      texts = All-tail IsText _ _ (subst (All IsText) ours so_far.texts);
      bound = omega (arith, so_far.bound, ap length ours);
    }

pub returns-clause-starts : goal.returns-clause-starts
returns-clause-starts c =
    let rest = capital_pieces (components_left c.loop-component.rest) in (
      λ _. (
        rest,
        (c.loop-component.invariant.same rest).1 (sym (ap (λ ps. capital_pieces ps ++ rest) c.in-None.ensures.steps.0)),
      ),
      λ _. refl,
    )

pub returns-clause-runs : goal.returns-clause-runs
returns-clause-runs c = gives_each units_of components_left _

pub returns-clause-no_nul : goal.returns-clause-no_nul
returns-clause-no_nul c = gives_no_nul _ c.loop-component.invariant.texts
