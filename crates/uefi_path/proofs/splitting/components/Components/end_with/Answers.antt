-- What precedes the child in the path is what precedes the components to come of one in those of the other.
use Rattle.std.proofs.Common.{◌≡◌, ◌++◌, ◌∙◌, ap, refl, sym, true, false, arith, append-nil}
use Rattle.std.proofs.lemmas.Bool.{false≢true}
use Rattle.std.proofs.lemmas.Grind.{common_steps}
use Rattle.std.specs.Cmp.Lexicographic.{bytes_decides, pointwise}
use Rattle.std.specs.Prelude.{nat_eq}
use Rattle.uefi_text.specs.Views.{units_of}
use Rattle.uefi_path.specs.Views.{components_left}
use Rattle.uefi_path.proofs.TakenComponents.{back_same, back_some, back_step}
use Rattle.uefi_path.proofs.splitting.components.Components.end_with.Goals as goal

pub returns-in_default-next_back : goal.returns-in_default-next_back
returns-in_default-next_back c = (
  λ yes. absurd (false≢true yes),
  λ ends. absurd (back_some (units_of c.in-Some.name) _ _ _ ends.0 c.in_default-next_back.ensures.steps.0 c.in-Some.ensures.steps
      ((c.loop-name.invariant ends.0).0 ends.1)),
)

pub returns-then-ne : goal.returns-then-ne
returns-then-ne c =
    let own = units_of c.in-Some-next_back.own in
    let name = units_of c.in-Some.name in
    let differ : pointwise nat_eq own name ≡ false = grind (arith, common_steps) in (
      λ yes. absurd (false≢true yes),
      λ ends.
          let same = back_same own name _ _ _ _ ends.0 c.in-Some-next_back.ensures.steps c.in-Some.ensures.steps
          ((c.loop-name.invariant ends.0).0 ends.1) in
          absurd (false≢true (sym differ ∙ (bytes_decides own name).1 same)),
    )

pub loop-name-preserved : goal.loop-name-preserved
loop-name-preserved c =
    let own = units_of c.in-Some-next_back.own in
    let name = units_of c.in-Some.name in
    let tested : pointwise nat_eq own name ≡ true = grind (arith, common_steps) in
    let same = (bytes_decides own name).0 tested in
    λ front. back_step own name _ _ _ _ front c.in-Some-next_back.ensures.steps c.in-Some.ensures.steps same (c.loop-name.invariant front)

pub returns : goal.returns
returns c =
    let rest = components_left c.loop-name.rest in (
      λ _. (rest, (c.loop-name.invariant rest).1 (sym (ap (λ ps. rest ++ ps) c.in_default.ensures.steps.0 ∙ append-nil rest))),
      λ _. refl,
    )
