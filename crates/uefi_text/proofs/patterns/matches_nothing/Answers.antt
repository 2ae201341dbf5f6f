use Rattle.std.proofs.Common.{refl, arith, ap, ◌∙◌, sym}
use Rattle.std.proofs.lemmas.Bool.{false≢true}
use Rattle.std.specs.List.{slice_index}
use Rattle.uefi_text.specs.Views.{read_units}
use Rattle.uefi_text.proofs.SearchSteps.{star_of_nothing, other_of_nothing, all_of_nothing}
use Rattle.uefi_text.proofs.patterns.matches_nothing.Goals as goal

pub returns-then-get-ne-STAR-clause-matches : goal.returns-then-get-ne-STAR-clause-matches
returns-then-get-ne-STAR-clause-matches c =
    let unit = c.get.ensures.unit ∙ ap (λ us. slice_index us c.loop-i.i) c.loop-i.invariant.units in (
      λ h. absurd (false≢true h),
      λ m. absurd (other_of_nothing (read_units c.args.pattern.now) c.loop-i.i (omega arith) (λ e. c.if-get-ne-STAR.true (unit ∙ e)) c.loop-i.invariant.decides m),
    )

pub loop-i-preserved : goal.loop-i-preserved
loop-i-preserved c =
    let unit = c.get.ensures.unit ∙ ap (λ us. slice_index us c.loop-i.i) c.loop-i.invariant.units in record {
      units = c.get.ensures.units ∙ c.loop-i.invariant.units;
      decides = star_of_nothing (read_units c.args.pattern.now) c.loop-i.i (omega arith) (sym unit ∙ c.if-get-ne-STAR.false) c.loop-i.invariant.decides;
      cost = omega arith;
    }

pub returns-clause-matches : goal.returns-clause-matches
returns-clause-matches c = (λ _. all_of_nothing (read_units c.args.pattern.now) c.loop-i.i (omega arith) c.loop-i.invariant.decides, λ _. refl)
