use Rattle.std.proofs.Common.{ap, arith, drop, length, length-drop, subst}
use Rattle.uefi_text.specs.PatternParts.{TakesOne}
use Rattle.uefi_text.specs.Views.{read_units}
use Rattle.uefi_text.proofs.SearchSteps.{refuses_at_end}
use Rattle.uefi_text.proofs.patterns.part_at.Goals as goal

pub returns-then-at-len-clause-part : goal.returns-then-at-len-clause-part
returns-then-at-len-clause-part c = refuses_at_end (read_units c.args.pattern.now) c.args.at c.args.unit (omega arith)

pub returns-in-Some-clause-part : goal.returns-in-Some-clause-part
returns-in-Some-clause-part c =
    let at_least = c.in-Some.ensures.within in
    let same = c.get-first.ensures.units in (
      at_least.0,
      omega (arith, at_least.1, ap length same, length-drop c.args.at (read_units c.args.pattern.now)),
      subst (λ us. TakesOne (drop c.args.at us) (drop c.in-Some.n (drop c.args.at us)) c.args.unit) same c.in-Some.ensures.takes,
    )
