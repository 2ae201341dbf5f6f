use Rattle.nardcorbel.proofs.FirstUnits.{same_texts}
use Rattle.nardcorbel.proofs.strings.nard_string_equal_ignore_case.Goals as goal

pub returns-then-eq_ignore_case : goal.returns-then-eq_ignore_case
returns-then-eq_ignore_case c =
    let same = c.if-eq_ignore_case.true in
    (λ _. same_texts c.args.first.now c.args.second.now (c.eq_ignore_case.ensures.0 same), λ _. same)
