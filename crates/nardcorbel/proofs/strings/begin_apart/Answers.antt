use Rattle.std.proofs.Common.{◌<◌, ◌∙◌, arith, length, sym}
use Rattle.std.proofs.lemmas.Bool.Decides.{nat_tests}
use Rattle.nardcorbel.proofs.FirstUnits.{apart}
use Rattle.nardcorbel.proofs.strings.begin_apart.Goals as goal

pub returns : goal.returns
returns c = λ yes same.
    let some : 0 < length c.args.first.now = grind (arith, nat_tests, c.is_empty.ensures, c.if-is_empty.false) in
    let other : 0 < length c.args.second.now = grind (arith, nat_tests, c.is_empty-else-is_empty.ensures, c.if-is_empty-2.false) in
    apart c.args.first.now c.args.second.now some other (λ e. grind (arith, nat_tests, yes, c.upper.ensures ∙ e ∙ sym c.upper-2.ensures)) same
