use Rattle.std.proofs.Common.{◌≡◌, ◌≢◌, ◌<◌, ◌&&◌, ◌∙◌, ℕ, true, arith, length, nat_eq, slice_index, sym}
use Rattle.std.specs.Prelude.{not}
use Rattle.std.proofs.lemmas.Bool.{and_parts}
use Rattle.std.proofs.lemmas.Bool.Decides.{nat_tests}
use Rattle.uefi_text.specs.Case.{upper}
use Rattle.nardcorbel.proofs.FirstUnits.{no_match}
use Rattle.nardcorbel.proofs.strings.begin_otherwise.Goals as goal

pub returns : goal.returns
returns c = λ yes.
    let unit : ℕ = slice_index c.args.units.now 0 in
    let first : ℕ = slice_index c.args.pattern.now 0 in
    let units : 0 < length c.args.units.now = grind (arith, nat_tests, c.is_empty.ensures, c.if-is_empty.false) in
    let pattern : 0 < length c.args.pattern.now = grind (arith, nat_tests, c.is_empty-else-is_empty.ensures, c.if-is_empty-2.false) in
    let said : ((not (nat_eq first 42) && not (nat_eq first 63)) && not (nat_eq first 91)) && not (nat_eq c.upper.result c.upper-2.result) ≡ true = yes in
    let all = and_parts _ _ said in
    let three = and_parts _ _ all.0 in
    let two = and_parts _ _ three.0 in
    let is_other : not (nat_eq c.upper.result c.upper-2.result) ≡ true = all.1 in
    let no_any : not (nat_eq first 42) ≡ true = two.0 in
    let no_one : not (nat_eq first 63) ≡ true = two.1 in
    let no_set : not (nat_eq first 91) ≡ true = three.1 in
    let differ : upper unit ≢ upper first = λ e. grind (arith, nat_tests, is_other, c.upper.ensures ∙ e ∙ sym c.upper-2.ensures) in
    no_match c.pattern_rules.ensures.nothing c.pattern_rules.ensures.itself c.args.units.now c.args.pattern.now units pattern
    (λ e. grind (arith, nat_tests, no_any, e)) (λ e. grind (arith, nat_tests, no_one, e)) (λ e. grind (arith, nat_tests, no_set, e)) differ
