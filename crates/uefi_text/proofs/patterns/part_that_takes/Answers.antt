use Rattle.std.proofs.Common.{◌+◌, ◌∷◌, ◌∙◌, ap, arith, drop, false, refl, sym, true}
use Rattle.std.proofs.lemmas.Bool.{false≢true}
use Rattle.std.proofs.lemmas.Grind.{common_steps}
use Rattle.uefi_text.specs.Views.{read_units}
use Rattle.uefi_text.proofs.Caseless.{next}
use Rattle.uefi_text.proofs.FirstParts.{refuses_open, refuses_other, refuses_set, takes_one, takes_same, takes_set}
use Rattle.uefi_text.proofs.SetPlaces.{inside_set}
use Rattle.uefi_text.proofs.patterns.part_that_takes.Goals as goal

pub returns-then-first-eq-QUESTION_MARK-clause-takes : goal.returns-then-first-eq-QUESTION_MARK-clause-takes
returns-then-first-eq-QUESTION_MARK-clause-takes c =
    let us = read_units c.args.pattern.now in
    let whole = next us c.args.at c.requires.within ∙ ap (λ u. u ∷ drop (c.args.at + 1) us) (sym c.requires.first) in
    takes_one _ c.args.first _ c.args.unit whole c.if-first-eq-QUESTION_MARK.true

pub returns-in_default-clause-takes : goal.returns-in_default-clause-takes
returns-in_default-clause-takes c =
    let us = read_units c.args.pattern.now in
    let whole = next us c.args.at c.requires.within ∙ ap (λ u. u ∷ drop (c.args.at + 1) us) (sym c.requires.first) in
    refuses_open _ c.args.first _ c.args.unit whole c.if-first-eq-LEFT_BRACKET.true c.in_default.ensures.set

pub returns-then-takes-clause-takes : goal.returns-then-takes-clause-takes
returns-then-takes-clause-takes c =
    let us = read_units c.args.pattern.now in
    let whole = next us c.args.at c.requires.within ∙ ap (λ u. u ∷ drop (c.args.at + 1) us) (sym c.requires.first) in
    takes_set _ c.args.first _ c.args.unit c.in-Some.len whole c.if-first-eq-LEFT_BRACKET.true c.in-Some.ensures.set.0
    ((inside_set _ c.args.unit true (sym c.if-takes.true ∙ c.in-Some.ensures.set.1)).0 refl)

pub returns-else-takes-clause-takes : goal.returns-else-takes-clause-takes
returns-else-takes-clause-takes c =
    let us = read_units c.args.pattern.now in
    let whole = next us c.args.at c.requires.within ∙ ap (λ u. u ∷ drop (c.args.at + 1) us) (sym c.requires.first) in
    refuses_set _ c.args.first _ c.args.unit c.in-Some.len whole c.if-first-eq-LEFT_BRACKET.true c.in-Some.ensures.set.0
    (λ inside. false≢true ((inside_set _ c.args.unit false (sym c.if-takes.false ∙ c.in-Some.ensures.set.1)).1 inside))

pub returns-then-upper-clause-takes : goal.returns-then-upper-clause-takes
returns-then-upper-clause-takes c =
    let us = read_units c.args.pattern.now in
    let whole = next us c.args.at c.requires.within ∙ ap (λ u. u ∷ drop (c.args.at + 1) us) (sym c.requires.first) in
    takes_same _ c.args.first _ c.args.unit whole c.requires.no_star c.if-first-eq-QUESTION_MARK.false c.if-first-eq-LEFT_BRACKET.false
    (grind (arith, common_steps))

pub returns-clause-takes : goal.returns-clause-takes
returns-clause-takes c =
    let us = read_units c.args.pattern.now in
    let whole = next us c.args.at c.requires.within ∙ ap (λ u. u ∷ drop (c.args.at + 1) us) (sym c.requires.first) in
    refuses_other _ c.args.first _ c.args.unit whole c.requires.no_star c.if-first-eq-QUESTION_MARK.false c.if-first-eq-LEFT_BRACKET.false
    (λ e. grind (arith, common_steps))
