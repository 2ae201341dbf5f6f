-- Where the next unit is not the next character, or one is missing, that decides.
use Rattle.std.proofs.Common.{arith, length-drop, sym, ◌∙◌}
use Rattle.std.proofs.lemmas.List.{drop_more, nil_from_length}
use Rattle.std.proofs.lemmas.Str.{IsUtf8-past_char}
use Rattle.uefi_text.proofs.Prefixes.{no_character_left, no_unit_left, nul_is_next, they_are_same, they_differ}
use Rattle.uefi_text.proofs.strings.eq_str_until_nul.are_equal_by_unit.Goals as goal

pub returns-in_default : goal.returns-in_default
returns-in_default c = no_character_left _ _ c.loop-unit.invariant.same c.in_default.ensures.steps.0.0

pub returns-then-character-eq0 : goal.returns-then-character-eq0
returns-then-character-eq0 c =
    let so_far = c.loop-unit.invariant in
    nul_is_next _ _ so_far.same c.in-Some.character _ so_far.utf8 c.in-Some.ensures.steps.0 c.if-character-eq0.true

pub returns-then-from : goal.returns-then-from
returns-then-from c =
    let so_far = c.loop-unit.invariant in
    let some = drop_more c.args.units.now c.loop-unit.unit-index 0 c.loop-unit-test.true in
    they_differ _ _ so_far.same c.in-Some.character _ so_far.utf8 c.in-Some.ensures.steps.0 _ _ some c.if-character-eq0.false
    (λ is. c.if-from.true (c.from.ensures ∙ is ∙ sym c.from-in-loop-unit.ensures))

pub loop-unit-preserved : goal.loop-unit-preserved
loop-unit-preserved c =
    let so_far = c.loop-unit.invariant in
    let some = drop_more c.args.units.now c.loop-unit.unit-index 0 c.loop-unit-test.true in
    record {
      utf8 = IsUtf8-past_char _ _ _ so_far.utf8 c.in-Some.ensures.steps.0;
      same = they_are_same _ _ so_far.same c.in-Some.character _ so_far.utf8 c.in-Some.ensures.steps.0 _ _ some c.if-character-eq0.false
          (sym c.from.ensures ∙ c.if-from.false ∙ c.from-in-loop-unit.ensures);
    }

pub returns : goal.returns
returns c = no_unit_left _ _ c.loop-unit.invariant.same
    (nil_from_length _ (omega (arith, length-drop c.loop-unit.unit-index c.args.units.now, c.loop-unit-test.false)))
