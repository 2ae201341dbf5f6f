-- The characters are read one by one, and each is a code unit.
use Rattle.std.proofs.Common.{◌≤◌, ◌++◌, ◌∷◌, [], ◌∙◌, ap, arith}
use Rattle.std.proofs.lemmas.List.{length-append}
use Rattle.std.proofs.lemmas.Str.{IsUtf8-past_char}
use Rattle.std.proofs.lemmas.Grind.{common_steps}
use Rattle.uefi_text.proofs.Texts.{char_fits, chars_end, chars_step}
use Rattle.uefi_text.proofs.encode.units_of_few_chars.Goals as goal

pub overflow_cast-character : goal.overflow_cast-character
overflow_cast-character g c =
    let so_far = c.loop-character.invariant in
    let fits : c.in-Some.character ≤ 0xffff = char_fits _ _ _ _ _ so_far.utf8 c.in-Some.ensures.steps.0 so_far.to_come c.requires in
    record { fits = omega arith }

pub loop-character-preserved : goal.loop-character-preserved
loop-character-preserved g c =
    let so_far = c.loop-character.invariant in
    let yielded = c.loop-character.yielded in
    let character = c.in-Some.character in
    record {
      pushed = c.push_reserved.ensures.items ∙ ap (λ us. us ++ character ∷ []) so_far.pushed;
      len = c.push_reserved.ensures.len ∙ omega (arith, so_far.len, length-append yielded (character ∷ []));
      capacity = omega (arith, so_far.capacity, c.push_reserved.ensures.capacity);
      utf8 = IsUtf8-past_char _ _ _ so_far.utf8 c.in-Some.ensures.steps.0;
      to_come = chars_step yielded _ _ _ _ so_far.utf8 c.in-Some.ensures.steps.0 so_far.to_come;
    }

pub returns : goal.returns
returns g c =
    let so_far = c.loop-character.invariant in
    let all = chars_end c.loop-character.yielded _ _ c.in-None.ensures.steps.0.0 so_far.to_come in
    grind (arith, common_steps, all, so_far.pushed)
