-- One character more is passed on, and at the end all are.
use Rattle.std.proofs.Common.{◌++◌, ◌∷◌, [], ◌∙◌, ap}
use Rattle.std.proofs.lemmas.Str.{IsUtf8-past_char}
use Rattle.std.specs.Prelude.{encode_utf8}
use Rattle.std.specs.Str.{encode_utf8_all}
use Rattle.uefi_text.proofs.Puts.{puts_as, puts_two}
use Rattle.uefi_text.proofs.Texts.{chars_end, chars_step}
use Rattle.uefi_device_path.specs.LibefivarTexts.{all_lowered, commas_after, commas_left, lowered, lowered_text}
use Rattle.uefi_device_path.proofs.LoweredTexts.{commas_left-append, lowered_more}
use Rattle.uefi_device_path.proofs.text.cased_texts.CasedSink.pass_all.Goals as goal

pub loop-character-preserved : goal.loop-character-preserved
loop-character-preserved g c =
    let so_far = c.loop-character.invariant in
    let yielded = c.loop-character.yielded in
    let character = c.in-Some.character in
    let commas = c.args.self.now.commas in
    record {
      utf8 = IsUtf8-past_char _ _ _ so_far.utf8 c.in-Some.ensures.steps.0;
      to_come = chars_step yielded _ _ _ _ so_far.utf8 c.in-Some.ensures.steps.0 so_far.to_come;
      passed = puts_two _ _ _ _ _ _ _ so_far.passed c.pass.ensures.passed
          (ap (λ n. encode_utf8_all (all_lowered commas yielded) ++ encode_utf8 (lowered n character)) so_far.commas ∙ lowered_more commas yielded character);
      commas = c.pass.ensures.commas ∙ ap (λ n. commas_after n character) so_far.commas ∙ commas_left-append commas yielded (character ∷ []);
      lowers = c.pass.ensures.lowers ∙ so_far.lowers;
      same_reference = c.pass.ensures.same_reference ∙ so_far.same_reference;
    }

pub returns-clause-passed : goal.returns-clause-passed
unfolding lowered_text
returns-clause-passed g c =
    let so_far = c.loop-character.invariant in
    let all = chars_end c.loop-character.yielded _ _ c.in-None.ensures.steps.0.0 so_far.to_come in
    puts_as _ _ _ _ _ so_far.passed (ap (λ cs. encode_utf8_all (all_lowered c.args.self.now.commas cs)) all)

pub returns-clause-commas : goal.returns-clause-commas
returns-clause-commas g c =
    let so_far = c.loop-character.invariant in
    let all = chars_end c.loop-character.yielded _ _ c.in-None.ensures.steps.0.0 so_far.to_come in
    so_far.commas ∙ ap (commas_left c.args.self.now.commas) all
