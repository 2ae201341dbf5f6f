use Rattle.std.proofs.Common.{◌∙◌, refl, sym}
use Rattle.std.proofs.Output.{writes_in_calls_single}
use Rattle.std.proofs.lemmas.Str.{IsUtf8-encode}
use Rattle.uefi_text.proofs.Puts.{puts_as}
use Rattle.uefi_device_path.proofs.LoweredTexts.{commas_left-char, lowered_text-char}
use Rattle.uefi_device_path.proofs.text.cased_texts.CasedSinkTextSink.put_char.Goals as goal

pub returns-then-self : goal.returns-then-self
returns-then-self g c =
    let character = c.args.character in
    let scalar = c.ranges.character.0 in
    let commas = c.args.self.now.commas in
    writes_in_calls_single _ _ _ _ (
      c.pass.ensures.same_reference,
      (
        IsUtf8-encode character scalar,
        (
          puts_as _ _ _ _ _ c.pass.ensures.passed (sym (lowered_text-char commas character scalar) ∙ rw c.if-self.true refl),
          (c.pass.ensures.commas ∙ sym (commas_left-char commas character scalar) ∙ rw c.if-self.true refl, c.pass.ensures.lowers),
        ),
      ),
    )

pub returns-else-self : goal.returns-else-self
returns-else-self g c =
    writes_in_calls_single _ _ _ _ (
      refl,
      (
        IsUtf8-encode c.args.character c.ranges.character.0,
        (puts_as _ _ _ _ _ c.put_char.ensures (rw c.if-self.false refl), (rw c.if-self.false refl, refl)),
      ),
    )
