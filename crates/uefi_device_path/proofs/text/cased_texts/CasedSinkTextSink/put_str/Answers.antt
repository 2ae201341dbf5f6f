use Rattle.std.proofs.Common.{◌∙◌, refl}
use Rattle.std.proofs.Output.{writes_in_calls_single}
use Rattle.uefi_text.proofs.Puts.{puts_as}
use Rattle.uefi_device_path.proofs.text.cased_texts.CasedSinkTextSink.put_str.Goals as goal

pub returns-then-self : goal.returns-then-self
returns-then-self g c =
    writes_in_calls_single _ _ _ _ (
      c.pass_all.ensures.same_reference,
      (
        c.utf8.text,
        (
          puts_as _ _ _ _ _ c.pass_all.ensures.passed (rw c.if-self.true refl),
          (c.pass_all.ensures.commas ∙ rw c.if-self.true refl, c.pass_all.ensures.lowers),
        ),
      ),
    )

pub returns-else-self : goal.returns-else-self
returns-else-self g c =
    writes_in_calls_single _ _ _ _ (
      refl,
      (
        c.utf8.text,
        (puts_as _ _ _ _ _ c.put_str.ensures (rw c.if-self.false refl), (rw c.if-self.false refl, refl)),
      ),
    )
