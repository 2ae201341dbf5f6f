-- The bytes of the character are added.
use Rattle.std.proofs.Common.{ap, refl, subst, ◌++◌, ◌∙◌, List, ℕ}
use Rattle.std.proofs.Output.{writes_in_calls_single}
use Rattle.uefi_text.specs.UnitTexts.{AreSunk}
use Rattle.nardcorbel.proofs.utf8_buffers.ByteSinkTextSink.put_char.Goals as goal

pub returns : goal.returns
returns c =
    writes_in_calls_single _ _ _ _ (
      refl,
      λ before start h.
          subst (λ (us : List ℕ). AreSunk us start c.sink_bytes-self.new.buffer c.sink_bytes-self.result)
          (ap (λ (us : List ℕ). before ++ us) (c.as_bytes.ensures.value ∙ c.encode_utf8-text.ensures.value)) (c.sink_bytes-self.ensures before start h),
    )
