-- What holds of each text that the formatter took holds of the whole.
use Rattle.std.proofs.Common.{refl, ◌∙◌}
use Rattle.std.proofs.Output.{has_written_append, writes_in_calls_nil}
use Rattle.uefi_text.proofs.Puts.{taken_whole}
use Rattle.uefi_text.proofs.text_sink.put_value.Goals as goal

pub returns : goal.returns
returns g c =
    let whole = taken_whole _ (λ f. (refl, (λ ok. ok, λ plain ok. record { wrote = writes_in_calls_nil _ _; plain = plain })))
    (λ f g h a b one two. (
      two.0 ∙ one.0,
      (
        λ ok. one.1.0 (two.1.0 ok),
        λ plain ok.
            let first = one.1.1 plain (two.1.0 ok) in has_written_append _ _ _ _ _ _ first (two.1.1 first.plain ok),
      ),
    ))
    _ _ _ c.put.ensures in
    record { same_reference = whole.0; writes = whole.1.1 }
