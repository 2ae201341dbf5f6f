-- What holds of each part that the sink took holds of the whole.
use Rattle.std.proofs.Common.{refl, ◌∙◌, ◌++◌, ap, sym}
use Rattle.std.proofs.Output.{writes_in_calls_nil}
use Rattle.std.proofs.lemmas.Str.{IsUtf8-append, IsUtf8-nil}
use Rattle.uefi_device_path.specs.LibefivarTexts.{cased, commas_to_come}
use Rattle.uefi_text.proofs.Puts.{puts_as, puts_two, taken_whole}
use Rattle.uefi_device_path.proofs.LoweredTexts.{cased-append, cased-nil, come-append, come-nil}
use Rattle.uefi_device_path.proofs.text.cased_texts.put_value.Goals as goal

pub returns : goal.returns
returns g c =
    let whole = taken_whole _
    (λ f. (refl, (IsUtf8-nil, (puts_as _ _ _ _ _ (writes_in_calls_nil _ _) (sym (cased-nil f.lowers f.commas)), (sym (come-nil f.lowers f.commas), refl)))))
    (λ f g h a b one two. (
      two.0 ∙ one.0,
      (
        IsUtf8-append a b one.1.0 two.1.0,
        (
          puts_two _ _ _ _ _ _ _ one.1.1.0 two.1.1.0
              (ap (λ l. cased f.lowers f.commas a ++ cased l g.commas b) one.1.1.1.1
              ∙ ap (λ n. cased f.lowers f.commas a ++ cased f.lowers n b) one.1.1.1.0 ∙ cased-append f.lowers f.commas a b one.1.0),
          (
            two.1.1.1.0 ∙ ap (λ l. commas_to_come l g.commas b) one.1.1.1.1 ∙ ap (λ n. commas_to_come f.lowers n b) one.1.1.1.0
                ∙ come-append f.lowers f.commas a b one.1.0,
            two.1.1.1.1 ∙ one.1.1.1.1,
          ),
        ),
      ),
    ))
    _ _ _ c.put.ensures in
    record { same_reference = whole.0; text = whole.1.1.0 }
