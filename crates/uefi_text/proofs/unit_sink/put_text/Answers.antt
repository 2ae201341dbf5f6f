-- What holds of each part that the buffer took holds of the whole.
use Rattle.std.proofs.Common.{refl, ◌∙◌, [], ◌++◌}
use Rattle.std.proofs.lemmas.Str.{IsUtf8-append, IsUtf8-nil}
use Rattle.uefi_text.specs.UnitTexts.{utf16_units}
use Rattle.uefi_text.proofs.Puts.{taken_whole}
use Rattle.uefi_text.proofs.SunkUnits.{sunk_both, sunk_none}
use Rattle.uefi_text.proofs.unit_sink.put_text.Goals as goal

pub returns : goal.returns
returns g c =
    let whole = taken_whole _ (λ f. (refl, (IsUtf8-nil, λ units start h. sunk_none units start _ _ h)))
    (λ f g h a b one two. (
      two.0 ∙ one.0,
      (
        IsUtf8-append a b one.1.0 two.1.0,
        λ units start sunk. sunk_both units a b start _ _ one.1.0 (two.1.1 (units ++ utf16_units a) start (one.1.1 units start sunk)),
      ),
    ))
    _ _ _ c.put.ensures in
    record { same_reference = whole.0; sunk = λ start none. whole.1.1 [] start none }
