-- The units of a text of one character are its own.
use Rattle.std.proofs.Common.{ap, subst, sym, List, ◌++◌, ℕ}
use Rattle.std.proofs.Output.{writes_in_calls_single}
use Rattle.std.proofs.lemmas.Str.{IsUtf8-encode}
use Rattle.uefi_text.specs.UnitTexts.{AreSunk}
use Rattle.uefi_text.proofs.SunkUnits.{units_one}
use Rattle.uefi_text.proofs.unit_sink.UnitSinkTextSink.put_char.Goals as goal

pub returns : goal.returns
returns c =
    let character = c.args.character in
    writes_in_calls_single _ _ _ _ (
      c.add_char.ensures.same_reference,
      (
        IsUtf8-encode character c.ranges.character.0,
        λ units start h.
            subst (λ (us : List ℕ). AreSunk us start c.add_char.new.self.buffer.now c.add_char.new.self.len)
            (ap (λ (us : List ℕ). units ++ us) (sym (units_one character c.ranges.character.0))) (c.add_char.ensures.sunk units start h),
      ),
    )
