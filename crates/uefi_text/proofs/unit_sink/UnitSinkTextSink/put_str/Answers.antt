-- The units of one character more are written, and at the end those of all.
use Rattle.std.proofs.Common.{ℕ, List, ◌++◌, ◌∙◌, ap, subst, sym}
use Rattle.std.proofs.Output.{writes_in_calls_single}
use Rattle.std.proofs.lemmas.List.{flat_map_more}
use Rattle.std.proofs.lemmas.Str.{IsUtf8-past_char}
use Rattle.std.specs.Char.Escape.{encode_utf16}
use Rattle.std.specs.List.{flat_map}
use Rattle.std.specs.Str.{IsAscii}
use Rattle.uefi_text.specs.UnitTexts.{AreSunk, utf16_units}
use Rattle.uefi_text.proofs.SunkUnits.{encoded_ascii}
use Rattle.uefi_text.proofs.Texts.{chars_end, chars_step}
use Rattle.uefi_text.proofs.unit_sink.UnitSinkTextSink.put_str.Goals as goal

pub returns-then-is_ascii : goal.returns-then-is_ascii
unfolding utf16_units
returns-then-is_ascii c =
    let ascii : IsAscii c.args.text.now = rw c.if-is_ascii.true at c.is_ascii.ensures.cases in
    let same = c.as_bytes.ensures.value ∙ sym (encoded_ascii c.args.text.now ascii) in
    writes_in_calls_single _ _ _ _ (
      c.add_bytes.ensures.same_reference,
      (
        c.utf8.text,
        λ units start h.
            subst (λ (us : List ℕ). AreSunk us start c.add_bytes.new.self.buffer.now c.add_bytes.new.self.len)
            (ap (λ (us : List ℕ). units ++ us) same) (c.add_bytes.ensures.sunk units start h),
      ),
    )

pub loop-character-preserved : goal.loop-character-preserved
loop-character-preserved c =
    let so_far = c.loop-character.invariant in
    let yielded = c.loop-character.yielded in
    let character = c.in-Some.character in
    record {
      utf8 = IsUtf8-past_char _ _ _ so_far.utf8 c.in-Some.ensures.steps.0;
      to_come = chars_step yielded _ _ _ _ so_far.utf8 c.in-Some.ensures.steps.0 so_far.to_come;
      sunk = λ units start h. subst (λ (us : List ℕ). AreSunk us start c.add_char.new.self.buffer.now c.add_char.new.self.len)
          (flat_map_more encode_utf16 units yielded character)
          (c.add_char.ensures.sunk (units ++ flat_map encode_utf16 yielded) start (so_far.sunk units start h));
      same_reference = c.add_char.ensures.same_reference ∙ so_far.same_reference;
    }

pub returns : goal.returns
unfolding utf16_units
returns c =
    let so_far = c.loop-character.invariant in
    let all = chars_end c.loop-character.yielded _ _ c.in-None.ensures.steps.0.0 so_far.to_come in
    writes_in_calls_single _ _ _ _ (
      so_far.same_reference,
      (
        c.utf8.text,
        λ units start h.
            subst (λ (us : List ℕ). AreSunk us start c.loop-character.self.buffer.now c.loop-character.self.len)
            (ap (λ (cs : List ℕ). units ++ flat_map encode_utf16 cs) all) (so_far.sunk units start h),
      ),
    )
