-- A part more is put, and at the end all of them.
use Rattle.std.proofs.Common.{◌++◌, ◌∙◌, ap, refl, arith}
use Rattle.uefi_text.specs.Views.{items_of}
use Rattle.uefi_device_nodes.specs.FieldTexts.{shown_units, utf16_text}
use Rattle.uefi_text.proofs.Puts.{puts_as, puts_two}
use Rattle.uefi_device_nodes.proofs.UnitsShown.{shown_all, shown_step}
use Rattle.uefi_device_nodes.proofs.field_texts.shown_texts.put_utf16_text.Goals as goal

pub loop-place-preserved : goal.loop-place-preserved
loop-place-preserved g c =
    let so_far = c.loop-place.invariant in
    let part = c.put_part-place in
    record {
      within = part.ensures.within;
      so_far = so_far.so_far ++ part.ensures.text.0;
      rest = shown_step so_far.so_far part.ensures.text.0 (items_of c.name_units-units.result) c.loop-place.place part.result so_far.rest part.ensures.text.2;
      put = puts_two _ _ _ _ _ _ _ so_far.put part.ensures.text.1 refl;
    }

pub returns : goal.returns
unfolding utf16_text
returns g c =
    let so_far = c.loop-place.invariant in
    puts_as _ _ _ _ _ so_far.put
    (shown_all so_far.so_far (items_of c.name_units-units.result) c.loop-place.place so_far.rest (omega arith)
    ∙ ap shown_units c.name_units-units.ensures)
