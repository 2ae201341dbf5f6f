-- The units that have room stand after those before them.
use Rattle.std.proofs.Common.{◌≡◌, ◌-◌, ◌∙◌, ap, arith, drop, length-append, length-drop, length-take, sym}
use borrow.Rule.Slice.PartMut.{put_mid}
use Rattle.std.proofs.lemmas.Grind.{common_steps}
use Rattle.std.proofs.lemmas.List.{length-map, take-map}
use Rattle.std.specs.List.{slice_range}
use Rattle.std.specs.Prelude.{length, map, take}
use Rattle.uefi_text.specs.Units.{replaced}
use Rattle.uefi_text.proofs.SunkUnits.{part_more}
use Rattle.uefi_text.proofs.unit_sink.sink_replaced.Goals as goal

pub returns : goal.returns
returns c = λ before old sunk.
    let by = replaced c.args.search c.args.replace in
    let units = c.args.units.now in
    let buffer = c.args.buffer.now in
    let start = c.places_of_part-start.result.0 in
    let end = c.places_of_part-start.result.1 in
    let size = length-map units by in
    let fits : length (slice_range buffer start end) ≡ end - start =
    omega (arith, length-take (end - start) (drop start buffer), length-drop start buffer, c.places_of_part-start.ensures.end) in
    let copied : c.copy_replaced.new.places ≡ take (end - start) (map by units) =
    c.copy_replaced.ensures ∙ ap (λ n. map by (take n units)) fits ∙ sym (take-map by (end - start) units) in
    record {
      count = omega (arith, c.saturating_add.ensures, sunk.count, length-append before (map by units), size);
      written =
          ap (λ us. put_mid start (end - start) buffer us) copied
          ∙ part_more before (map by units) old buffer c.args.len start end sunk (grind (arith, common_steps)) c.places_of_part-start.ensures.start
          (omega (arith, c.places_of_part-start.ensures.end, size));
    }
