-- The bytes that have room stand after those before them.
use Rattle.std.proofs.Common.{◌≡◌, ◌-◌, ◌∙◌, ap, arith, length-append}
use borrow.Rule.Slice.PartMut.{put_mid}
use Rattle.std.proofs.lemmas.Grind.{common_steps}
use Rattle.std.specs.Prelude.{take}
use Rattle.uefi_text.proofs.SunkUnits.{part_more}
use Rattle.nardcorbel.proofs.utf8_buffers.sink_bytes.Goals as goal

pub returns : goal.returns
returns c = λ before old sunk.
    let bytes = c.args.bytes.now in
    let buffer = c.args.buffer.now in
    let start = c.places_of_part-start.result.0 in
    let end = c.places_of_part-start.result.1 in
    let copied : c.copy_from_slice.new.self ≡ take (end - start) bytes = c.copy_from_slice.ensures.after in
    record {
      count = omega (arith, c.saturating_add.ensures, sunk.count, length-append before bytes);
      written =
          ap (λ us. put_mid start (end - start) buffer us) copied
          ∙ part_more before bytes old buffer c.args.len start end sunk (grind (arith, common_steps)) c.places_of_part-start.ensures.start
          c.places_of_part-start.ensures.end;
    }
