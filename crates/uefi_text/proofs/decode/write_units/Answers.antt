-- The units are written one after the other.
use Rattle.std.proofs.Common.{◌+◌, ◌++◌, ◌∙◌, ap, get_or, length, take, arith}
use Rattle.std.specs.Prelude.{encode_utf8, encode_utf8_all}
use Rattle.std.proofs.lemmas.List.{length-append}
use Rattle.uefi_text.proofs.PrintedTexts.{encode_utf8_all-take_more}
use Rattle.uefi_text.proofs.Utf8Bytes.{length-encode_utf8_all-take}
use Rattle.uefi_text.proofs.decode.write_units.Goals as goal

pub write_unit-end-requires : goal.write_unit-end-requires
write_unit-end-requires c =
    let units = c.args.units.now in
    let i = c.loop-unit.unit-index in
    let more = ap length (encode_utf8_all-take_more units i c.loop-unit-test.true) in
    let sum = length-append (encode_utf8_all (take i units)) (encode_utf8 (get_or units i 0)) in
    omega (arith, c.loop-unit.invariant.counted, more, sum, length-encode_utf8_all-take (i + 1) units, c.requires)

pub loop-unit-preserved : goal.loop-unit-preserved
loop-unit-preserved c =
    let units = c.args.units.now in
    let i = c.loop-unit.unit-index in
    let so_far = encode_utf8_all (take i units) in
    let more = encode_utf8_all-take_more units i c.loop-unit-test.true in
    let sum = length-append so_far (encode_utf8 (get_or units i 0)) in
    record {
      counted = omega (arith, c.loop-unit.invariant.counted, ap length more, sum, c.write_unit-end.ensures.end);
      written = c.write_unit-end.ensures.bytes ∙ ap (λ bytes. bytes ++ encode_utf8 (get_or units i 0)) c.loop-unit.invariant.written ∙ more;
    }
