-- One byte more has its digits in the text, or none has them there.
use Rattle.std.proofs.Common.{◌∙◌, ◌<◌, length, arith}
use Rattle.std.proofs.lemmas.List.{length-set}
use Rattle.uefi_device_nodes.proofs.GuidTexts.{bytes_more, guid_of, small_at, small_more}
use Rattle.uefi_device_nodes.proofs.field_texts.guid.bytes_in.Goals as goal

pub returns-in_default-clause-none : goal.returns-in_default-clause-none
returns-in_default-clause-none c = λ bytes is has.
    let place = c.loop-place.place in
    c.in_default.ensures.none _ (small_at bytes is place (omega arith)) (has place (omega arith))

pub loop-place-preserved : goal.loop-place-preserved
loop-place-preserved c =
    let bytes = c.loop-place.bytes in
    let place = c.loop-place.place in
    let within : place < length bytes = omega (arith, c.loop-place.invariant.0, c.loop-place-test.true) in (
      length-set bytes place c.in-Some.byte ∙ c.loop-place.invariant.0,
      small_more bytes place c.in-Some.byte within c.loop-place.invariant.1 c.in-Some.ensures.small,
      bytes_more c.args.text.now bytes place c.in-Some.byte within c.loop-place.invariant.2 c.in-Some.ensures.some,
    )

pub returns-clause-is_guid : goal.returns-clause-is_guid
returns-clause-is_guid c = guid_of c.loop-place.bytes c.loop-place.invariant.0 c.loop-place.invariant.1
