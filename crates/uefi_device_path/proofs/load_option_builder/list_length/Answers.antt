use Rattle.std.proofs.Common.{◌∙◌, ap, sym, ◌+◌, length, arith}
use Rattle.uefi_device_path.proofs.OptionBytes.{front_all, front_none, front_within, long_more}
use Rattle.uefi_device_path.proofs.load_option_builder.list_length.Goals as goal

pub loop-place-init : goal.loop-place-init
loop-place-init c = (ap length (sym (front_none c.args.paths.now)), omega arith)

pub returns-then-len-more-clause-beyond : goal.returns-then-len-more-clause-beyond
returns-then-len-more-clause-beyond c = λ _.
    let paths = c.args.paths.now in
    let more = long_more paths c.loop-place.place c.index-paths-place.result c.as_bytes-more.result.now c.loop-place-test.true c.index-paths-place.is c.as_bytes-more.ensures.bytes in
    let all = front_within paths (c.loop-place.place + 1) in
    omega (arith, more, all, c.loop-place.invariant.0, c.loop-place.invariant.1, c.if-len-more.true)

pub loop-place-preserved : goal.loop-place-preserved
loop-place-preserved c =
    let more = long_more c.args.paths.now c.loop-place.place c.index-paths-place.result c.as_bytes-more.result.now c.loop-place-test.true c.index-paths-place.is c.as_bytes-more.ensures.bytes in
    (omega (arith, more, c.loop-place.invariant.0), omega (arith, c.loop-place.invariant.1, c.if-len-more.false))

pub returns-clause-len : goal.returns-clause-len
returns-clause-len c = c.loop-place.invariant.0 ∙ ap length (front_all c.args.paths.now c.loop-place.place c.loop-place-test.false)
