use Rattle.std.proofs.Common.{◌≡◌, ◌∙◌, ap, sym, ◌+◌, ◌++◌, length, arith}
use Rattle.std.proofs.lemmas.List.{take_all}
use Rattle.std.proofs.lemmas.Slice.{take-put_mid}
use Rattle.uefi_device_path.proofs.OptionBytes.{front_all, front_bytes, front_more, front_none, front_within, long_more}
use Rattle.uefi_device_path.proofs.load_option_builder.put_paths.Goals as goal

pub loop-place-init : goal.loop-place-init
loop-place-init c = (ap length (sym (front_none c.args.paths.now)), sym (front_none c.args.paths.now))

pub slice_bounds-copy_from_slice-end : goal.slice_bounds-copy_from_slice-end
slice_bounds-copy_from_slice-end c =
    let paths = c.args.paths.now in
    let more = long_more paths c.loop-place.place c.index-paths-place.result c.as_bytes-path.result.now c.loop-place-test.true c.index-paths-place.is c.as_bytes-path.ensures.bytes in
    let all = front_within paths (c.loop-place.place + 1) in
    omega (arith, more, all, c.loop-place.invariant.0, c.requires, c.loop-place.auto.bytes)

pub loop-place-preserved : goal.loop-place-preserved
loop-place-preserved c =
    let paths = c.args.paths.now in
    let front = front_more paths c.loop-place.place c.index-paths-place.result c.as_bytes-path.result.now c.loop-place-test.true c.index-paths-place.is c.as_bytes-path.ensures.bytes in
    let more = long_more paths c.loop-place.place c.index-paths-place.result c.as_bytes-path.result.now c.loop-place-test.true c.index-paths-place.is c.as_bytes-path.ensures.bytes in
    let all = front_within paths c.loop-place.place in
    let path = c.copy_from_slice.new.self in
    let same : path ≡ c.as_bytes-path.result.now = c.copy_from_slice.ensures.after in
    let long : length path ≡ length c.as_bytes-path.result.now = ap length same in
    let taken = take-put_mid c.loop-place.start _ c.loop-place.bytes path (c.loop-place.start + length c.as_bytes-path.result.now)
    (omega (arith, long)) (omega (arith, all, c.loop-place.invariant.0, c.requires, c.loop-place.auto.bytes)) in (
      omega (arith, more, c.loop-place.invariant.0),
      taken ∙ ap (λ k. k ++ path) c.loop-place.invariant.1 ∙ ap (λ k. front_bytes paths c.loop-place.place ++ k) same ∙ sym front,
    )

pub returns : goal.returns
returns c =
    let paths = c.args.paths.now in
    let all = front_all paths c.loop-place.place c.loop-place-test.false in
    let long : length c.loop-place.bytes ≡ c.loop-place.start = omega (arith, c.loop-place.invariant.0, ap length all, c.requires, c.loop-place.auto.bytes) in
    sym (take_all c.loop-place.start c.loop-place.bytes (omega (arith, long))) ∙ c.loop-place.invariant.1 ∙ all
