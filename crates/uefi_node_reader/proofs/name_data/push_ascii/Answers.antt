use Rattle.std.proofs.Common.{◌≡◌, ◌+◌, ◌-◌, ◌*◌, ◌/◌, ◌%◌, ◌^◌, min, length, List, ℕ, arith, ap, ◌∙◌}
use Rattle.uefi_node_reader.specs.CountedBytes.{pushed_byte}
use Rattle.uefi_node_reader.proofs.NamedFiles.{unit_more, units_counted}
use Rattle.uefi_node_reader.proofs.name_data.push_ascii.Goals as goal

pub returns-then-places-count : goal.returns-then-places-count
returns-then-places-count c =
    let start : List ℕ × ℕ = (c.args.places.now, c.args.len) in
    let rest : ℕ = min ((length c.args.text.now - c.loop-place.place) * 2) (2 ^ 64 - 1) in
    let same : c.saturating_add.result ≡ min (c.loop-place.count + rest) (2 ^ 64 - 1) = omega (arith, c.saturating_add.ensures, c.saturating_mul.ensures) in
    ap (λ (n : ℕ). (c.loop-place.places, n)) same
    ∙ units_counted start c.args.text.now c.loop-place.places c.loop-place.place c.loop-place.count c.loop-place.invariant
    (omega (arith, c.ranges.len.fits)) c.if-places-count.true (omega (arith, c.loop-place-test.true))

pub loop-place-preserved : goal.loop-place-preserved
loop-place-preserved c =
    let start : List ℕ × ℕ = (c.args.places.now, c.args.len) in
    let unit : ℕ = c.from.result in
    c.push_unit-count.ensures ∙ ap (λ (s : List ℕ × ℕ). pushed_byte (pushed_byte s (unit % 256)) (unit / 256)) c.loop-place.invariant
    ∙ unit_more start c.args.text.now c.loop-place.place unit c.loop-place-test.true c.from.ensures
