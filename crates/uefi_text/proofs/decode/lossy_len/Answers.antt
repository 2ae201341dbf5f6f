-- No unit is left, so the bytes so far are all.
use Rattle.std.proofs.Common.{ap, arith, length}
use Rattle.std.specs.Str.{encode_utf8_all}
use Rattle.uefi_text.proofs.Surrogates.{lossy_undecided, none_left}
use Rattle.uefi_text.proofs.decode.lossy_len.Goals as goal

pub returns : goal.returns
returns c =
    let left = ap length (none_left c.args.units.now c.loop-place.place (omega (arith, c.loop-place-test.false))) in
    omega (arith, left, c.loop-place.invariant.count, c.loop-place.invariant.fits)

pub returns-then-is_none : goal.returns-then-is_none
returns-then-is_none c =
    let plain = lossy_undecided c.args.units.now _ (λ k. omega (arith, c.type_inv.units k)) c.find_deciding_place.ensures c.if-is_none.ensures in
    omega (arith, ap (λ us. length (encode_utf8_all us)) plain)
