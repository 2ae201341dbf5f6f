-- No unit is left, so the bytes so far are all.
use Rattle.std.proofs.Common.{◌∙◌, ◌++◌, List, ℕ, ap, sym, take, arith, length}
use Rattle.std.proofs.lemmas.List.{append-nil, take_all}
use Rattle.std.specs.Str.{encode_utf8_all}
use Rattle.uefi_text.proofs.Surrogates.{lossy_ascii, lossy_undecided, none_left}
use Rattle.uefi_text.proofs.decode.fill_lossy.Goals as goal

pub returns : goal.returns
returns c =
    let l = c.loop-place in
    let left = none_left c.args.units.now l.place (omega (arith, c.loop-place-test.false)) in
    let all = take_all l.end l.bytes (omega (arith, ap length left, l.invariant.room)) in
    sym (ap (λ (us : List ℕ). take l.end l.bytes ++ us) left ∙ append-nil (take l.end l.bytes) ∙ all) ∙ l.invariant.bytes

pub narrow-requires : goal.narrow-requires
narrow-requires c =
    let ascii = c.is_ascii.ensures.0 c.if-is_ascii.true in
    record { same_length = c.requires ∙ ap length (lossy_ascii c.args.units.now ascii); ascii = ascii }

pub returns-then-is_ascii : goal.returns-then-is_ascii
returns-then-is_ascii c = c.narrow.ensures ∙ sym (lossy_ascii c.args.units.now (c.is_ascii.ensures.0 c.if-is_ascii.true))

pub write_units-requires : goal.write_units-requires
write_units-requires c =
    let plain = lossy_undecided c.args.units.now _ (λ k. omega (arith, c.type_inv.units k)) c.find_deciding_place.ensures c.if-is_none.ensures in
    omega (arith, ap (λ us. length (encode_utf8_all us)) plain, c.requires)

pub returns-then-is_none : goal.returns-then-is_none
returns-then-is_none c =
    let plain = lossy_undecided c.args.units.now _ (λ k. omega (arith, c.type_inv.units k)) c.find_deciding_place.ensures c.if-is_none.ensures in
    let same = ap encode_utf8_all plain in
    let all = take_all c.write_units.result c.write_units.new.bytes (omega (arith, ap length same, c.requires)) in
    sym all ∙ c.write_units.ensures.bytes ∙ sym same
