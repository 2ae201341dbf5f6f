use Rattle.std.proofs.Common.{◌<◌, arith, slice_index}
use Rattle.std.proofs.lemmas.Bool.Decides.{nat_tests}
use Rattle.uefi_node_reader.proofs.Utf16Texts.{PairSaid, pair_said, tail_of, units_last, units_none, units_one, units_two, units_unpaired}
use Rattle.uefi_node_reader.proofs.utf16_texts.first_char.Goals as goal

pub returns-in_default : goal.returns-in_default
returns-in_default c = units_none c.args.units.now c.in_default.len_below

pub returns-in-Some : goal.returns-in-Some
returns-in-Some c =
    let units = c.args.units.now in
    let code = c.from.result in
    let small : code < 0x1_0000 = omega (arith, c.from.ensures, c.type_inv.units 0) in
    let is = units_one code units c.in-len1-up.len_at_least c.from.ensures small c.in-Some.ensures.value.0 in
    rw c.in-Some.ensures.value.1 is

pub returns-in_default-after : goal.returns-in_default-after
returns-in_default-after c =
    let code = c.from.result in
    let small : code < 0x1_0000 = omega (arith, c.from.ensures, c.type_inv.units 0) in
    units_last code c.args.units.now c.in-len1-up.len_at_least c.in_default-after.len_below c.from.ensures small c.in_default-from_u32.ensures.value

pub returns-then-count-eq1 : goal.returns-then-count-eq1
returns-then-count-eq1 c =
    let units = c.args.units.now in
    let code = c.from.result in
    let small : code < 0x1_0000 = omega (arith, c.from.ensures, c.type_inv.units 0) in
    let said : PairSaid (slice_index units 0) (slice_index (tail_of units) 0) c.lossy_char-c.result.0 c.lossy_char-c.result.1 =
    pair_said _ _ _ _ c.lossy_char-c.ensures.first c.lossy_char-c.ensures.some c.lossy_char-c.ensures.within in
    units_unpaired code units c.lossy_char-c.result.0 c.lossy_char-c.result.1 c.in-len1-up.len_at_least c.in-len1-up-after.len_at_least c.from.ensures small
    c.in_default-from_u32.ensures.value said (grind (arith, nat_tests, c.if-count-eq1.true))

pub returns : goal.returns
returns c =
    let units = c.args.units.now in
    let said : PairSaid (slice_index units 0) (slice_index (tail_of units) 0) c.lossy_char-c.result.0 c.lossy_char-c.result.1 =
    pair_said _ _ _ _ c.lossy_char-c.ensures.first c.lossy_char-c.ensures.some c.lossy_char-c.ensures.within in
    units_two units c.lossy_char-c.result.0 c.lossy_char-c.result.1 c.in-len1-up.len_at_least c.in-len1-up-after.len_at_least said
    (λ one. grind (arith, nat_tests, c.if-count-eq1.false, one))
