use Rattle.std.proofs.Common.{◌<◌, get_or, length, arith}
use Rattle.std.proofs.lemmas.List.{get_or_default}
use Rattle.std.proofs.lemmas.List.Edits.{map_over_more}
use Rattle.uefi_text.specs.Units.{replaced}
use Rattle.uefi_text.proofs.scan.replace_units.Goals as goal

pub loop-unit-preserved : goal.loop-unit-preserved
loop-unit-preserved c =
    let i = c.loop-unit.unit-index in
    let inside : i < length c.loop-unit.units = omega arith in
    rw c.unit_after.ensures
    (map_over_more (replaced c.args.search c.args.replace) c.args.units.now c.loop-unit.units i
    (get_or c.loop-unit.units i 0) c.loop-unit-test.true c.loop-unit.invariant (get_or_default c.loop-unit.units i 0 _ inside))
