-- The lowest bit is that of the first separator.
use Rattle.std.proofs.Common.{arith}
use Rattle.uefi_path.proofs.SeparatorPlaces.{lowest_cut}
use Rattle.uefi_path.proofs.splitting.separators.Separators.take_lowest.Goals as goal

pub invariant_of-after : goal.invariant_of-after
invariant_of-after c =
    let left = c.args.self in
    let cut = lowest_cut left.units.now left.start left.end left.bits left.ordered left.within left.word left.seen c.requires.some in
    record { ordered = omega (arith, cut.inside); within = left.within; word = omega (arith, left.word); seen = cut.seen }
