-- All components but the last stand before the last separator.
use Rattle.std.proofs.Common.{arith}
use Rattle.uefi_path.proofs.LastPieces.{IsLastStart, joined_others, none_before, some_others, valid_others}
use Rattle.uefi_path.proofs.path_units.others_end.Goals as goal

pub returns-then-start-le1-clause-some : goal.returns-then-start-le1-clause-some
returns-then-start-le1-clause-some c =
    let found = c.last_start-start.ensures in
    let is : IsLastStart c.args.units.now c.last_start-start.result = record { within = found.within; piece = found.piece; after = found.after } in
    let none = none_before c.args.units.now c.last_start-start.result is c.if-start-le1.true in
    ((λ e _. cc), (λ some. absurd (some none)))

pub returns-clause-others : goal.returns-clause-others
returns-clause-others c = grind (arith, IsLastStart, joined_others)

pub returns-clause-some : goal.returns-clause-some
returns-clause-some c = grind (arith, IsLastStart, some_others)

pub returns-clause-valid : goal.returns-clause-valid
returns-clause-valid c = grind (arith, IsLastStart, valid_others)
