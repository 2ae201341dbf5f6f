-- The last piece begins after the last separator.
use Rattle.std.proofs.Common.{arith}
use Rattle.uefi_path.proofs.LastPieces.{IsLastStart, cut_some, to_the_end, without_separator}
use Rattle.uefi_path.proofs.splitting.separators.cut_last.Goals as goal

pub returns-then-start-eq0-clause-pieces : goal.returns-then-start-eq0-clause-pieces
returns-then-start-eq0-clause-pieces c = grind (arith, IsLastStart, to_the_end, without_separator)

pub returns-clause-pieces : goal.returns-clause-pieces
returns-clause-pieces c = grind (arith, IsLastStart, cut_some)
