-- What stands after the last separator is the last component.
use Rattle.std.proofs.Common.{arith}
use Rattle.uefi_path.proofs.LastPieces.{IsLastStart, last_name}
use Rattle.uefi_path.proofs.path_units.last_component.Goals as goal

pub returns-clause-name : goal.returns-clause-name
returns-clause-name c = grind (arith, IsLastStart, last_name)
