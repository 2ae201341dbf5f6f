use Rattle.uefi_path.proofs.LastPieces.{named_once, named_or_not}
use Rattle.uefi_path.proofs.laws.named_once.Goals as goal

pub returns-clause-once : goal.returns-clause-once
returns-clause-once c = named_once

pub returns-clause-or_not : goal.returns-clause-or_not
returns-clause-or_not c = named_or_not
