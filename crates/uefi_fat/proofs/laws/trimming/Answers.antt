use Rattle.uefi_fat.proofs.Trims.{between, neither_end, trimmed_once}
use Rattle.uefi_fat.proofs.laws.trimming.Goals as goal

pub returns-clause-between : goal.returns-clause-between
returns-clause-between c name = between name

pub returns-clause-once : goal.returns-clause-once
returns-clause-once c name = trimmed_once name

pub returns-clause-ends : goal.returns-clause-ends
returns-clause-ends c name = neither_end name
