use Rattle.uefi_text.proofs.Caseless.{lower-ascii, same_ascii, upper-ascii}
use Rattle.uefi_text.proofs.laws.ascii_case.Goals as goal

pub returns-clause-units : goal.returns-clause-units
returns-clause-units c unit ascii = (upper-ascii unit ascii, lower-ascii unit ascii)

pub returns-clause-same : goal.returns-clause-same
returns-clause-same c = same_ascii
