use Rattle.uefi_text.proofs.Caseless.{lower-lower, lower-upper, upper-lower, upper-upper}
use Rattle.uefi_text.proofs.laws.case_once.Goals as goal

pub returns-clause-upper : goal.returns-clause-upper
returns-clause-upper c = upper-upper

pub returns-clause-lower : goal.returns-clause-lower
returns-clause-lower c = lower-lower

pub returns-clause-upper_of_lower : goal.returns-clause-upper_of_lower
returns-clause-upper_of_lower c = upper-lower

pub returns-clause-lower_of_upper : goal.returns-clause-lower_of_upper
returns-clause-lower_of_upper c = lower-upper
