use Rattle.uefi_text.proofs.PatternsWithoutCase.{plain_same, same_plain, case_is_ignored}
use Rattle.uefi_text.proofs.laws.patterns_without_case.Goals as goal

pub returns-clause-plain : goal.returns-clause-plain
returns-clause-plain c pattern text plain = (plain_same pattern text plain, same_plain pattern text plain)

pub returns-clause-case : goal.returns-clause-case
returns-clause-case c = case_is_ignored
