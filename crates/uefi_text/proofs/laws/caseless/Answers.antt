use Rattle.std.proofs.Common.{ap}
use Rattle.std.proofs.lemmas.Cmp.{nat_list_cmp_total, nat_list_eq_equiv, on_equiv, on_total}
use Rattle.std.specs.Cmp.Lexicographic.{bytes_decides}
use Rattle.uefi_text.specs.Case.{uppers}
use Rattle.uefi_text.proofs.Caseless.{ties}
use Rattle.uefi_text.proofs.laws.caseless.Goals as goal

pub returns-clause-equivalence : goal.returns-clause-equivalence
returns-clause-equivalence c = on_equiv uppers nat_list_eq_equiv

pub returns-clause-same : goal.returns-clause-same
returns-clause-same c text other = bytes_decides (uppers text) (uppers other)

pub returns-clause-equal : goal.returns-clause-equal
returns-clause-equal c text other e = ap uppers e

pub returns-clause-total : goal.returns-clause-total
returns-clause-total c = on_total uppers nat_list_cmp_total

pub returns-clause-ties : goal.returns-clause-ties
returns-clause-ties c text other = ties (uppers text) (uppers other)
