use Rattle.uefi_text.specs.Case.{uppers}
use Rattle.uefi_text.proofs.Caseless.{same_where_equal}
use Rattle.uefi_text.proofs.case.eq_ignore_case.Goals as goal

pub returns-then-units-others : goal.returns-then-units-others
returns-then-units-others c =
    same_where_equal c.is_eq.result c.cmp_ignore_case.result (uppers c.args.units.now) (uppers c.args.others.now) c.is_eq.ensures c.cmp_ignore_case.ensures
