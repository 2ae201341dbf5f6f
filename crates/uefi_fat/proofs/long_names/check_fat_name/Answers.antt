use Rattle.std.proofs.Common.{Ok, Err, sym, ◌∙◌}
use Rattle.uefi_text.specs.Views.{units_of}
use Rattle.uefi_fat.proofs.FatNames.{fat_where_ok}
use Rattle.uefi_fat.proofs.long_names.check_fat_name.Goals as goal

pub returns-in-None-clause-valid : goal.returns-in-None-clause-valid
returns-in-None-clause-valid c =
    fat_where_ok {T = Unit {0}} (Ok tt) (units_of c.args.name) (sym c.in-None.is ∙ c.judge.ensures)

pub returns-in-Some-clause-valid : goal.returns-in-Some-clause-valid
returns-in-Some-clause-valid c =
    fat_where_ok {T = Unit {0}} (Err c.in-Some.error) (units_of c.args.name) (sym c.in-Some.is ∙ c.judge.ensures)
