use Rattle.std.proofs.Common.{◌≢◌, subst, sym, ◌∙◌}
use Rattle.std.specs.List.{All}
use Rattle.uefi_text.specs.Views.{units_left}
use Rattle.uefi_text.proofs.Runs.{gives_each, gives_no_nul}
use Rattle.uefi_text.proofs.Values.{no_nul-text_of}
use Rattle.uefi_text.proofs.strings.strs.CStr16.iter.Goals as goal

pub returns-clause-runs : goal.returns-clause-runs
returns-clause-runs c = gives_each (λ unit. unit) units_left _

pub returns-clause-no_nul : goal.returns-clause-no_nul
returns-clause-no_nul c =
    let same = c.iter.ensures.same ∙ c.as_slice.ensures.same in
    gives_no_nul units_left c.iter.result (subst (All (λ unit. unit ≢ 0)) (sym same) (no_nul-text_of c.args.self.now))
