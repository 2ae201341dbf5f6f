use Rattle.uefi_text.specs.Views.{units_left}
use Rattle.uefi_text.proofs.Runs.{gives_each}
use Rattle.uefi_text.proofs.strings.strs.Char16Slice.iter.Goals as goal

pub returns-clause-runs : goal.returns-clause-runs
returns-clause-runs c = gives_each (λ unit. unit) units_left _
