use Rattle.uefi_text.specs.Views.{units_of}
use Rattle.uefi_path.specs.Ancestors.{ancestors_left}
use Rattle.uefi_text.proofs.Runs.{gives_each}
use Rattle.uefi_path.proofs.TakenComponents.{beginnings_are_texts}
use Rattle.uefi_path.proofs.path.Path.ancestors.Goals as goal

pub returns-then-is_empty-clause-runs : goal.returns-then-is_empty-clause-runs
returns-then-is_empty-clause-runs c = gives_each units_of ancestors_left _

pub returns-clause-runs : goal.returns-clause-runs
returns-clause-runs c = gives_each units_of ancestors_left _

pub returns-clause-texts : goal.returns-clause-texts
unfolding ancestors_left
returns-clause-texts c = beginnings_are_texts (units_of c.canonical-text.result) c.canonical-text.ensures.is_text
