use Rattle.uefi_text.proofs.Runs.{gives_each}
use Rattle.uefi_boot_variables.specs.Present.{shown}
use Rattle.uefi_boot_variables.specs.Views.{options_left}
use Rattle.uefi_boot_variables.proofs.orders.LoadOrder.present.Goals as goal

pub returns-clause-runs : goal.returns-clause-runs
returns-clause-runs c = gives_each shown options_left _
