use Rattle.uefi_boot_plans.proofs.PowerFailures.{create, delete, delete_on_full, edit, first, order, others}
use Rattle.uefi_boot_plans.proofs.laws.power_failures.Goals as goal

pub returns : goal.returns
returns c = record { create = create; delete = delete; delete_on_full = delete_on_full; first = first; order = order; edit = edit; others = others }
