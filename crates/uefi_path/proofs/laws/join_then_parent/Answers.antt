use Rattle.uefi_path.proofs.ParentForm.{parent_text-pushed}
use Rattle.uefi_path.proofs.laws.join_then_parent.Goals as goal

pub returns-clause-parent : goal.returns-clause-parent
returns-clause-parent c text piece valid many good = parent_text-pushed text piece valid many good
