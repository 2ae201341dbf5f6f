use Rattle.std.proofs.Common.{arith}
use Rattle.std.proofs.lemmas.Grind.{common_steps}
use Rattle.uefi_path.proofs.Drafts.{needs_replaced}
use Rattle.uefi_path.proofs.path_units.needs_separator_replaced.Goals as goal

pub returns-then-not-is_empty : goal.returns-then-not-is_empty
returns-then-not-is_empty c = grind (arith, common_steps, needs_replaced)
