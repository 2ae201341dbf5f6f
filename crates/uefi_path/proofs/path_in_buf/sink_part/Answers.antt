use Rattle.std.proofs.lemmas.Grind.{common_steps}
use Rattle.std.proofs.Common.{arith}
use Rattle.uefi_path.proofs.Drafts.{part_tail}
use Rattle.uefi_path.proofs.path_in_buf.sink_part.Goals as goal

pub returns : goal.returns
returns c = grind (arith, common_steps, part_tail)
