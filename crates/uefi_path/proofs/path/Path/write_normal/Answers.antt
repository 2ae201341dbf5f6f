use Rattle.std.proofs.Common.{arith}
use Rattle.std.proofs.lemmas.Grind.{common_steps}
use Rattle.uefi_path.proofs.path.Path.write_normal.Goals as goal

pub returns-then-buffer-end-clause-buffer : goal.returns-then-buffer-end-clause-buffer
returns-then-buffer-end-clause-buffer c = grind (arith, common_steps)

pub returns-then-buffer-end-clause-needs : goal.returns-then-buffer-end-clause-needs
returns-then-buffer-end-clause-needs c = grind (arith, common_steps)
