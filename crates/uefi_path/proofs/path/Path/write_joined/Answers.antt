use Rattle.std.proofs.Common.{arith}
use Rattle.std.proofs.lemmas.Grind.{common_steps}
use Rattle.uefi_text.proofs.SunkUnits.{sunk_and_ended}
use Rattle.uefi_path.proofs.path.Path.write_joined.Goals as goal

pub returns-clause-buffer : goal.returns-clause-buffer
returns-clause-buffer c =
    sunk_and_ended _ _ _ _ _ c.sink_joined.ensures c.sink_joined-len.ensures.count c.if-buffer-len.false (grind (arith, common_steps))
