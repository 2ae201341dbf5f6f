-- The bytes of the text, its NUL, and what followed them; or an unchanged buffer.
use Rattle.std.proofs.Common.{arith}
use Rattle.std.proofs.lemmas.Grind.{common_steps}
use Rattle.uefi_text.proofs.SunkUnits.{sunk_and_ended}
use Rattle.uefi_text.proofs.TextsInBuffers.{counted_len, counted_needed, counted_unchanged}
use Rattle.nardcorbel.proofs.utf8_buffers.write_utf8.Goals as goal

pub returns-clause-len : goal.returns-clause-len
returns-clause-len g c =
    counted_len _ _ _ c.fill_bytes-len.ensures.count c.if-buffer-len.false (grind (arith, common_steps))

pub returns-clause-buffer : goal.returns-clause-buffer
returns-clause-buffer g c =
    sunk_and_ended _ _ _ _ _ c.fill_bytes.ensures c.fill_bytes-len.ensures.count c.if-buffer-len.false (grind (arith, common_steps))

pub returns-then-buffer-len-clause-len : goal.returns-then-buffer-len-clause-len
returns-then-buffer-len-clause-len g c =
    counted_needed _ _ _ _ c.fill_bytes-len.ensures.count c.if-buffer-len.true c.saturating_add.ensures

pub returns-then-buffer-len-clause-buffer : goal.returns-then-buffer-len-clause-buffer
returns-then-buffer-len-clause-buffer g c = counted_unchanged _ _ _ c.fill_bytes-len.ensures.count c.if-buffer-len.true
