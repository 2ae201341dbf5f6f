-- The text is written, or counted.
use Rattle.std.proofs.Common.{arith}
use Rattle.std.proofs.lemmas.Grind.{common_steps}
use Rattle.nardcorbel.proofs.CallOutputs.{text_written}
use Rattle.nardcorbel.proofs.utf8_texts.nard_string_to_utf8_lossy.Goals as goal

pub returns : goal.returns
returns c =
    rw (← c.until_nul.ensures)
    (text_written _ c.args.buffer.now _ _ c.args.len.now _ _ (grind (arith, common_steps))
    c.write_lossy.ensures.len c.write_lossy.ensures.bytes c.report_written.ensures.shows)
