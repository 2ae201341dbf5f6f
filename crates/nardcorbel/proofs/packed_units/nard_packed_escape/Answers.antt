-- The text is written, or counted.
use Rattle.std.proofs.Common.{arith}
use Rattle.std.proofs.lemmas.Grind.{common_steps}
use Rattle.nardcorbel.proofs.CallOutputs.{text_written}
use Rattle.nardcorbel.proofs.packed_units.nard_packed_escape.Goals as goal

pub returns : goal.returns
returns c =
    text_written _ c.args.buffer.now _ _ c.args.len.now _ _ (grind (arith, common_steps))
    c.write_utf8.ensures.len c.write_utf8.ensures.buffer c.report_written.ensures.shows
