-- The path in the buffer is its first units.
use Rattle.std.proofs.Common.{◌≡◌, arith, false, length, nat_lt}
use Rattle.std.proofs.lemmas.Grind.{common_steps}
use Rattle.nardcorbel.proofs.CallOutputs.{text_shown}
use Rattle.nardcorbel.proofs.buffers.nard_path_push.Goals as goal

pub returns : goal.returns
returns c =
    let buffer = c.args.buffer.now in
    let within : nat_lt (length buffer) c.args.path_len ≡ false = grind (arith, common_steps) in
    rw (c.in-Ok.ensures.ok, within)
    (text_shown _ buffer _ _ c.args.len.now c.args.fault.now _ _ _ (grind (arith, common_steps)) c.push_in_buf.ensures.len
    c.push_in_buf.ensures.buffer c.report.ensures.shows)
