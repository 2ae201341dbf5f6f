-- A shorter buffer has no room for any path.
use Rattle.std.proofs.Common.{arith, [], ◌∷◌}
use Rattle.std.proofs.lemmas.Grind.{common_steps}
use Rattle.nardcorbel.proofs.GrownPaths.{begins_empty, parsed_err}
use Rattle.nardcorbel.proofs.device_paths.growing.parse_text.Goals as goal

pub returns-in-Err : goal.returns-in-Err
returns-in-Err g c =
    (parsed_err c.args.style (g.T.Text.bytes c.args.text) (0x7f ∷ 0xff ∷ 4 ∷ 0 ∷ []) c.args.buffer.now c.in-Err.error _ (grind (arith, common_steps)) (begins_empty [])
    (grind (arith, common_steps, c.if-buffer-ge4.false)) (rw c.in-Err.is at c.push_any_text_in_buf.ensures)).1
