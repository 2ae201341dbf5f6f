-- The end node alone is the path to which the nodes are added.
use Rattle.std.proofs.Common.{◌∙◌, arith, sym, Ok, Err}
use Rattle.std.proofs.lemmas.Grind.{common_steps}
use Rattle.nardcorbel.proofs.GrownPaths.{text_at}
use Rattle.nardcorbel.proofs.device_paths.growing.push_text_at.Goals as goal

pub returns-in-Ok : goal.returns-in-Ok
returns-in-Ok g c =
    text_at c.args.style (g.T.Text.bytes c.args.text) c.args.buffer.now c.args.path_len (Ok c.in-Ok.len) _ (grind (arith, common_steps))
    (sym c.ends_at.ensures.value ∙ c.if-not-ends_at.false) c.in-Ok.ensures

pub returns-in-Err : goal.returns-in-Err
returns-in-Err g c =
    rw c.moved_text_error.ensures
    (text_at c.args.style (g.T.Text.bytes c.args.text) c.args.buffer.now c.args.path_len (Err c.in-Err.error) _ (grind (arith, common_steps))
    (sym c.ends_at.ensures.value ∙ c.if-not-ends_at.false) c.in-Err.ensures)
