use Rattle.uefi_node_steps.proofs.Fills.{tail_added}
use Rattle.uefi_node_steps.proofs.reading.read_step.Goals as goal

pub returns-in-Data : goal.returns-in-Data
returns-in-Data g c = rw c.in-Data.is (tail_added g.T.Text.codes c.args.fixed.now (g.S.Sink.content c.args.tail.now) _ _ _ c.read_data.ensures)

pub returns-in-Many : goal.returns-in-Many
returns-in-Many g c = rw c.in-Many.is (tail_added g.T.Text.codes c.args.fixed.now (g.S.Sink.content c.args.tail.now) _ _ _ c.read_items.ensures)
