use Rattle.std.proofs.Common.{◌≡◌, ◌++◌, length}
use Rattle.uefi_text.specs.UnitBytes.{unit_bytes}
use Rattle.uefi_node_steps.specs.Leaves.{clear_run}
use Rattle.uefi_node_steps.proofs.reading.read_units.Given as goal

abbrev pub invariant-letters : goal.invariant-letters
invariant-letters g l = record {
  content : g.S.Sink.content l.tail ++ unit_bytes (clear_run l.stop (g.T.Text.codes l.rest)).0 ≡ g.S.Sink.content l.initial.tail ++ unit_bytes (clear_run l.stop (g.T.Text.codes l.fn.text)).0;
  rest : (clear_run l.stop (g.T.Text.codes l.rest)).1 ≡ (clear_run l.stop (g.T.Text.codes l.fn.text)).1;
}

abbrev pub decreases-letters : goal.decreases-letters
decreases-letters g l = length (g.T.Text.codes l.rest)
