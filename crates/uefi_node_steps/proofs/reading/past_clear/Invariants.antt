use Rattle.std.proofs.Common.{◌≡◌, length}
use Rattle.uefi_node_steps.specs.Leaves.{clear_run}
use Rattle.uefi_node_steps.proofs.reading.past_clear.Given as goal

abbrev pub invariant-letters : goal.invariant-letters
invariant-letters g l = (clear_run l.stop (g.T.Text.codes l.rest)).1 ≡ (clear_run l.stop (g.T.Text.codes l.fn.text)).1

abbrev pub decreases-letters : goal.decreases-letters
decreases-letters g l = length (g.T.Text.codes l.rest)
