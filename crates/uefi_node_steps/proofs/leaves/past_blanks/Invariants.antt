use Rattle.std.proofs.Common.{◌≡◌, length}
use Rattle.uefi_node_steps.specs.Leaves.{past_blanks}
use Rattle.uefi_node_steps.proofs.leaves.past_blanks.Given as goal

abbrev pub invariant-blanks : goal.invariant-blanks
invariant-blanks g l = past_blanks (g.T.Text.codes l.rest) ≡ past_blanks (g.T.Text.codes l.fn.text)

abbrev pub decreases-blanks : goal.decreases-blanks
decreases-blanks g l = length (g.T.Text.codes l.rest)
