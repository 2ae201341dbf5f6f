use Rattle.std.proofs.Common.{◌≡◌, ◌+◌, length}
use Rattle.uefi_node_steps.specs.Leaves.{digits_read}
use Rattle.uefi_node_steps.proofs.leaves.digits.Given as goal

abbrev pub invariant-digits : goal.invariant-digits
invariant-digits g l = digits_read l.base (l.last + 1) l.value (g.T.Text.codes l.rest) ≡ digits_read l.base (l.last + 1) l.fn.number (g.T.Text.codes l.fn.text)

abbrev pub decreases-digits : goal.decreases-digits
decreases-digits g l = length (g.T.Text.codes l.rest)
