use Rattle.std.proofs.Common.{◌≡◌}
use Rattle.uefi_node_reader.specs.Mistakes.{field_on}
use Rattle.uefi_node_reader.proofs.errors.mistakes.field_on.Given as goal

abbrev pub invariant-fields : goal.invariant-fields
invariant-fields g l = (g.T.Text.bytes l.rest) ≡ field_on (g.T.Text.bytes l.fn.call) l.counter
