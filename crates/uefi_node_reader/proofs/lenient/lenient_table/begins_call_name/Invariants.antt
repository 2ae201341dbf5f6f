use Rattle.std.proofs.Common.{◌≡◌, length}
use Rattle.uefi_node_reader.specs.LenientCalls.{begins_call_name}
use Rattle.uefi_node_reader.proofs.lenient.lenient_table.begins_call_name.Given as goal

abbrev pub invariant-letters : goal.invariant-letters
invariant-letters g l = begins_call_name l.left (g.T.Text.bytes l.rest) ≡ begins_call_name l.name (g.T.Text.bytes l.fn.text)

abbrev pub decreases-letters : goal.decreases-letters
decreases-letters g l = length l.left
