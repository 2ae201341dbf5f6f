use Rattle.std.proofs.Common.{◌≡◌}
use Rattle.uefi_node_reader.specs.WordReading.{after}
use Rattle.uefi_node_reader.proofs.exact.table_reader.begin_alike.Given as goal

abbrev pub invariant-bytes : goal.invariant-bytes
invariant-bytes g l = after l.left (g.T.Text.bytes l.rest) ≡ after l.fn.start (g.T.Text.bytes l.fn.text)
