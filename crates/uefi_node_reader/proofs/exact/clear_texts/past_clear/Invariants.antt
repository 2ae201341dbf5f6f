use Rattle.std.proofs.Common.{◌≡◌, length}
use Rattle.uefi_node_reader.specs.FieldReading.{clear_run}
use Rattle.uefi_node_reader.proofs.exact.clear_texts.past_clear.Given as goal

abbrev pub invariant-bytes : goal.invariant-bytes
invariant-bytes g l = (clear_run l.fn.stop (g.T.Text.bytes l.rest)).1 ≡ (clear_run l.fn.stop (g.T.Text.bytes l.fn.text)).1

abbrev pub decreases-bytes : goal.decreases-bytes
decreases-bytes g l = length (g.T.Text.bytes l.rest)
