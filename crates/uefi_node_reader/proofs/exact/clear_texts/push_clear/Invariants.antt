use Rattle.std.proofs.Common.{◌≡◌, length}
use Rattle.uefi_node_reader.specs.CountedBytes.{pushed_bytes}
use Rattle.uefi_node_reader.specs.FieldReading.{clear_run}
use Rattle.uefi_node_reader.proofs.exact.clear_texts.push_clear.Given as goal

abbrev pub invariant-bytes : goal.invariant-bytes
invariant-bytes g l =
    (pushed_bytes (l.places, l.count) (clear_run l.stop (g.T.Text.bytes l.rest)).0 ≡ pushed_bytes (l.initial.places, l.fn.len) (clear_run l.stop (g.T.Text.bytes l.fn.text)).0)
    × ((clear_run l.stop (g.T.Text.bytes l.rest)).1 ≡ (clear_run l.stop (g.T.Text.bytes l.fn.text)).1)

abbrev pub decreases-bytes : goal.decreases-bytes
decreases-bytes g l = length (g.T.Text.bytes l.rest)
