use Rattle.std.proofs.Common.{◌≡◌, length}
use Rattle.uefi_node_reader.specs.CountedBytes.{pushed_bytes}
use Rattle.uefi_node_reader.specs.FieldReading.{run_read}
use Rattle.uefi_node_reader.proofs.exact.node_tails.push_run.Given as goal

abbrev pub invariant-bytes : goal.invariant-bytes
invariant-bytes g l =
    (pushed_bytes (l.places, l.count) (run_read (g.T.Text.bytes l.rest)).0 ≡ pushed_bytes (l.initial.places, l.fn.len) (run_read (g.T.Text.bytes l.fn.text)).0)
    × ((run_read (g.T.Text.bytes l.rest)).1 ≡ (run_read (g.T.Text.bytes l.fn.text)).1)

abbrev pub decreases-bytes : goal.decreases-bytes
decreases-bytes g l = length (g.T.Text.bytes l.rest)
