use Rattle.std.proofs.Common.{◌≡◌, ◌-◌, length, take}
use Rattle.uefi_node_reader.specs.FieldReading.{bytes_read}
use Rattle.uefi_node_reader.proofs.ByteRuns.{go_on, read_from}
use Rattle.uefi_node_reader.proofs.exact.fields.fill.Given as goal

abbrev pub invariant-loop-place : goal.invariant-loop-place
invariant-loop-place g l =
    go_on (take l.place l.found) (read_from l.place l.fn.between (length l.initial.found - l.place) (g.T.Text.bytes l.rest))
    ≡ bytes_read l.fn.between (length l.initial.found) (g.T.Text.bytes l.fn.text)
