use Rattle.std.proofs.Common.{◌≡◌, take}
use Rattle.uefi_text.specs.UnitBytes.{unit_bytes}
use Rattle.uefi_node_reader.specs.CountedBytes.{pushed_bytes}
use Rattle.uefi_node_reader.proofs.name_data.push_ascii.Given as goal

abbrev pub invariant-loop-place : goal.invariant-loop-place
invariant-loop-place l =
    (l.places, l.count) ≡ pushed_bytes (l.initial.places, l.len) (unit_bytes (take l.place l.text))
