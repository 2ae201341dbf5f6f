use Rattle.std.proofs.Common.{◌≡◌, ℕ, ◌<◌, false, slice_index}
use Rattle.uefi_node_reader.specs.NamedFiles.{ends_name}
use Rattle.uefi_node_reader.proofs.utf16_texts.name_units.Given as goal

abbrev pub invariant-loop-place : goal.invariant-loop-place
invariant-loop-place l = (k : ℕ) → k < l.place → ends_name (slice_index l.units k) ≡ false
