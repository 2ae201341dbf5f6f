use Rattle.std.proofs.Common.{◌≡◌, ℕ, ◌<◌, false, true, slice_index}
use Rattle.uefi_node_reader.specs.NamedFiles.{ends_name}
use Rattle.uefi_node_reader.proofs.named_files.is_inside_name.Given as goal

abbrev pub invariant-loop-i : goal.invariant-loop-i
invariant-loop-i l = l.is_inside ≡ true → (k : ℕ) → k < l.i → ends_name (slice_index l.block k) ≡ false
