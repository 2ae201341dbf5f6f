use Rattle.std.proofs.Common.{◌≡◌, ℕ, ◌-◌, ◌<◌, ◌≤◌, false, length, slice_index}
use Rattle.uefi_node_reader.specs.NamedFiles.{ends_name}
use Rattle.uefi_node_reader.proofs.named_files.inner_blocks_end.Given as goal

abbrev pub invariant-loop-end : goal.invariant-loop-end
invariant-loop-end l = record {
  within : l.end ≤ length l.text;
  inside : (k : ℕ) → k < l.end → ends_name (slice_index l.text k) ≡ false;
}

abbrev pub decreases-loop-end : goal.decreases-loop-end
decreases-loop-end l = length l.text - l.end
