use Rattle.std.proofs.Common.{◌≡◌, ℕ, ◌<◌, false, slice_index}
use Rattle.uefi_text.specs.Units.{is_nul}
use Rattle.uefi_text.specs.Views.{items_of}
use Rattle.uefi_device_nodes.proofs.field_texts.shown_texts.nul_unit.Given as goal

-- none so far is zero
abbrev pub invariant-loop-place : goal.invariant-loop-place
invariant-loop-place l = (k : ℕ) → k < l.place → is_nul (slice_index (items_of l.units) k) ≡ false
