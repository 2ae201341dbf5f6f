use Rattle.std.proofs.Common.{◌≡◌, ℕ, ◌<◌, length, slice_index}
use Rattle.uefi_device_nodes.specs.Guids.{StandsAt, digit_places}
use Rattle.uefi_device_nodes.proofs.field_texts.guid.bytes_in.Given as goal

-- the bytes so far have their digits in the text
abbrev pub invariant-loop-place : goal.invariant-loop-place
invariant-loop-place l = (length l.bytes ≡ 16)
    × ((k : ℕ) → slice_index l.bytes k < 256)
    × ((k : ℕ) → k < l.place → StandsAt l.text (slice_index digit_places k) (slice_index l.bytes k))
