-- Fields at fixed offsets of a block.
use Rattle.std.specs.Prelude.{ℕ, ◌+◌, List, slice_range}
use Rattle.uefi_text.specs.Packed.{little_endian}

-- the bytes of a field, from an offset on
abbrev pub stored_bytes : ℕ → ℕ → List ℕ → List ℕ
stored_bytes offset width bytes = slice_range bytes offset (offset + width)

-- the number in a field, the low byte first
abbrev pub stored_number : ℕ → ℕ → List ℕ → ℕ
stored_number offset width bytes = little_endian (stored_bytes offset width bytes)
