-- Bytes that are put into a buffer one after another, and counted even if the buffer has no room for them.
use Rattle.std.specs.Prelude.{ℕ, ◌+◌, ◌-◌, ◌^◌, min, List, [], ◌∷◌, slice_set, Option, Some}

-- a buffer, and the count of bytes up to the largest `usize`, after one more byte
abbrev pub pushed_byte : List ℕ × ℕ → ℕ → List ℕ × ℕ
pushed_byte state byte = (slice_set state.0 state.1 byte, min (state.1 + 1) (2 ^ 64 - 1))

-- a buffer and the count after these bytes
abbrev pub pushed_bytes : List ℕ × ℕ → List ℕ → List ℕ × ℕ
pushed_bytes state [] = state
pushed_bytes state (byte ∷ bytes) = pushed_bytes (pushed_byte state byte) bytes

-- a buffer and the count after data that was read, and the rest of the text
abbrev pub put_on : List ℕ × ℕ → List ℕ × List ℕ → Option ((List ℕ × ℕ) × List ℕ)
put_on state read = Some (pushed_bytes state read.0, read.1)
