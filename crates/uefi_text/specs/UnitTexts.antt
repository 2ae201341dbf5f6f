-- A text that is written into a caller's buffer, with a NUL after it.
use Rattle.std.specs.Fmt.{decimal}
use Rattle.std.specs.Prelude.{◌≡◌, ℕ, ◌+◌, ◌-◌, ◌^◌, nat_lt, if◌then◌else◌, List, ◌++◌, codes, length, take, drop, min, Result, Ok, Err}
use Rattle.std.specs.Char.Escape.{encode_utf16}
use Rattle.std.specs.List.{flat_map}
use Rattle.std.specs.Str.{chars}
use Rattle.uefi_text.specs.declared.unit_sink.BufferTooSmall.{BufferTooSmall}

-- the code units of a text in UTF-16
unfoldable pub utf16_units : List ℕ → List ℕ
utf16_units text = flat_map encode_utf16 (chars text)

-- units were counted, as far as a `usize` counts, and as many of the first as have room were written to
-- the start of a buffer, which was `old`
pub record AreSunk (units old buffer : List ℕ) (len : ℕ) : Type 0 where
  pub count : len ≡ min (length units) (2 ^ 64 - 1)
  pub written : buffer ≡ take (length old) units ++ drop (length units) old

-- the number of places for a text and its NUL, at most the largest `usize`
abbrev pub places_needed : List ℕ → ℕ
places_needed text = min (length text + 1) (2 ^ 64 - 1)

-- the result of writing a text and a NUL into a buffer: the length of the text, or the number of
-- places that both need if the buffer is too small
abbrev pub written_len : List ℕ → List ℕ → Result ℕ BufferTooSmall
written_len text buffer = if nat_lt (length text) (length buffer)
    then Ok (length text) else Err (record { 0 = places_needed text })

-- the text of an error for a buffer that is too small
abbrev pub buffer_too_small_text : BufferTooSmall → List ℕ
buffer_too_small_text error = codes "buffer too small: " ++ decimal error.0 ++ codes " units are needed"
