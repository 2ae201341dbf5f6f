use Rattle.std.proofs.Common.{◌≡◌, ◌<◌, ◌++◌, List, ℕ, Option, length, take}
use Rattle.std.specs.List.{position}
use Rattle.std.specs.Str.{chars, IsUtf8}
use Rattle.std.specs.Str.Iter.{chars_rest}
use Rattle.uefi_text.specs.FromStr.{is_deciding_char}
use Rattle.uefi_text.specs.FromStrWithBuf.{from_str_with_buf_refusal_at, utf16, with_units}
use Rattle.uefi_text.specs.declared.errors.FromStrWithBufError.{FromStrWithBufError}
use Rattle.uefi_text.proofs.encode.write_chars.Given as goal

-- the units of the characters that were read were written, a place is left, and with the characters to
-- come they are the text's
abbrev pub IsRead : List ℕ → List ℕ → List ℕ → List ℕ → ℕ → Option FromStrWithBufError → List ℕ → Type 0
IsRead all old rest buffer len refusal read = record {
  counted : len ≡ length (utf16 read);
  place_left : len < length buffer;
  written : buffer ≡ with_units (utf16 read) old;
  refused : refusal ≡ from_str_with_buf_refusal_at read (position is_deciding_char read);
  utf8 : IsUtf8 rest;
  to_come : read ++ chars rest ≡ all;
}

abbrev pub invariant-loop-character : goal.invariant-loop-character
invariant-loop-character l =
    IsRead (chars l.input) l.fn.buffer (chars_rest l.character-iterator) l.buffer l.len l.refusal (take l.start (chars l.input) ++ l.yielded)
