-- Classes of bytes and units that passes look for. Only private clauses cite them.
use Rattle.std.specs.Prelude.{ℕ, Bool, ◌<◌, ◌||◌, ◌==◌, nat_le}

-- a byte of ASCII that is not NUL
abbrev pub IsAsciiTextByte : ℕ → Type 0
IsAsciiTextByte byte = (0 < byte) × (byte < 128)

-- the test for any other byte
abbrev pub is_no_ascii_text : ℕ → Bool
is_no_ascii_text byte = (byte == 0) || nat_le 128 byte

-- the test for a byte that begins a character which no UCS-2 text holds: NUL, or one of four bytes
abbrev pub is_deciding_byte : ℕ → Bool
is_deciding_byte byte = (byte == 0) || nat_le 0xf0 byte

-- the test for a byte that begins a character above U+00FF
abbrev pub is_beyond_latin1_byte : ℕ → Bool
is_beyond_latin1_byte byte = nat_le 0xc4 byte

-- the test for a unit beyond ASCII
abbrev pub is_beyond_ascii : ℕ → Bool
is_beyond_ascii unit = nat_le 0x80 unit

-- the test for a unit that has three bytes of UTF-8
abbrev pub is_of_three_bytes : ℕ → Bool
is_of_three_bytes unit = nat_le 0x800 unit
