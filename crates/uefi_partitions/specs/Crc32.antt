-- The CRC of 32 bits with the generator 0x04c11db7, whose bits are 0xedb88320 from the lowest on.
use Rattle.std.specs.Prelude.{ℕ, ◌/◌, ◌%◌, ◌==◌, if◌then◌else◌, List, bit_xor}
use Rattle.std.specs.List.{fold}

-- the register after a bit: a polynomial times x, without a multiple of the generator
unfoldable pub after_bit : ℕ → ℕ
after_bit register = if register % 2 == 1 then bit_xor (register / 2) 0xedb88320 else register / 2

-- the register after four bits
abbrev pub after_four : ℕ → ℕ
after_four register = after_bit (after_bit (after_bit (after_bit register)))

-- the register after the eight bits of a byte
unfoldable pub after_byte : ℕ → ℕ → ℕ
after_byte register byte = after_four (after_four (bit_xor register byte))

-- the checksum of bytes
abbrev pub crc32 : List ℕ → ℕ
crc32 bytes = bit_xor (fold after_byte 0xffffffff bytes) 0xffffffff
