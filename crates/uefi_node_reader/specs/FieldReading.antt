-- Fields of nodes, and how they are read from their texts.
use Rattle.std.specs.Prelude.{◌≡◌, ℕ, zero, suc, ◌+◌, ◌-◌, ◌*◌, ◌/◌, ◌%◌, ◌^◌, nat_le, nat_lt, not, Bool, true, false, ◌==◌, ◌&&◌, if◌then◌else◌, List, [], ◌∷◌, codes, length, reverse, All, Option, Some, None, option_and_then}
use Rattle.uefi_text.specs.Packed.{IsByte, little_endian}
use Rattle.uefi_device_nodes.specs.FieldTexts.{eisa_bits}
use Rattle.uefi_device_nodes.specs.Words.{words_of}
use Rattle.uefi_device_nodes.specs.declared.node_table.rows.Shape.{Shape}
use Rattle.uefi_device_nodes.specs.declared.node_table.rows.Shape.TheVariants.{Hexadecimal, Decimal, OrDefault, Back, Forth, Dashed, Next, Eisa, Word}
use Rattle.uefi_device_nodes.specs.Nodes.{Node}
use Rattle.uefi_node_reader.specs.Numerals.{digit_of, number_read}
use Rattle.uefi_node_reader.specs.WordReading.{after, or_word, word_number, word_read}

-- the next reading, if something was read
infixl 10 ◌>>=◌
abbrev pub ◌>>=◌ : {A B : Type 0} → Option A → (A → Option B) → Option B
read >>= f = option_and_then f read

-- a byte of two digits, and the rest of the text
abbrev pub byte_read : List ℕ → Option (ℕ × List ℕ)
byte_read [] = None
byte_read (a ∷ []) = None
byte_read (a ∷ b ∷ text) = if nat_lt (digit_of a) 16 && nat_lt (digit_of b) 16
    then Some (digit_of a * 16 + digit_of b, text) else None

-- bytes of two digits each, with `between` before each, and the rest of the text
abbrev pub more_read : List ℕ → ℕ → List ℕ → Option (List ℕ × List ℕ)
more_read between zero text = Some ([], text)
more_read between (suc count) text = do
  t ← after between text
  first ← byte_read t
  others ← more_read between count first.1
  Some (first.0 ∷ others.0, others.1)

-- bytes of two digits each, with `between` between each two, and the rest of the text
abbrev pub bytes_read : List ℕ → ℕ → List ℕ → Option (List ℕ × List ℕ)
bytes_read between zero text = Some ([], text)
bytes_read between (suc count) text = do
  first ← byte_read text
  others ← more_read between count first.1
  Some (first.0 ∷ others.0, others.1)

-- the bytes of a number, the low byte first
abbrev pub low_bytes : ℕ → ℕ → List ℕ
low_bytes zero n = []
low_bytes (suc count) n = n % 256 ∷ low_bytes count (n / 256)

-- a number that was read, as its bytes
abbrev pub as_bytes : ℕ → ℕ × List ℕ → Option (List ℕ × List ℕ)
as_bytes width number = Some (low_bytes width number.0, number.1)

-- bytes that were read, from the last to the first
abbrev pub turned : List ℕ × List ℕ → Option (List ℕ × List ℕ)
turned bytes = Some (reverse bytes.0, bytes.1)

-- a number that was read, except 0, or else the word for 0
abbrev pub or_default : Option (ℕ × List ℕ) → Option (List ℕ) → Option (ℕ × List ℕ)
or_default None None = None
or_default None (Some rest) = Some (0, rest)
or_default (Some number) word = if number.0 == 0 then None else Some number

-- a decimal number from 1 to `limit` - 1, or the word for 0, and the rest of the text
abbrev pub default_read : ℕ → List ℕ → Option (ℕ × List ℕ)
default_read limit text = or_default (number_read 10 limit text) (after (codes "DEFAULT") text)

-- one less than a number that was read, except 0
abbrev pub less_one : ℕ × List ℕ → Option (ℕ × List ℕ)
less_one number = if number.0 == 0 then None else Some (number.0 - 1, number.1)

-- one less than a hexadecimal number, and the rest of the text
abbrev pub next_read : List ℕ → Option (ℕ × List ℕ)
next_read text = number_read 16 257 text >>= less_one

-- the five bits that a letter of an ID encodes, or 32
abbrev pub letter_of : ℕ → ℕ
letter_of c = if nat_le 64 c && nat_lt c 96 then c - 64 else 32

-- the 15 bits of three letters, and the rest of the text
abbrev pub letters_read : List ℕ → Option (ℕ × List ℕ)
letters_read (a ∷ b ∷ c ∷ text) =
    if nat_lt (letter_of a) 32 && (nat_lt (letter_of b) 32 && nat_lt (letter_of c) 32)
    then Some (letter_of a * 1024 + letter_of b * 32 + letter_of c, text) else None
letters_read text = None

-- an EISA ID, except 0, which has a text of its own
abbrev pub some_id : ℕ → List ℕ → Option (ℕ × List ℕ)
some_id id rest = if id == 0 then None else Some (id, rest)

-- an ID from its four digits on, and the rest of the text
abbrev pub digits_of_id : ℕ → ℕ × List ℕ → Option (ℕ × List ℕ)
digits_of_id letters high = do
  low ← byte_read high.1
  some_id (letters + (high.0 * 256 + low.0) * 65536) low.1

-- an EISA ID, or 0, and the rest of the text
abbrev pub eisa_read : List ℕ → Option (ℕ × List ℕ)
eisa_read text = or_word 0 (after (codes "0") text)
    (letters_read text >>= λ letters. byte_read letters.1 >>= digits_of_id letters.0)

-- the bytes of a field of a width, and the rest of the text
abbrev pub field_read : Shape → ℕ → List ℕ → Option (List ℕ × List ℕ)
field_read Hexadecimal width text = number_read 16 (256 ^ width) text >>= as_bytes width
field_read Decimal width text = number_read 10 (256 ^ width) text >>= as_bytes width
field_read OrDefault width text = default_read (256 ^ width) text >>= as_bytes width
field_read Back width text = bytes_read [] width text >>= turned
field_read Forth width text = bytes_read [] width text
field_read Dashed width text = bytes_read (codes "-") width text >>= turned
field_read Next width text = next_read text >>= as_bytes width
field_read Eisa width text = eisa_read text >>= as_bytes width
field_read (Word list) width text = word_read (words_of list) text >>= as_bytes width

-- bytes as they are read back from their text: all bits, except those that no word and no ID prints
abbrev pub field_kept : Shape → List ℕ → List ℕ
field_kept Hexadecimal bytes = bytes
field_kept Decimal bytes = bytes
field_kept OrDefault bytes = bytes
field_kept Back bytes = bytes
field_kept Forth bytes = bytes
field_kept Dashed bytes = bytes
field_kept Next bytes = bytes
field_kept Eisa bytes = low_bytes (length bytes) (eisa_bits (little_endian bytes))
field_kept (Word list) bytes = low_bytes (length bytes) (word_number (words_of list) (little_endian bytes))

-- bytes that a field of a width may contain
abbrev pub IsValue : ℕ → List ℕ → Type 0
IsValue width bytes = (length bytes ≡ width) × All IsByte bytes

-- all bytes of two digits each at the start of a text, and the rest of the text
abbrev pub run_read : List ℕ → List ℕ × List ℕ
run_read [] = ([], [])
run_read (a ∷ []) = ([], a ∷ [])
run_read (a ∷ b ∷ text) = if nat_lt (digit_of a) 16 && nat_lt (digit_of b) 16
    then ((digit_of a * 16 + digit_of b) ∷ (run_read text).0, (run_read text).1) else ([], a ∷ b ∷ text)

-- at least one byte
abbrev pub some_run : List ℕ → List ℕ → Option (List ℕ × List ℕ)
some_run [] rest = None
some_run (byte ∷ bytes) rest = Some (byte ∷ bytes, rest)

-- bytes after a comma, or none, and the rest of the text
abbrev pub comma_read : List ℕ → Option (List ℕ × List ℕ)
comma_read [] = Some ([], [])
comma_read (c ∷ cs) = if c == 44 then some_run (run_read cs).0 (run_read cs).1 else Some ([], c ∷ cs)

-- whether a byte is printable ASCII, except `stop`
abbrev pub is_clear : ℕ → ℕ → Bool
is_clear stop byte = (nat_le 0x20 byte && nat_lt byte 0x7f) && not (byte == stop)

-- the bytes before the first byte that is `stop` or not printable ASCII, and the rest of the text
abbrev pub clear_run : ℕ → List ℕ → List ℕ × List ℕ
clear_run stop [] = ([], [])
clear_run stop (c ∷ cs) = if is_clear stop c
    then (c ∷ (clear_run stop cs).0, (clear_run stop cs).1) else ([], c ∷ cs)

-- a node that was read, and the rest of the text, if a test holds
abbrev pub read_if : Bool → Node → List ℕ → Option (Node × List ℕ)
read_if false node rest = None
read_if true node rest = Some (node, rest)

-- what was read first, or else what was read second
abbrev pub either_read : Option (Node × List ℕ) → Option (Node × List ℕ) → Option (Node × List ℕ)
either_read None other = other
either_read (Some read) other = Some read
