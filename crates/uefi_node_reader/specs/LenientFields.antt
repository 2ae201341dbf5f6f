-- Fields of nodes as people write them: in either case, with numbers in either base, and without the last
-- ones.
use Rattle.std.specs.Prelude.{ℕ, ◌-◌, ◌*◌, ◌^◌, Bool, true, false, ◌==◌, ◌&&◌, if◌then◌else◌, List, [], ◌∷◌, codes, Option, Some, None, Result, Ok}
use Rattle.std.specs.Option.{ok_or}
use Rattle.std.specs.Result.{is_ok, result_ok}
use Rattle.std.proofs.Math.ListN.{replicate}
use Rattle.std.specs.Char.{to_ascii_uppercase}
use Rattle.uefi_device_nodes.specs.declared.node_table.rows.Shape.{Shape}
use Rattle.uefi_device_nodes.specs.declared.node_table.rows.Shape.TheVariants.{Hexadecimal, Decimal, OrDefault, Back, Forth, Dashed, Next, Eisa, Word}
use Rattle.uefi_device_nodes.specs.declared.node_table.rows.Spare.{Spare}
use Rattle.uefi_device_nodes.specs.declared.node_table.rows.Spare.TheVariants.{Zeros, Ones}
use Rattle.uefi_device_nodes.specs.declared.node_table.words.Words.{Words}
use Rattle.uefi_device_nodes.specs.declared.node_table.words.Words.TheVariants.{Parity, StopBits}
use Rattle.uefi_device_nodes.specs.Words as words
use Rattle.uefi_device_nodes.specs.Words.{words_of}
use Rattle.uefi_node_reader.specs.FieldReading.{◌>>=◌, as_bytes, field_read, less_one}
use Rattle.uefi_node_reader.specs.Numerals.{digits_after, has_digit}
use Rattle.uefi_node_reader.specs.Stops.{◌>?◌, stop_at}
use Rattle.uefi_node_reader.specs.TableReading.{first_of, is_empty}
use Rattle.uefi_node_reader.specs.WordReading.{after, or_word}
use Rattle.uefi_node_reader.specs.declared.errors.faults.Expected.{Expected}
use Rattle.uefi_node_reader.specs.declared.errors.faults.Expected.TheVariants as expected
use Rattle.uefi_node_reader.specs.declared.errors.faults.Stop.{Stop}

-- whether bytes begin with `0x`
abbrev pub begins_base : List ℕ → Bool
begins_base [] = false
begins_base (c ∷ []) = false
begins_base (c ∷ d ∷ cs) = (c == 48) && (d == 120)

-- the text after `0x`, or the whole text if it does not begin with `0x`
abbrev pub past_base : List ℕ → List ℕ
past_base [] = []
past_base (c ∷ []) = c ∷ []
past_base (c ∷ d ∷ cs) = if (c == 48) && (d == 120) then cs else c ∷ d ∷ cs

-- the rest of a text after a byte, in either case
abbrev pub after_letter : ℕ → List ℕ → Option (List ℕ)
after_letter c [] = None
after_letter c (t ∷ ts) = if to_ascii_uppercase c == to_ascii_uppercase t then Some ts else None

-- the rest of a text after a literal of the table in either case, from the `x` of its `0x` on if `at_x`, or
-- the byte that differs; the text may omit the `0x`, and a `0x` at the end is left to the number after it
abbrev pub literal_left : List ℕ → Bool → List ℕ → Result (List ℕ) Stop
literal_left [] at_x text = Ok text
literal_left (c ∷ cs) true text = literal_left cs false (if is_empty cs then text else past_base text)
literal_left (c ∷ cs) false text = if begins_base (c ∷ cs) then literal_left cs true text
    else (ok_or (after_letter c text) (stop_at text (expected.Byte c)) >? literal_left cs false)

-- the rest of a text after a whole literal
abbrev pub after_literal : List ℕ → List ℕ → Result (List ℕ) Stop
after_literal literal text = literal_left literal false text

-- a number below `limit` of at least one digit, and the rest of the text
abbrev pub some_digits : ℕ → ℕ → List ℕ → Option (ℕ × List ℕ)
some_digits base limit text = if has_digit base text then digits_after base limit 0 text else None

-- a number in decimal, or in hexadecimal after `0x`, and the rest of the text
abbrev pub any_number : ℕ → List ℕ → Option (ℕ × List ℕ)
any_number limit text =
    if begins_base text then some_digits 16 limit (past_base text) else some_digits 10 limit text

-- a number in decimal, or in hexadecimal after `0x`, or the word for 0, and the rest of the text
abbrev pub number_or_word : ℕ → List ℕ → Option (ℕ × List ℕ)
number_or_word limit text = if has_digit 10 text then any_number limit text
    else (after (codes "DEFAULT") text >>= λ rest. Some (0, rest))

-- the number of a word in either case, and the rest of the text
abbrev pub any_word : List words.Word → List ℕ → Option (ℕ × List ℕ)
any_word [] text = None
any_word (word ∷ words) text =
    or_word word.number (result_ok (after_literal word.text text)) (any_word words text)

-- the bytes of a field, and the rest of the text; the digits of bytes may follow `0x`
abbrev pub any_field : Shape → ℕ → List ℕ → Option (List ℕ × List ℕ)
any_field Hexadecimal width text = any_number (256 ^ width) text >>= as_bytes width
any_field Decimal width text = any_number (256 ^ width) text >>= as_bytes width
any_field OrDefault width text = number_or_word (256 ^ width) text >>= as_bytes width
any_field Next width text = any_number 257 text >>= less_one >>= as_bytes width
any_field (Word list) width text = any_word (words_of list) text >>= as_bytes width
any_field shape width text = field_read shape width (past_base text)

-- whether a field of this shape may be omitted: whether it is a number
abbrev pub is_number : Shape → Bool
is_number Hexadecimal = true
is_number Decimal = true
is_number shape = false

-- each byte of a number that is omitted
abbrev pub spare_byte : Spare → ℕ
spare_byte Zeros = 0
spare_byte Ones = 0xff

-- the bytes of a field, each of which is `spare` if a number is omitted before `)`
abbrev pub value_or_spare : Shape → Spare → ℕ → List ℕ → Option (List ℕ × List ℕ)
value_or_spare shape spare width text = if is_number shape && (first_of text == 41)
    then Some (replicate width (spare_byte spare), text) else any_field shape width text

-- the rest of a text after the ending of a field; before `)`, a comma and its `0x` may be omitted
abbrev pub after_ending : List ℕ → List ℕ → Result (List ℕ) Stop
after_ending ending text = if (first_of text == 41) && is_ok (after_literal ending (codes ","))
    then Ok text else after_literal ending text

-- what is expected where a list requires a word
abbrev pub expected_word : Words → Expected
expected_word Parity = expected.Parity
expected_word StopBits = expected.StopBits
expected_word words = expected.AsPrinted

-- what is expected where a field is required
abbrev pub expected_field : Shape → ℕ → Expected
expected_field Hexadecimal width = expected.Number (256 ^ width - 1)
expected_field Decimal width = expected.Number (256 ^ width - 1)
expected_field OrDefault width = expected.NumberOrDefault (256 ^ width - 1)
expected_field Back width = expected.Digits (width * 2)
expected_field Forth width = expected.Digits (width * 2)
expected_field Dashed width = expected.DashedDigits (width * 2)
expected_field Next width = expected.NumberFromOne 256
expected_field Eisa width = expected.Id
expected_field (Word list) width = expected_word list
