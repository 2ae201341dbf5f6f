-- Calls that programs print for different nodes.
use Rattle.std.specs.Prelude.{ℕ, ◌==◌, ◌-◌, nat_lt, Bool, false, ◌&&◌, ◌||◌, if◌then◌else◌, List, [], ◌∷◌, codes, drop, length, Option, Some, None, is_some}
use Rattle.std.specs.Option.{option_map, option_or}
use Rattle.uefi_node_reader.specs.Numerals.{digit_of}
use Rattle.uefi_node_reader.specs.TableReading.{first_of}
use Rattle.uefi_node_reader.specs.WordReading.{after}
use Rattle.uefi_node_reader.specs.declared.errors.faults.Expected.TheVariants as expected
use Rattle.uefi_node_reader.specs.declared.errors.faults.Stop.{Stop}

-- whether a text begins with two decimal digits
abbrev pub two_digits : List ℕ → Bool
two_digits [] = false
two_digits (c ∷ cs) = nat_lt (digit_of c) 10 && nat_lt (digit_of (first_of cs)) 10

-- the length of a text, if it begins with two digits
abbrev pub digits_left : Option (List ℕ) → Option ℕ
digits_left None = None
digits_left (Some text) = if two_digits text then Some (length text) else None

-- how much of a text is left after the first mark that two digits follow
abbrev pub left_after : List ℕ → List ℕ → Option ℕ
left_after mark [] = None
left_after mark (c ∷ cs) = option_or (digits_left (after mark (c ∷ cs))) (left_after mark cs)

-- whether a text begins with another
abbrev pub begins_with : List ℕ → List ℕ → Bool
begins_with start text = is_some (after start text)

-- how much of a tidied call is left from the first number that some programs print in hexadecimal without
-- `0x`, and others in decimal
abbrev pub bare_number_left : List ℕ → Option ℕ
bare_number_left text =
    if begins_with (codes "HD(") text then left_after (codes "MBR,") text
    else if begins_with (codes "ACPI(") text then left_after (codes "(") text
    else if begins_with (codes "BLUETOOTHLE(") text then left_after (codes ",") text
    else if begins_with (codes "FIBRE(") text
    || (begins_with (codes "SAS(") text || begins_with (codes "USBCLASS(") text)
    then option_or (left_after (codes "(") text) (left_after (codes ",") text)
    else None

-- the stop at a number that should begin with `0x`
abbrev pub base_stop : ℕ → Stop
base_stop left = record { left = left; expected = expected.Base }

-- whether a tidied call is a short name, which never has numbers
abbrev pub is_named_alone : List ℕ → Bool
is_named_alone text = begins_with (codes "VENPCANSI()") text || (begins_with (codes "VENVT100()") text
    || (begins_with (codes "VENVT100PLUS()") text || (begins_with (codes "VENUTF8()") text
    || begins_with (codes "DEBUGPORT()") text)))

-- whether nothing is between the parentheses of a tidied call
abbrev pub is_empty_call : List ℕ → Bool
is_empty_call text = first_of (drop (length text - 2) text) == 40

-- where a tidied call becomes ambiguous
abbrev pub ambiguous_stop : List ℕ → Option Stop
ambiguous_stop text = if is_named_alone text then None else if is_empty_call text then Some (base_stop 1)
    else option_map base_stop (bare_number_left text)
