-- What is printed of an error.
use Rattle.std.specs.Fmt.{decimal}
use Rattle.std.specs.Prelude.{ℕ, codes, List, ◌++◌}
use Rattle.uefi_boot_variables.specs.declared.orders.NotTwoBytes.{NotTwoBytes}

-- the text of an error for an odd number of bytes
abbrev pub odd_length_text : List ℕ
odd_length_text = codes "boot order has an odd number of bytes"

-- the text of an error for bytes that are not two
abbrev pub not_two_bytes_text : NotTwoBytes → List ℕ
not_two_bytes_text error = codes "expected 2 bytes, found " ++ decimal error.0

-- the text of an error for an order without room
abbrev pub order_full_text : List ℕ
order_full_text = codes "boot order is full"
