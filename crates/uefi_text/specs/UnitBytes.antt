-- Strings as bytes, two for each code unit, the low one first; and which bytes are refused as one.
use Rattle.std.specs.Prelude.{◌≡◌, ℕ, ◌/◌, ◌%◌, ◌==◌, nat_eq, Bool, ◌&&◌, if◌then◌else◌, List, [], ◌∷◌, length, Option, Some}
use Rattle.std.specs.List.{ends_with}
use Rattle.uefi_text.specs.FromSliceWithNul.{with_nul_refusal}
use Rattle.uefi_text.specs.Packed.{packed_items}
use Rattle.uefi_text.specs.Units.{IsText, nul_terminated}
use Rattle.uefi_text.specs.declared.errors.FromSliceWithNulError.{FromSliceWithNulError}
use Rattle.uefi_text.specs.declared.errors.FromSliceWithNulError.TheVariants.{NotNulTerminated}

-- the bytes of code units, two bytes each, the low byte first
abbrev pub unit_bytes : List ℕ → List ℕ
unit_bytes [] = []
unit_bytes (unit ∷ units) = unit % 256 ∷ unit / 256 ∷ unit_bytes units

-- the bytes encode a text and its NUL
abbrev pub BytesEncode : List ℕ → List ℕ → Type 0
BytesEncode bytes text = IsText text × (bytes ≡ unit_bytes (nul_terminated text))

-- the code units that bytes encode, two bytes each, if the number of bytes is even
abbrev pub units_of_bytes : List ℕ → List ℕ
units_of_bytes bytes = packed_items 2 (length bytes / 2) bytes

-- the test for an even number of bytes that ends in a NUL of two
abbrev pub ends_in_nul : List ℕ → Bool
ends_in_nul bytes = (length bytes % 2 == 0) && ends_with nat_eq bytes (0 ∷ 0 ∷ [])

-- the refusal of bytes, or none if they encode a text: they must end in a NUL, and then their units
-- decide
abbrev pub unit_bytes_refusal : List ℕ → Option FromSliceWithNulError
unit_bytes_refusal bytes =
    if ends_in_nul bytes then with_nul_refusal (units_of_bytes bytes) else Some NotNulTerminated
