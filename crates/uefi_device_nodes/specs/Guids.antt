-- The texts of GUIDs (UEFI Specification 2.10, appendix A).
use Rattle.std.specs.Prelude.{◌≡◌, ℕ, ◌+◌, ◌<◌, List, [], ◌∷◌, ◌++◌, All, codes, length, map, slice_index, slice_range}
use Rattle.std.specs.Char.{to_ascii_uppercase}
use Rattle.uefi_text.specs.Packed.{IsByte}
use Rattle.uefi_device_nodes.specs.FieldTexts.{hex_back, hex_bytes, hex_two}
use Rattle.uefi_device_nodes.specs.ShownFields.{IsShown}

-- bytes that are a GUID
abbrev pub IsGuid : List ℕ → Type 0
IsGuid bytes = (length bytes ≡ 16) × All IsByte bytes

-- the text of a GUID: three numbers, stored with the low byte first, and then bytes in order
unfoldable pub guid_text : List ℕ → List ℕ
guid_text bytes = hex_back (slice_range bytes 0 4)
    ++ (codes "-" ++ (hex_back (slice_range bytes 4 6)
    ++ (codes "-" ++ (hex_back (slice_range bytes 6 8)
    ++ (codes "-" ++ (hex_bytes (slice_range bytes 8 10)
    ++ (codes "-" ++ hex_bytes (slice_range bytes 10 16))))))))

-- a text of a GUID, in either case
abbrev pub IsGuidText : List ℕ → List ℕ → Type 0
IsGuidText text bytes = map to_ascii_uppercase text ≡ guid_text bytes

-- a text has the two digits of a byte at a place, in either case
abbrev pub StandsAt : List ℕ → ℕ → ℕ → Type 0
StandsAt text place byte = hex_two byte ≡ to_ascii_uppercase (slice_index text place)
    ∷ to_ascii_uppercase (slice_index text (place + 1)) ∷ []

-- where the digits of each byte begin in the text of a GUID
abbrev pub digit_places : List ℕ
digit_places = 6 ∷ 4 ∷ 2 ∷ 0 ∷ 11 ∷ 9 ∷ 16 ∷ 14 ∷ 19 ∷ 21 ∷ 24 ∷ 26 ∷ 28 ∷ 30 ∷ 32 ∷ 34 ∷ []

-- a text has the digits of all bytes at their places
abbrev pub HasBytes : List ℕ → List ℕ → Type 0
HasBytes text bytes =
    (k : ℕ) → k < 16 → StandsAt text (slice_index digit_places k) (slice_index bytes k)

-- a text has the length of a GUID's text, and its dashes
pub record IsDashed (text : List ℕ) : Type 0 where
  pub whole : length text ≡ 36
  pub first : slice_index text 8 ≡ 45
  pub second : slice_index text 13 ≡ 45
  pub third : slice_index text 18 ≡ 45
  pub fourth : slice_index text 23 ≡ 45

-- the text of a GUID is in upper case, and reads back as that GUID
abbrev pub GuidsRead : Type 0
GuidsRead = (bytes : List ℕ) → IsGuid bytes → IsGuidText (guid_text bytes) bytes

-- no two GUIDs have the same text
abbrev pub GuidsOnce : Type 0
GuidsOnce = (bytes others : List ℕ) → IsGuid bytes → IsGuid others
    → guid_text bytes ≡ guid_text others → bytes ≡ others

-- no text of a GUID contains a character that texts escape
abbrev pub GuidsShown : Type 0
GuidsShown = (bytes : List ℕ) → IsShown (guid_text bytes)
