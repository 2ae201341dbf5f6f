-- The laws of strings, over the definitions that contracts of working calls cite.
use Rattle.std.specs.Prelude.{◌≡◌, ◌↔◌, ℕ, All, List, None}
use Rattle.std.specs.Char.{IsScalar}
use Rattle.uefi_text.specs.Units.{IsText}
use Rattle.uefi_text.specs.FromStr.{from_str_refusal}
use Rattle.uefi_text.specs.Packed.{IsByte}
use Rattle.uefi_text.specs.UnitBytes.{BytesEncode, unit_bytes_refusal}

-- every text has bytes that encode it
abbrev pub TextsAreEncoded : Type 0
TextsAreEncoded = (text : List ℕ) → IsText text → (bytes : List ℕ) × BytesEncode bytes text

-- a text is encoded by one list of bytes alone
abbrev pub EncodedOnce : Type 0
EncodedOnce = (text bytes other : List ℕ) → BytesEncode bytes text → BytesEncode other text → bytes ≡ other

-- no bytes encode two texts
abbrev pub EncodeOneText : Type 0
EncodeOneText = (bytes text other : List ℕ) → BytesEncode bytes text → BytesEncode bytes other → text ≡ other

-- bytes are accepted exactly where they encode a text
abbrev pub AcceptedWhereEncoded : Type 0
AcceptedWhereEncoded = (bytes : List ℕ) → All IsByte bytes
    → (unit_bytes_refusal bytes ≡ None) ↔ ((text : List ℕ) × BytesEncode bytes text)

-- characters are a text exactly where none of them is refused
abbrev pub TextWhereUnrefused : Type 0
TextWhereUnrefused = (characters : List ℕ) → All IsScalar characters
    → IsText characters ↔ (from_str_refusal characters ≡ None)

-- each unit of a text is a character
abbrev pub TextsAreCharacters : Type 0
TextsAreCharacters = (text : List ℕ) → IsText text → All IsScalar text
