-- Texts in UTF-16, as the bytes that they have in UTF-8.
use Rattle.std.specs.Prelude.{ℕ, zero, suc, ◌+◌, ◌-◌, min, nat_le, ◌==◌, if◌then◌else◌, List, [], ◌∷◌, ◌++◌, drop, length, encode_utf8, Option, Some, None, Result, Ok, Err}
use Rattle.std.specs.Char.{len_utf8}
use Rattle.std.specs.Char.Escape.{encode_utf16}
use Rattle.std.specs.Char.Utf16.{utf16_chars}
use Rattle.std.specs.List.{flat_map}
use Rattle.std.specs.Str.{encode_utf8_all}

-- the characters before the first surrogate without a partner
abbrev pub chars_before : List (Option ℕ) → List ℕ
chars_before [] = []
chars_before (Some c ∷ rest) = c ∷ chars_before rest
chars_before (None ∷ rest) = []

-- the characters of units before such a surrogate
abbrev pub paired_chars : List ℕ → List ℕ
paired_chars units = chars_before (utf16_chars units)

-- how many units are before it
abbrev pub paired_len : List ℕ → ℕ
paired_len units = length (flat_map encode_utf16 (paired_chars units))

-- the UTF-8 of units, or the index of the first surrogate without a partner
abbrev pub utf16_read : List ℕ → Result (List ℕ) ℕ
utf16_read units = if paired_len units == length units
    then Ok (encode_utf8_all (paired_chars units)) else Err (paired_len units)

-- how many units the characters have that end within this many bytes of UTF-8
abbrev pub units_within : ℕ → List ℕ → ℕ
units_within bytes [] = 0
units_within bytes (c ∷ cs) = if nat_le (len_utf8 c) bytes
    then length (encode_utf16 c) + units_within (bytes - len_utf8 c) cs else 0

-- the UTF-8 of characters after the first bytes of the first one; its last byte is left
abbrev pub utf8_from : ℕ → List ℕ → List ℕ
utf8_from passed [] = []
utf8_from passed (c ∷ cs) = drop (min passed (len_utf8 c - 1)) (encode_utf8 c) ++ encode_utf8_all cs

-- this many bytes: those given, and then NULs
abbrev pub nul_padded : ℕ → List ℕ → List ℕ
nul_padded zero bytes = []
nul_padded (suc n) [] = 0 ∷ nul_padded n []
nul_padded (suc n) (byte ∷ bytes) = byte ∷ nul_padded n bytes
