-- Latin-1, in which a character is one byte, its number.
use Rattle.std.specs.Prelude.{◌≤◌, ℕ, List, All}
use Rattle.uefi_text.specs.Units.{IsNulTerminated}

-- characters of Latin-1, none of them above U+00FF
abbrev pub IsLatin1 : List ℕ → Type 0
IsLatin1 characters = All (λ c. c ≤ 0xff) characters

-- a NUL-terminated string of Latin-1: bytes of which exactly the last is zero
abbrev pub IsLatin1String : List ℕ → Type 0
IsLatin1String bytes = IsNulTerminated bytes
