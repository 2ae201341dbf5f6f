-- Which Rust texts are refused as a UCS-2 text, and why.
use Rattle.std.specs.Prelude.{ℕ, ◌<◌, ◌≤◌, Bool, ◌||◌, ◌==◌, nat_lt, if◌then◌else◌, List, Option, Some, None, find}
use Rattle.uefi_text.specs.declared.errors.FromStrError.{FromStrError}
use Rattle.uefi_text.specs.declared.errors.FromStrError.TheVariants.{InvalidChar, InteriorNul}

-- the test for a character that no UCS-2 text holds: NUL, or one above 0xffff
abbrev pub is_deciding_char : ℕ → Bool
is_deciding_char c = (c == 0) || nat_lt 0xffff c

-- a character of a Rust text that a UCS-2 text holds
abbrev pub IsAcceptedChar : ℕ → Type 0
IsAcceptedChar c = (0 < c) × (c ≤ 0xffff)

-- the refusal by the first that none holds
abbrev pub refusal_of_char : Option ℕ → Option FromStrError
refusal_of_char None = None
refusal_of_char (Some c) = if c == 0 then Some InteriorNul else Some InvalidChar

-- the refusal of characters, or none if they are a UCS-2 text
abbrev pub from_str_refusal : List ℕ → Option FromStrError
from_str_refusal characters = refusal_of_char (find is_deciding_char characters)
