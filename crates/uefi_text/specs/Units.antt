-- Code units, texts and NUL-terminated strings. A code unit is a number below 2^16.
use Rattle.std.specs.Prelude.{◌≡◌, ◌≢◌, ℕ, ◌-◌, ◌<◌, ◌≤◌, Bool, ◌&&◌, ◌||◌, ◌==◌, nat_le, if◌then◌else◌, List, [], ◌∷◌, ◌++◌, length, take, All, Option, position}

-- a surrogate: a code unit that only the UTF-16 of a character above 0xffff has
abbrev pub IsSurrogate : ℕ → Type 0
IsSurrogate u = (0xd800 ≤ u) × (u ≤ 0xdfff)

-- a character of UCS-2, including NUL: a code unit that is not a surrogate
abbrev pub IsChar16 : ℕ → Type 0
IsChar16 u = (u ≤ 0xffff) × ¬ IsSurrogate u

-- a character of a text: any but NUL
abbrev pub IsTextUnit : ℕ → Type 0
IsTextUnit u = (0 < u) × IsChar16 u

-- a text: it contains neither a NUL nor a surrogate
abbrev pub IsText : List ℕ → Type 0
IsText units = All IsTextUnit units

-- a text as it is stored: followed by one NUL
abbrev pub nul_terminated : List ℕ → List ℕ
nul_terminated text = text ++ 0 ∷ []

-- units that begin with a string: a text, its NUL, and whatever follows
abbrev pub BeginsWithString : List ℕ → Type 0
BeginsWithString units =
    (text : List ℕ) × (rest : List ℕ) × IsText text × (units ≡ nul_terminated text ++ rest)

-- all units but the last
abbrev pub without_nul : List ℕ → List ℕ
without_nul units = take (length units - 1) units

-- a NUL-terminated string: a text and its NUL, and nothing else
abbrev pub IsString : List ℕ → Type 0
IsString units = (units ≡ nul_terminated (without_nul units)) × IsText (without_nul units)

-- elements of which exactly the last is zero
abbrev pub IsNulTerminated : List ℕ → Type 0
IsNulTerminated elements =
    (elements ≡ nul_terminated (without_nul elements)) × All (λ element. element ≢ 0) (without_nul elements)

-- the test for a NUL
abbrev pub is_nul : ℕ → Bool
is_nul unit = unit == 0

-- the test for a surrogate
abbrev pub is_surrogate : ℕ → Bool
is_surrogate u = nat_le 0xd800 u && nat_le u 0xdfff

-- the test for a unit that no text holds; the first such unit decides what a constructor returns
abbrev pub is_deciding : ℕ → Bool
is_deciding u = is_nul u || is_surrogate u

-- the place of the first unit that no text holds
abbrev pub deciding_place : List ℕ → Option ℕ
deciding_place units = position is_deciding units

-- a unit after `replace` took the place of `search`
abbrev pub replaced : ℕ → ℕ → ℕ → ℕ
replaced search replace unit = if unit == search then replace else unit

-- the characters that no file's name holds, in the order of their numbers: NUL and "*/:<>?\|
abbrev pub denied_characters : List ℕ
denied_characters = 0 ∷ 34 ∷ 42 ∷ 47 ∷ 58 ∷ 60 ∷ 62 ∷ 63 ∷ 92 ∷ 124 ∷ []
