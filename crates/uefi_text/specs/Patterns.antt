-- Patterns, and the texts that they match: by five rules, one for each way that a pattern begins.
use Rattle.std.specs.Prelude.{◌≡◌, ◌≢◌, ◌≤◌, ◌⊎◌, ℕ, List, [], ◌∷◌, ◌++◌}
use Rattle.uefi_text.specs.Case.{upper}

-- the units that have a meaning in patterns: * ? [ ] -
abbrev pub star : ℕ
star = 42

abbrev pub question_mark : ℕ
question_mark = 63

abbrev pub left_bracket : ℕ
left_bracket = 91

abbrev pub right_bracket : ℕ
right_bracket = 93

abbrev pub hyphen : ℕ
hyphen = 45

-- no `]` among the units of a set
abbrev pub HasNoEnd : List ℕ → Type 0
HasNoEnd [] = Unit {0}
HasNoEnd (c ∷ cs) = (c ≢ right_bracket) × HasNoEnd cs

-- the last of units that follow a unit
abbrev pub last_of : ℕ → List ℕ → ℕ
last_of before [] = before
last_of before (c ∷ cs) = last_of c cs

-- a unit of a set, other than `-`, is this one in upper case
abbrev pub HasUnit : List ℕ → ℕ → Type 0
HasUnit set capital = (front : List ℕ) × (c : ℕ) × (rest : List ℕ)
    × (set ≡ front ++ c ∷ rest) × (c ≢ hyphen) × (upper c ≡ capital)

-- in a set, which follows a unit, a `-` stands between two units that this one lies between in upper case, or
-- before one that is this one
abbrev pub HasRange : ℕ → List ℕ → ℕ → Type 0
HasRange before set capital = (front : List ℕ) × (last : ℕ) × (rest : List ℕ)
    × (set ≡ front ++ hyphen ∷ last ∷ rest)
    × (((upper (last_of before front) ≤ capital) × (capital ≤ upper last)) ⊎ (upper last ≡ capital))

-- a unit is one of a set. A range that nothing stands before begins at 0
abbrev pub IsInSet : List ℕ → ℕ → Type 0
IsInSet set unit = HasUnit set (upper unit) ⊎ HasRange 0 set (upper unit)

-- a pattern matches a text
pub data Matches : List ℕ → List ℕ → Type 0 where
  -- the empty pattern matches the empty text
  Nothing : Matches [] []
  -- `*` matches any units
  Any : {pattern back : List ℕ} (front : List ℕ) → Matches pattern back
      → Matches (star ∷ pattern) (front ++ back)
  -- `?` matches any one unit
  One : {pattern back : List ℕ} (unit : ℕ) → Matches pattern back
      → Matches (question_mark ∷ pattern) (unit ∷ back)
  -- `[`, a set and `]` match one unit of the set
  OneOf : {pattern back : List ℕ} (set : List ℕ) (unit : ℕ)
      → HasNoEnd set → IsInSet set unit → Matches pattern back
      → Matches (left_bracket ∷ (set ++ right_bracket ∷ pattern)) (unit ∷ back)
  -- any other unit matches itself without case
  Itself : {pattern back : List ℕ} (c unit : ℕ) → c ≢ star → c ≢ question_mark → c ≢ left_bracket
      → upper c ≡ upper unit → Matches pattern back
      → Matches (c ∷ pattern) (unit ∷ back)
