-- The laws of patterns: what a pattern matches, by the way that it begins.
use Rattle.std.specs.Prelude.{◌≡◌, ◌≢◌, ◌↔◌, ℕ, List, [], ◌∷◌, ◌++◌}
use Rattle.uefi_text.specs.Case.{upper, uppers}
use Rattle.uefi_text.specs.Patterns.{HasNoEnd, IsInSet, Matches, left_bracket, question_mark, right_bracket, star}

-- the empty pattern matches the empty text alone
abbrev pub NothingAlone : Type 0
NothingAlone = (text : List ℕ) → Matches [] text ↔ (text ≡ [])

-- `*` matches any units
abbrev pub AnyUnits : Type 0
AnyUnits = (pattern text : List ℕ) → Matches (star ∷ pattern) text
    ↔ ((front : List ℕ) × (back : List ℕ) × (text ≡ front ++ back) × Matches pattern back)

-- `?` matches one unit
abbrev pub OneUnit : Type 0
OneUnit = (pattern text : List ℕ) → Matches (question_mark ∷ pattern) text
    ↔ ((unit : ℕ) × (back : List ℕ) × (text ≡ unit ∷ back) × Matches pattern back)

-- `[`, a set and the first `]` match one unit of the set
abbrev pub OneOfSet : Type 0
OneOfSet = (set pattern text : List ℕ) → HasNoEnd set
    → Matches (left_bracket ∷ (set ++ right_bracket ∷ pattern)) text
    ↔ ((unit : ℕ) × (back : List ℕ) × (text ≡ unit ∷ back) × IsInSet set unit × Matches pattern back)

-- a `[` with no `]` after it matches nothing
abbrev pub OpenSet : Type 0
OpenSet = (set text : List ℕ) → HasNoEnd set → Matches (left_bracket ∷ set) text → ⊥

-- any other unit matches one that is the same without case
abbrev pub ItselfAlone : Type 0
ItselfAlone = (c : ℕ) (pattern text : List ℕ) → c ≢ star → c ≢ question_mark → c ≢ left_bracket
    → Matches (c ∷ pattern) text
    ↔ ((unit : ℕ) × (back : List ℕ) × (text ≡ unit ∷ back) × (upper c ≡ upper unit) × Matches pattern back)

-- units that mean themselves in a pattern
abbrev pub HasNoWildcards : List ℕ → Type 0
HasNoWildcards [] = Unit {0}
HasNoWildcards (c ∷ cs) = ((c ≢ star) × (c ≢ question_mark) × (c ≢ left_bracket)) × HasNoWildcards cs

-- a pattern of such units matches exactly what is the same without case
abbrev pub PlainIsSame : Type 0
PlainIsSame = (pattern text : List ℕ) → HasNoWildcards pattern
    → Matches pattern text ↔ (uppers pattern ≡ uppers text)

-- the case of a text does not matter
abbrev pub CaseIsIgnored : Type 0
CaseIsIgnored = (pattern text other : List ℕ) → uppers text ≡ uppers other
    → Matches pattern text → Matches pattern other
