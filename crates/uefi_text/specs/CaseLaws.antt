-- The laws of case, over the definitions that contracts of working calls cite.
use Rattle.std.specs.Prelude.{◌≡◌, ◌<◌, ◌^◌, ◌↔◌, ℕ, Bool, IsTrue, List, map, nat_eq}
use Rattle.std.specs.Char.{to_ascii_lowercase, to_ascii_uppercase}
use Rattle.std.specs.Cmp.{IsEquivalence, IsTotalOrder}
use Rattle.std.specs.Cmp.Lexicographic.{pointwise}
use Rattle.std.specs.Str.{IsAscii}
use Rattle.std.specs.declared.cmp.Ordering.TheVariants.{Equal}
use Rattle.uefi_text.specs.Case.{caseless_order, lower, upper, uppers}

-- upper case is reached at once
abbrev pub UpperOnce : Type 0
UpperOnce = (unit : ℕ) → upper (upper unit) ≡ upper unit

-- and so is lower case
abbrev pub LowerOnce : Type 0
LowerOnce = (unit : ℕ) → lower (lower unit) ≡ lower unit

-- lower case before it changes nothing
abbrev pub UpperOfLower : Type 0
UpperOfLower = (unit : ℕ) → upper (lower unit) ≡ upper unit

-- and the other way
abbrev pub LowerOfUpper : Type 0
LowerOfUpper = (unit : ℕ) → lower (upper unit) ≡ lower unit

-- whether texts are the same without case
abbrev pub caseless_equal : List ℕ → List ℕ → Bool
caseless_equal text other = pointwise nat_eq (uppers text) (uppers other)

-- sameness without case is an equivalence
abbrev pub CaselessIsEquivalence : Type 0
CaselessIsEquivalence = IsEquivalence caseless_equal

-- it is that of the upper cases
abbrev pub CaselessWhereSame : Type 0
CaselessWhereSame = (text other : List ℕ) → IsTrue (caseless_equal text other) ↔ (uppers text ≡ uppers other)

-- equal texts are the same without case
abbrev pub SameWithoutCase : Type 0
SameWithoutCase = (text other : List ℕ) → text ≡ other → uppers text ≡ uppers other

-- the order without case is total: of two texts either is less, or they are alike, and less chains
abbrev pub CaselessOrderIsTotal : Type 0
CaselessOrderIsTotal = IsTotalOrder caseless_order

-- of two texts neither is less exactly where they are the same without case
abbrev pub TiesWithoutCase : Type 0
TiesWithoutCase = (text other : List ℕ) → (caseless_order text other ≡ Equal) ↔ (uppers text ≡ uppers other)

-- the case of ASCII is std's
abbrev pub AsciiCase : Type 0
AsciiCase = (unit : ℕ) → unit < 2 ^ 7
    → (upper unit ≡ to_ascii_uppercase unit) × (lower unit ≡ to_ascii_lowercase unit)

-- texts of ASCII are the same without case where std says so
abbrev pub AsciiSameWithoutCase : Type 0
AsciiSameWithoutCase = (text other : List ℕ) → IsAscii text → IsAscii other
    → (uppers text ≡ uppers other) ↔ (map to_ascii_lowercase text ≡ map to_ascii_lowercase other)
