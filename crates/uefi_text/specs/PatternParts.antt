-- What a part of a pattern that is no `*` does with a unit. Only private clauses cite it.
use Rattle.std.specs.Prelude.{◌<◌, ◌≤◌, drop, length, slice_index, ◌≡◌, ℕ, Bool, false, ◌&&◌, ◌||◌, ◌==◌, nat_le, if◌then◌else◌, List, [], ◌∷◌}
use Rattle.uefi_text.specs.Case.{upper}
use Rattle.uefi_text.specs.Patterns.{Matches, hyphen, right_bracket, star}
use Rattle.uefi_text.specs.declared.patterns.Part.{Part}

-- a pattern matches no text that begins with a unit
abbrev pub Refuses : List ℕ → ℕ → Type 0
Refuses pattern unit = (text : List ℕ) → Matches pattern (unit ∷ text) → ⊥

-- a text that begins with one unit, and goes on with what a pattern matches
pub record OneThen (pattern text : List ℕ) : Type 0 where
  pub first : ℕ
  pub back : List ℕ
  pub whole : text ≡ first ∷ back
  pub goes_on : Matches pattern back

-- a pattern takes just one unit before what its rest matches, and takes this one
pub record TakesOne (pattern rest : List ℕ) (unit : ℕ) : Type 0 where
  pub one : (text : List ℕ) → Matches rest text → Matches pattern (unit ∷ text)
  pub only : (text : List ℕ) → Matches pattern text → OneThen rest text

-- the test for the end of a set
abbrev pub is_right_bracket : ℕ → Bool
is_right_bracket c = c == right_bracket

-- whether the rest of a set after a `-` begins with a unit that ends a range which takes another, or is
-- the same
abbrev pub range_takes : ℕ → List ℕ → ℕ → Bool
range_takes first [] unit = false
range_takes first (last ∷ _) unit =
    nat_le (upper first) (upper unit) && nat_le (upper unit) (upper last) || upper last == upper unit

-- whether a unit is one of those in the rest of a set, after another unit of it
abbrev pub rest_takes : ℕ → List ℕ → ℕ → Bool
rest_takes before [] unit = false
rest_takes before (c ∷ cs) unit =
    (if c == hyphen then range_takes before cs unit else upper c == upper unit) || rest_takes c cs unit

-- whether a unit is one of a set
abbrev pub set_has : List ℕ → ℕ → Bool
set_has set unit = rest_takes 0 set unit

-- whether a unit of a set takes another, after two units of it: as the end of a range, or as itself
abbrev pub unit_has : ℕ → ℕ → ℕ → ℕ → Bool
unit_has earlier before c unit =
    (if before == hyphen then range_takes earlier (c ∷ []) unit else false)
    || (if c == hyphen then false else upper c == upper unit)

-- what a part is to the rest of a pattern that begins with it, and to a unit
abbrev pub IsPart : Part → List ℕ → ℕ → Type 0
IsPart Part.Star rest unit = (0 < length rest) × (slice_index rest 0 ≡ star)
IsPart (Part.Takes n) rest unit = (0 < n) × (n ≤ length rest) × TakesOne rest (drop n rest) unit
IsPart Part.Refuses rest unit = Refuses rest unit

-- how many units of a pattern are read at most, to know its first part
abbrev pub part_reads : Part → List ℕ → ℕ
part_reads Part.Star rest = 1
part_reads (Part.Takes n) rest = n
part_reads Part.Refuses rest = length rest
