-- The case of code units, as the firmware's Unicode collation has it for English (UEFI Specification 2.10,
-- section 21.1): the letters of ASCII and of Latin-1.
use Rattle.std.specs.Prelude.{ℕ, ◌+◌, ◌-◌, Bool, ◌&&◌, ◌||◌, ◌==◌, not, nat_le, if◌then◌else◌, List, map}
use Rattle.std.specs.Ordering.{nat_cmp}
use Rattle.std.specs.Cmp.Lexicographic.{slice_cmp}
use Rattle.std.specs.declared.cmp.Ordering.{Ordering}
use Rattle.uefi_text.specs.declared.case.Case.{Case}
use Rattle.uefi_text.specs.declared.case.Case.TheVariants.{Upper, Lower}

-- the test for a unit that has an upper case, 32 below it: a to z, and U+00E0 to U+00FE but the division sign
abbrev pub is_lowercase : ℕ → Bool
is_lowercase unit =
    (nat_le 97 unit && nat_le unit 122) || (nat_le 0xe0 unit && nat_le unit 0xfe && not (unit == 0xf7))

-- a unit in upper case
abbrev pub upper : ℕ → ℕ
upper unit = if is_lowercase unit then unit - 32 else unit

-- a unit in lower case
abbrev pub lower : ℕ → ℕ
lower unit = if is_lowercase (unit + 32) then unit + 32 else unit

-- units in upper case
abbrev pub uppers : List ℕ → List ℕ
uppers units = map upper units

-- units in lower case
abbrev pub lowers : List ℕ → List ℕ
lowers units = map lower units

-- a unit in one of the two cases
abbrev pub in_case : Case → ℕ → ℕ
in_case Upper unit = upper unit
in_case Lower unit = lower unit

-- the order of units without case: the list order of their upper cases
abbrev pub caseless_order : List ℕ → List ℕ → Ordering
caseless_order units others = slice_cmp nat_cmp (uppers units) (uppers others)
