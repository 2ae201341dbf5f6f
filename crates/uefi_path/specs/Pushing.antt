-- What a path is once another was pushed after it.
use Rattle.std.specs.Prelude.{◌≡◌, ℕ, ◌+◌, ◌<◌, ◌≤◌, Bool, false, not, if◌then◌else◌, List, [], ◌∷◌, ◌++◌, Result, IfOk, OnErr, length, slice_index}
use Rattle.std.specs.List.{slice_range}
use Rattle.uefi_path.specs.Separators.{separator, is_separator, with_separators}
use Rattle.uefi_path.specs.Views.{counted_text, reads_of}
use Rattle.uefi_path.specs.declared.counted_units.CountedUnits.{CountedUnits}

-- whether a separator is missing after a text: it is not empty, and its last unit is none
abbrev pub needs_separator : List ℕ → Bool
needs_separator [] = false
needs_separator (unit ∷ units) = not (is_separator (slice_index (unit ∷ units) (length units)))

-- a part after a text, and a separator between the two where one is missing
abbrev pub appended : List ℕ → List ℕ → List ℕ
appended text part = if needs_separator text then text ++ separator ∷ part else text ++ part

-- a path pushed onto another, with its slashes replaced; the empty path changes nothing
abbrev pub pushed : List ℕ → List ℕ → List ℕ
pushed text [] = text
pushed text (unit ∷ units) = appended text (with_separators (unit ∷ units))

-- what a push of a path adds, by whether a separator is missing
abbrev pub tail_of : Bool → List ℕ → List ℕ
tail_of is_missing path = if is_missing then separator ∷ with_separators path else with_separators path

-- a push of the counted units from an index on: what the text becomes, where the units after them begin, and
-- that each was read once, or at most once where the push was refused
pub record IsPushNext {E : Type 0} (old new : List ℕ) (before after : CountedUnits) (start : ℕ)
    (done : Result ℕ E) : Type 0 where
  pub ok : IfOk done (λ end. new ≡ old ++ with_separators (slice_range (counted_text before) start end))
  pub further : IfOk done (λ end. start < end)
  pub within : IfOk done (λ end. end ≤ length (counted_text before))
  pub err : OnErr done (new ≡ old)
  pub text : counted_text after ≡ counted_text before
  pub once : IfOk done (λ end. reads_of after + start ≡ reads_of before + end)
  pub at_most : reads_of after + start ≤ reads_of before + length (counted_text before)
