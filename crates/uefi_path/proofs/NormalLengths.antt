-- A normal path has no more units than the path.
use Rattle.std.proofs.Common.{◌≡◌, ◌+◌, ◌≤◌, ℕ, List, [], ◌∷◌, Some, None, Option, ap, arith, length, length-append, inl, inr, if◌then◌else◌}
use Rattle.std.proofs.lemmas.Bool.{cases_Bool}
use Rattle.uefi_path.specs.Components.{components_of, joined}
use Rattle.uefi_path.specs.Laws.{NormalIsNoLonger}
use Rattle.uefi_path.specs.NormalForms.{before_normal, before_piece, kind, normal_of, normal_text}
use Rattle.uefi_path.specs.Separators.{canonical, is_separator, separator}
use Rattle.uefi_path.specs.Verdicts.{verdict}
use Rattle.uefi_path.specs.Writing.{normal_where}
use Rattle.uefi_path.specs.declared.splitting.component_kinds.Kind.{Kind}
use Rattle.uefi_path.specs.declared.validation.PathError.{PathError}
use Rattle.uefi_path.proofs.Joining.{AreComponents-components_of}

-- how many units pieces have, and one for each piece
abbrev units_and_ends : List (List ℕ) → ℕ
units_and_ends [] = 0
units_and_ends (piece ∷ pieces) = length piece + 1 + units_and_ends pieces

joined_units : (pieces : List (List ℕ)) → units_and_ends pieces ≤ length (joined pieces) + 1
joined_units [] = omega arith
joined_units (piece ∷ []) = omega (arith, length-append piece [])
joined_units (piece ∷ next ∷ pieces) =
    let rest = joined_units (next ∷ pieces) in
    omega (arith, rest, length-append piece (separator ∷ joined (next ∷ pieces)))

canonical_units : (text : List ℕ) → length (canonical text) ≤ length text
canonical_units [] = omega arith
canonical_units (unit ∷ units) = elim (cases_Bool (is_separator unit)) [
  | inl cut ↦ omega (arith, ap (λ b. length (if b then units else unit ∷ units)) cut)
  | inr whole ↦ omega (arith, ap (λ b. length (if b then units else unit ∷ units)) whole)
]

path_units : (text : List ℕ) → units_and_ends (components_of text) ≤ length text + 1
path_units text =
    let pieces = joined_units (components_of text) in
    let same = ap length (AreComponents-components_of text).join in
    omega (arith, pieces, same, canonical_units text)

piece_units : (k : Kind) (name piece : List ℕ) (others : List (List ℕ))
    → units_and_ends (before_piece k name piece others) ≤ length name + 1 + (length piece + 1 + units_and_ends others)
piece_units Kind.Dot name piece others = omega arith
piece_units Kind.DotDot name piece others = omega arith
piece_units Kind.Name name piece others = omega arith

before_units : (k : Kind) (piece : List ℕ) (others : List (List ℕ)) → units_and_ends (before_normal k piece others) ≤ length piece + 1 + units_and_ends others
before_units Kind.Dot piece others = omega arith
before_units Kind.DotDot piece others = omega arith
before_units Kind.Name piece [] = omega arith
before_units Kind.Name piece (next ∷ others) = piece_units (kind next) piece next others

normal_units : (pieces : List (List ℕ)) → units_and_ends (normal_of pieces) ≤ units_and_ends pieces
normal_units [] = omega arith
normal_units (piece ∷ pieces) =
    let rest = normal_units pieces in
    omega (arith, rest, before_units (kind piece) piece (normal_of pieces))

joined_units_of : (piece : List ℕ) (pieces : List (List ℕ)) → length (joined (piece ∷ pieces)) + 1 ≡ units_and_ends (piece ∷ pieces)
joined_units_of piece [] = omega (arith, length-append piece [])
joined_units_of piece (next ∷ pieces) =
    let rest = joined_units_of next pieces in
    omega (arith, rest, length-append piece (separator ∷ joined (next ∷ pieces)))

text_units : (pieces : List (List ℕ)) (count : ℕ) → 1 ≤ count → units_and_ends pieces ≤ count + 1 → length (normal_text pieces) ≤ count
text_units [] count some fits = some
text_units (piece ∷ pieces) count some fits = omega (arith, fits, joined_units_of piece pieces)

found : (error : Option PathError) (normal : List (List ℕ)) (text : List ℕ) → normal_where error normal ≡ Some text → normal_text normal ≡ text
found None normal text is = cc
found (Some error) normal text is = absurd (cc)

pub normal_is_no_longer : NormalIsNoLonger
normal_is_no_longer [] normal is = absurd (cc)
normal_is_no_longer (unit ∷ units) normal is =
    let text : List ℕ = unit ∷ units in
    let pieces = components_of text in
    let all = normal_units pieces in
    let most = path_units text in
    let fits = text_units (normal_of pieces) (length text) (omega arith) (omega (arith, all, most)) in
    omega (arith, fits, ap length (found (verdict text) (normal_of pieces) normal is))
