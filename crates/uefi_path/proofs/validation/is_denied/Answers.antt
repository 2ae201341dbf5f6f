-- The table says of each character of ASCII what the list says.
use Rattle.std.proofs.Common.{◌≡◌, ◌<◌, ◌+◌, ℕ, zero, suc, Bool, List, [], ◌∷◌, get_or, false, ap, refl, add-zero, arith, sym, zero-add}
use Rattle.uefi_path.specs.Verdicts.{is_denied}
use Rattle.uefi_path.proofs.validation.is_denied.Goals as goal

-- what the list says of some numbers in a row
abbrev said : ℕ → ℕ → List Bool
said zero first = []
said (suc count) first = is_denied first ∷ said count (first + 1)

at : (count first place : ℕ) → place < count → get_or (said count first) place false ≡ is_denied (first + place)
at zero first place inside = absurd (omega (arith, inside))
at (suc count) first zero inside = ap is_denied (sym (add-zero first))
at (suc count) first (suc place) inside = grind (arith, at count (first + 1) place (omega (arith, inside)))

in_table : (table : List Bool) (place unit : ℕ) → said 128 0 ≡ table → place < 128 → unit ≡ place
    → get_or table place false ≡ is_denied unit
in_table table place unit is inside same = grind (arith, at 128 0 place inside, zero-add place)

pub returns-then-place-lt128 : goal.returns-then-place-lt128
returns-then-place-lt128 c =
    in_table _ c.from-place.result c.args.character refl c.if-place-lt128.true (omega (arith, c.from-place.ensures, c.from.ensures))
