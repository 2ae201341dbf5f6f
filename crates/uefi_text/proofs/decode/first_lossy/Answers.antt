-- The unit after the first is that at place 1, or 0 where there is none.
use Rattle.std.proofs.Common.{◌≡◌, ◌+◌, ◌∷◌, ℕ, drop, slice_index, ap, arith, refl, sym, ◌∙◌}
use Rattle.std.proofs.Math.ListN.{get_or-eq_default}
use Rattle.std.specs.Char.Utf16.{utf16_lossy_chars}
use Rattle.uefi_text.proofs.decode.first_lossy.Goals as goal
use Rattle.uefi_text.proofs.decode.first_lossy.Goals.{then-units-gt1, else-units-gt1}

pub returns-clause-within : goal.returns-clause-within
returns-clause-within c =
    let units = c.args.units.now in
    let next : slice_index units 1 ≡ c.if-units-gt1.next = elim c.if-units-gt1.branch [
      | then-units-gt1 w ↦ sym w.next-is
      | else-units-gt1 w ↦ get_or-eq_default units 0 {n = 1} (omega (arith, w.if-units-gt1.false)) ∙ sym w.next-is
    ] in
    omega (arith, c.lossy_char.ensures.within units 0 c.requires next)

pub returns-clause-first : goal.returns-clause-first
returns-clause-first c =
    let units = c.args.units.now in
    let next : slice_index units 1 ≡ c.if-units-gt1.next = elim c.if-units-gt1.branch [
      | then-units-gt1 w ↦ sym w.next-is
      | else-units-gt1 w ↦ get_or-eq_default units 0 {n = 1} (omega (arith, w.if-units-gt1.false)) ∙ sym w.next-is
    ] in
    let after : 0 + c.lossy_char.result.1 ≡ c.lossy_char.result.1 = omega arith in
    c.lossy_char.ensures.first units 0 c.requires refl next
    ∙ ap (λ (n : ℕ). c.lossy_char.result.0 ∷ utf16_lossy_chars (drop n units)) after
