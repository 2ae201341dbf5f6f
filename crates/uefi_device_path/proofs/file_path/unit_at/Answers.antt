-- A name has a unit at each index before its NUL.
use Rattle.std.proofs.Common.{rules, ◌≡◌, ◌∙◌, ap, sym, refl, subst, ◌-◌, ◌<◌, ◌∷◌, [], ℕ, zero, suc, List, None, Option, Some, get_or, length, take, arith}
use Rattle.std.proofs.lemmas.Grind.{common_steps}
use Rattle.std.proofs.lemmas.List.{get_or-take}
use Rattle.std.proofs.lemmas.List.Elements.{All-get_or}
use Rattle.std.specs.Prelude.{IsSome, option_map, slice_get}
use Rattle.uefi_text.specs.Units.{IsTextUnit, without_nul}
use Rattle.uefi_text.specs.Views.{items_of}
use Rattle.uefi_device_path.proofs.file_path.unit_at.Goals as goal

at_get : (items : List ℕ) (place other : ℕ) → place < length items → slice_get items place ≡ Some (get_or items place other)
at_get [] place other within = absurd (omega (arith, within))
at_get (x ∷ xs) zero other within = refl
at_get (x ∷ xs) (suc i) other within = at_get xs i other (omega (arith, within))

found : {A : Type 0} (number : A → ℕ) (item : Option A) (items : List ℕ) (place : ℕ) → option_map number item ≡ slice_get items place
    → place < length items → IsSome item
found number None items place e within = absurd (cc (e, at_get items place 0 within))
found number (Some x) items place e within = search rules

unit_is : (items : List ℕ) (place unit : ℕ) → slice_get items place ≡ Some unit → place < length items - 1
    → unit ≡ get_or (take (length items - 1) items) place 0
unit_is items place unit is within =
    let found : Some (get_or items place 0) ≡ Some unit = sym (at_get items place 0 (omega (arith, within))) ∙ is in
    let at : get_or items place 0 ≡ unit = cc in
    sym (get_or-take (length items - 1) items place 0 within ∙ at)

pub unwrap-requires : goal.unwrap-requires
unwrap-requires c = found _ c.get.result (items_of c.args.name.now) c.args.place c.get.ensures (omega (arith, c.requires.within))

pub returns-clause-unit : goal.returns-clause-unit
returns-clause-unit c =
    unit_is (items_of c.args.name.now) c.args.place c.unwrap.result (sym c.get.ensures ∙ ap (λ o. option_map (λ (n : ℕ). n) o) c.unwrap.ensures)
    (omega (arith, c.requires.within))

pub returns-clause-text : goal.returns-clause-text
returns-clause-text c =
    let text = without_nul (items_of c.args.name.now) in
    let within : c.args.place < length text = grind (arith, common_steps, c.requires.within) in
    subst IsTextUnit (sym (unit_is (items_of c.args.name.now) c.args.place c.unwrap.result
    (sym c.get.ensures ∙ ap (λ o. option_map (λ (n : ℕ). n) o) c.unwrap.ensures) (omega (arith, c.requires.within))))
    (All-get_or IsTextUnit text c.args.place 0 within c.requires.is_string.1)
