use Rattle.std.proofs.Common.{◌≡◌, refl, None, Some, arith, rules}
use Rattle.std.proofs.lemmas.List.{length-map}
use Rattle.uefi_boot_variables.proofs.NameTexts.{map_split, name_found, no_name}
use Rattle.uefi_boot_variables.proofs.variable_names.read_name.Goals as goal

pub returns-in_err-number-clause-exact : goal.returns-in_err-number-clause-exact
returns-in_err-number-clause-exact g c =
    let f = g.U.Unit.number in
    let is = map_split f c.args.units.now _ _ _ c.split_at.ensures.front c.split_at.ensures.back in
    λ name small. (
      λ e. cc,
      λ e. absurd (no_name _ _ _ is (simp length-map (omega arith))
          (λ number low is_digits. let given : None ≡ Some number = (c.in_err-number.ensures.exact number low).1 is_digits in cc) name small e),
    )

pub returns-clause-exact : goal.returns-clause-exact
returns-clause-exact g c =
    let f = g.U.Unit.number in
    let is = map_split f c.args.units.now _ _ _ c.split_at.ensures.front c.split_at.ensures.back in
    name_found _ _ _ c.in_ok-kind.kind c.in_ok-number.number is (simp length-map (omega arith))
    ((c.in_ok-kind.ensures.exact c.in_ok-kind.kind).0 refl)
    ((c.in_ok-number.ensures.exact c.in_ok-number.number (search rules)).0 refl) (search rules)
