use Rattle.std.proofs.Common.{◌≡◌, ◌∙◌, sym, refl, Some, length, map, arith}
use Rattle.std.proofs.lemmas.List.{length-map}
use Rattle.uefi_boot_variables.proofs.NameTexts.{digits_found}
use Rattle.uefi_boot_variables.proofs.variable_names.read_digits.Goals as goal

pub returns : goal.returns
returns g c =
    let text = map g.U.Unit.number c.args.units.now in
    let long : length text ≡ 4 = simp length-map (omega arith) in
    record {
      exact = digits_found text c.in_ok-a.a c.in_ok-b.b c.in_ok-c.c c.in_ok-d.d long c.in_ok-a.ensures.below c.in_ok-b.ensures.below c.in_ok-c.ensures.below c.in_ok-d.ensures.below
          (sym c.unit_at.ensures ∙ (c.in_ok-a.ensures.exact c.in_ok-a.a c.in_ok-a.ensures.below).0 (refl {a = Some c.in_ok-a.a}))
          (sym c.unit_at-2.ensures ∙ (c.in_ok-b.ensures.exact c.in_ok-b.b c.in_ok-b.ensures.below).0 (refl {a = Some c.in_ok-b.b}))
          (sym c.unit_at-3.ensures ∙ (c.in_ok-c.ensures.exact c.in_ok-c.c c.in_ok-c.ensures.below).0 (refl {a = Some c.in_ok-c.c}))
          (sym c.unit_at-4.ensures ∙ (c.in_ok-d.ensures.exact c.in_ok-d.d c.in_ok-d.ensures.below).0 (refl {a = Some c.in_ok-d.d}));
    }
