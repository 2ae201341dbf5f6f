use Rattle.std.proofs.Common.{◌∙◌, eqb, get_or, length, sym, arith}
use Rattle.std.proofs.lemmas.Bool.{eq-eqb}
use Rattle.std.proofs.lemmas.Bool.Decides.{nat_tests}
use Rattle.std.proofs.lemmas.List.Sums.{position_or_len_is}
use Rattle.uefi_boot_variables.specs.Views.{numbers_of}
use Rattle.uefi_boot_variables.proofs.orders.LoadOrder.position.Goals as goal

pub returns-then-number : goal.returns-then-number
returns-then-number c =
    let xs = numbers_of c.args.self.now in
    let first = position_or_len_is (λ other. eqb other c.args.number) xs c.loop-place.place 0 (omega arith) c.loop-place.invariant
    (λ _. eq-eqb (get_or xs c.loop-place.place 0) c.args.number (sym c.number.ensures ∙ c.if-number.true)) in
    grind (arith, nat_tests)

pub returns : goal.returns
returns c =
    let xs = numbers_of c.args.self.now in
    let none = position_or_len_is (λ other. eqb other c.args.number) xs (length xs) 0 (omega arith) (λ k below. c.loop-place.invariant k (omega arith))
    (λ h. absurd (omega arith)) in
    grind (arith, nat_tests)
