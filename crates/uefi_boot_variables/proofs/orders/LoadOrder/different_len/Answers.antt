use Rattle.std.proofs.Common.{◌+◌, ◌∙◌, ap, sym, length, cond, take, [], ◌∷◌, arith}
use Rattle.std.proofs.lemmas.List.{length-append}
use Rattle.uefi_boot_variables.proofs.OrderLists.{next}
use Rattle.uefi_boot_variables.specs.Orders.{once_each}
use Rattle.uefi_boot_variables.specs.Views.{numbers_of}
use Rattle.uefi_boot_variables.proofs.orders.LoadOrder.different_len.Goals.{then-not-stands_before, else-not-stands_before}
use Rattle.uefi_boot_variables.proofs.orders.LoadOrder.different_len.Goals as goal

pub loop-place-preserved : goal.loop-place-preserved
loop-place-preserved c =
    let all = numbers_of c.args.self.now in
    let place = c.loop-place.place in
    let more = ap length (next all place c.number.result (omega arith) c.number.ensures)
    ∙ length-append (once_each (take place all)) _
    ∙ ap (λ b. length (once_each (take place all)) + length (cond b [] (c.number.result ∷ []))) (sym c.stands_before.ensures) in
    elim c.if-not-stands_before.branch [
      | then-not-stands_before w ↦ record { counted = omega (arith, rw w.if-not-stands_before.true at more); within = omega arith }
      | else-not-stands_before w ↦ record { counted = omega (arith, rw w.if-not-stands_before.false at more); within = omega arith }
    ]
