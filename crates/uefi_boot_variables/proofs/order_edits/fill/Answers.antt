use Rattle.std.proofs.Common.{ap, sym, ◌∙◌, cond, take, ◌++◌, ◌∷◌, [], arith}
use Rattle.std.proofs.lemmas.List.{append-nil}
use Rattle.uefi_boot_variables.proofs.Edits.{copied_new, stood_before}
use Rattle.uefi_boot_variables.proofs.OrderLists.{next, next_fits}
use Rattle.uefi_boot_variables.specs.Orders.{once_each}
use Rattle.uefi_boot_variables.specs.Views.{numbers_of}
use Rattle.uefi_boot_variables.proofs.order_edits.fill.Goals.{then-not-contains, else-not-contains}
use Rattle.uefi_boot_variables.proofs.order_edits.fill.Goals as goal

pub put-requires-clause-room : goal.put-requires-clause-room
put-requires-clause-room c =
    let all = numbers_of c.args.order.now in
    let l = c.loop-place in
    let before = stood_before all c.args.places.now l.places l.place l.len c.number-number.result l.invariant.len l.invariant.places ∙ sym c.contains.ensures in
    omega (
      arith,
      next_fits all l.place c.number-number.result (omega arith) c.number-number.ensures (before ∙ c.if-not-contains.true),
      l.invariant.len,
      c.requires,
      l.auto.places,
    )

pub loop-place-preserved : goal.loop-place-preserved
loop-place-preserved c =
    let all = numbers_of c.args.order.now in
    let old = c.args.places.now in
    let n = c.number-number.result in
    let l = c.loop-place in
    let so_far = l.invariant in
    let before = stood_before all old l.places l.place l.len n so_far.len so_far.places ∙ sym c.contains.ensures in
    elim c.if-not-contains.branch [
      | then-not-contains w ↦
          let made = copied_new all old l.places w.put.new.places l.place l.len n (omega arith) c.number-number.ensures
          so_far.len so_far.places (before ∙ w.if-not-contains.true) w.put.ensures in
          record { len = w.len-is ∙ made.0; places = w.places-is ∙ made.1 }
      | else-not-contains w ↦
          let same = next all l.place n (omega arith) c.number-number.ensures ∙ ap (λ b. once_each (take l.place all) ++ cond b [] (n ∷ [])) (before ∙ w.if-not-contains.false)
          ∙ append-nil (once_each (take l.place all)) in
          rw same (record { len = w.len-is ∙ so_far.len; places = w.places-is ∙ so_far.places })
    ]
