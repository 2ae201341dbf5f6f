use Rattle.std.proofs.Common.{◌∙◌, ◌≤◌, ap, refl, length, take, arith}
use Rattle.std.proofs.lemmas.Bool.{false≢true}
use Rattle.uefi_boot_variables.proofs.Edits.{absent_by_length, counts, insert_min, over_same, put_over}
use Rattle.uefi_boot_variables.proofs.OrderLists.{without_absent}
use Rattle.uefi_boot_variables.specs.Orders.{over, without}
use Rattle.uefi_boot_variables.proofs.order_edits.insert.Goals as goal

pub returns-then-places-kept-clause-err : goal.returns-then-places-kept-clause-err
returns-then-places-kept-clause-err c =
    let n = c.args.number in
    let old = c.args.places.now in
    let xs = take c.args.len old in
    let count = counts n c.args.len old in
    let absent = absent_by_length n xs
    (omega (arith, count.0, count.1, ap length c.remove-kept.ensures.places, c.remove-kept.ensures.len, c.if-places-kept.true)) in
    c.remove-kept.ensures.places ∙ ap (λ l. over l old) (without_absent n xs absent) ∙ over_same c.args.len old

pub returns-then-places-kept-clause-refused : goal.returns-then-places-kept-clause-refused
returns-then-places-kept-clause-refused c =
    let n = c.args.number in
    let old = c.args.places.now in
    let count = counts n c.args.len old in
    let full : length old ≤ c.args.len =
    omega (arith, count.0, count.1, count.2, ap length c.remove-kept.ensures.places, c.remove-kept.ensures.len, c.if-places-kept.true) in (
      λ _. (
        absent_by_length n (take c.args.len old)
            (omega (arith, count.0, count.1, ap length c.remove-kept.ensures.places, c.remove-kept.ensures.len, c.if-places-kept.true)),
        full,
      ),
      λ _. refl,
    )

pub returns-clause-places : goal.returns-clause-places
returns-clause-places c =
    let n = c.args.number in
    let old = c.args.places.now in
    let rest = without n (take c.args.len old) in
    put_over rest old c.put.new.places c.remove-kept.result c.min.result n c.remove-kept.ensures.len (rw (← c.remove-kept.ensures.places) c.put.ensures)
    ∙ ap (λ l. over l old) (rw c.min.ensures (insert_min rest c.remove-kept.result c.args.place n c.remove-kept.ensures.len))

pub returns-clause-refused : goal.returns-clause-refused
returns-clause-refused c =
    let n = c.args.number in
    let old = c.args.places.now in
    let count = counts n c.args.len old in (
      λ e. absurd (false≢true e),
      λ w. absurd (omega (
        arith,
        ap length (without_absent n (take c.args.len old) w.0),
        w.1,
        count.0,
        count.1,
        ap length c.remove-kept.ensures.places,
        c.remove-kept.ensures.len,
        c.if-places-kept.false,
      )),
    )
