use Rattle.std.proofs.Common.{◌∙◌, ap, sym, length, take, arith}
use Rattle.uefi_boot_variables.proofs.Edits.{counts, front_moved, front_same, put_over}
use Rattle.uefi_boot_variables.specs.Orders.{over, without}
use Rattle.uefi_boot_variables.proofs.order_edits.move_to_front.Goals as goal

pub returns-then-kept-min : goal.returns-then-kept-min
returns-then-kept-min c =
    let count = counts c.args.number c.args.len c.args.places.now in
    rw (front_same c.args.number (take c.args.len c.args.places.now)
    (omega (arith, c.remove-kept.ensures.len, c.if-kept-min.true, c.min.ensures, count.0, count.1, ap length c.remove-kept.ensures.places)))
    (record { len = c.remove-kept.ensures.len; places = c.remove-kept.ensures.places })

pub put-requires-clause-room : goal.put-requires-clause-room
put-requires-clause-room c =
    let count = counts c.args.number c.args.len c.args.places.now in
    omega (arith, count.0, count.1, count.2, c.remove-kept.ensures.len, c.if-kept-min.false, c.min.ensures, ap length c.remove-kept.ensures.places)

pub returns : goal.returns
returns c =
    let n = c.args.number in
    let old = c.args.places.now in
    let xs = take c.args.len old in
    let count = counts n c.args.len old in
    let moved = front_moved n xs
    (omega (arith, count.0, count.1, count.2, c.remove-kept.ensures.len, c.if-kept-min.false, c.min.ensures, ap length c.remove-kept.ensures.places)) in
    record {
      len = omega (arith, c.remove-kept.ensures.len, ap length moved);
      places = put_over (without n xs) old c.put.new.places c.remove-kept.result 0 n c.remove-kept.ensures.len (rw (← c.remove-kept.ensures.places) c.put.ensures)
          ∙ ap (λ l. over l old) (sym moved);
    }
