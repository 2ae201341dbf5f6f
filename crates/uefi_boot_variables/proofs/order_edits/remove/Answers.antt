use Rattle.std.proofs.Common.{◌∙◌, arith}
use Rattle.uefi_boot_variables.proofs.OrderLists.{goes, stays}
use Rattle.uefi_boot_variables.proofs.order_edits.remove.Goals as goal
use Rattle.uefi_boot_variables.proofs.order_edits.remove.Goals.{then-places-place, else-places-place}

pub loop-place-preserved : goal.loop-place-preserved
loop-place-preserved c =
    let so_far = c.loop-place.invariant in
    elim c.if-places-place.branch [
      | then-places-place w ↦
          let next = stays c.args.number c.args.places.now c.loop-place.places c.loop-place.kept c.loop-place.place
          (omega arith) so_far.kept so_far.within so_far.places w.if-places-place.true in
          record { kept = w.kept-is ∙ next.0; places = w.places-is ∙ next.1; within = omega (arith, w.kept-is, so_far.within) }
      | else-places-place w ↦
          rw (goes c.args.number c.args.places.now c.loop-place.places c.loop-place.kept c.loop-place.place
          (omega arith) so_far.kept so_far.within so_far.places w.if-places-place.false)
          (record { kept = w.kept-is ∙ so_far.kept; places = w.places-is ∙ so_far.places; within = omega (arith, w.kept-is, so_far.within) })
    ]
