use Rattle.std.proofs.Common.{◌+◌, take, arith}
use Rattle.std.proofs.lemmas.List.{length-take}
use Rattle.std.specs.Prelude.{insert}
use Rattle.uefi_boot_variables.proofs.Edits.{edited, insert_length}
use Rattle.uefi_boot_variables.proofs.OrderLists.{put_among}
use Rattle.uefi_boot_variables.specs.Views.{numbers_in}
use Rattle.uefi_boot_variables.proofs.order_buffer.OrderBuffer.put.Goals as goal

pub invariant_of-self : goal.invariant_of-self
unfolding numbers_in
invariant_of-self c =
    let s = c.args.self.now in
    let xs = take s.len s.places.now in
    let e = edited (insert xs c.args.place c.args.number) s.places.now c.put.new.places (s.len + 1) c.put.ensures
    (omega (arith, insert_length xs c.args.place c.args.number, length-take s.len s.places.now, s.within))
    (put_among c.args.number xs c.args.place s.once c.requires.absent) in
    record { within = e.0; once = e.1 }
