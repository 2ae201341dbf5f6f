use Rattle.std.proofs.Common.{take}
use Rattle.uefi_boot_variables.proofs.Edits.{edited}
use Rattle.uefi_boot_variables.proofs.OrderLists.{with_front_once}
use Rattle.uefi_boot_variables.specs.Orders.{with_front}
use Rattle.uefi_boot_variables.proofs.order_buffer.OrderBuffer.move_to_front.Goals as goal

pub invariant_of-self : goal.invariant_of-self
invariant_of-self c =
    let s = c.args.self.now in
    let xs = take s.len s.places.now in
    let e = edited (with_front c.args.number xs) s.places.now c.move_to_front-self.new.places c.move_to_front-self.result
    c.move_to_front-self.ensures.places c.move_to_front-self.ensures.len (with_front_once c.args.number xs s.once) in
    record { within = e.0; once = e.1 }
