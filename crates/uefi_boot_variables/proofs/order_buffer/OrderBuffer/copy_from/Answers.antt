use Rattle.uefi_boot_variables.proofs.Edits.{edited}
use Rattle.uefi_boot_variables.proofs.OrderLists.{once_each_once}
use Rattle.uefi_boot_variables.specs.Orders.{once_each}
use Rattle.uefi_boot_variables.specs.Views.{numbers_of}
use Rattle.uefi_boot_variables.proofs.order_buffer.OrderBuffer.copy_from.Goals as goal

pub invariant_of-self-2 : goal.invariant_of-self-2
invariant_of-self-2 c =
    let made = once_each (numbers_of c.args.order.now) in
    let e = edited made c.args.self.now.places.now c.copy.new.places c.in_ok-self.field-0
    c.in_ok-self.ensures.places c.in_ok-self.ensures.ok (once_each_once (numbers_of c.args.order.now)) in
    record { within = e.0; once = e.1 }
