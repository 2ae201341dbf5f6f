use Rattle.std.proofs.Common.{take}
use Rattle.uefi_boot_variables.proofs.Edits.{edited}
use Rattle.uefi_boot_variables.proofs.OrderLists.{with_at_once}
use Rattle.uefi_boot_variables.specs.Orders.{with_at}
use Rattle.uefi_boot_variables.proofs.order_buffer.OrderBuffer.insert.Goals as goal

pub invariant_of-self-2 : goal.invariant_of-self-2
invariant_of-self-2 c =
    let s = c.args.self.now in
    let xs = take s.len s.places.now in
    let e = edited (with_at c.args.place c.args.number xs) s.places.now c.insert.new.places c.in_ok-self.field-0
    c.in_ok-self.ensures.places c.in_ok-self.ensures.ok (with_at_once c.args.place c.args.number xs s.once) in
    record { within = e.0; once = e.1 }
