use Rattle.std.proofs.Common.{◌∙◌, ap, sym, length, take, arith}
use Rattle.std.proofs.lemmas.List.{length-take-le}
use Rattle.uefi_boot_variables.proofs.Edits.{edited, over_front, stood_by_length}
use Rattle.uefi_boot_variables.proofs.OrderLists.{one_less, without_once}
use Rattle.uefi_boot_variables.specs.Orders.{without}
use Rattle.uefi_boot_variables.specs.Views.{numbers_in}
use Rattle.uefi_boot_variables.proofs.order_buffer.OrderBuffer.remove.Goals as goal

pub invariant_of-self : goal.invariant_of-self
invariant_of-self c =
    let s = c.args.self.now in
    let xs = take s.len s.places.now in
    let e = edited (without c.args.number xs) s.places.now c.remove-len.new.places c.remove-len.result
    c.remove-len.ensures.places c.remove-len.ensures.len (without_once c.args.number xs s.once) in
    record { within = e.0; once = e.1 }

pub returns-clause-stood : goal.returns-clause-stood
unfolding numbers_in
returns-clause-stood c =
    let s = c.args.self.now in
    stood_by_length c.args.number c.remove-len.result s.len (take s.len s.places.now) c.remove-len.ensures.len (sym (length-take-le s.len s.places.now s.within))

pub returns-clause-len : goal.returns-clause-len
unfolding numbers_in
returns-clause-len c = λ stood.
    let s = c.args.self.now in
    let xs = take s.len s.places.now in
    let count = length-take-le s.len s.places.now s.within in
    let stands = stood_by_length c.args.number c.remove-len.result s.len xs c.remove-len.ensures.len (sym count) in
    omega (
      arith,
      one_less c.args.number xs s.once (sym stands ∙ stood),
      ap (λ l. length (take c.remove-len.result l)) c.remove-len.ensures.places,
      ap length (over_front (without c.args.number xs) s.places.now c.remove-len.result c.remove-len.ensures.len),
    )
