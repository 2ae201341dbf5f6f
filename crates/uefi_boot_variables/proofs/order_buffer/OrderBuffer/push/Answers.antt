use Rattle.std.proofs.Common.{◌∙◌, ap, sym, true, false}
use Rattle.std.proofs.lemmas.List.{append-nil, length-take-le}
use Rattle.std.proofs.lemmas.List.Edits.{insert_end}
use Rattle.std.specs.Prelude.{insert}
use Rattle.uefi_boot_variables.proofs.OrderLists.{pushed}
use Rattle.uefi_boot_variables.specs.Views.{numbers_in}
use Rattle.uefi_boot_variables.proofs.order_buffer.OrderBuffer.push.Goals as goal

pub returns-then-contains-clause-ok : goal.returns-then-contains-clause-ok
unfolding numbers_in
returns-then-contains-clause-ok c =
    let s = c.args.self.now in
    sym (pushed (numbers_in s) c.args.number true s.once (sym c.contains.ensures ∙ c.if-contains.true) ∙ append-nil (numbers_in s))

pub returns-clause-ok : goal.returns-clause-ok
unfolding numbers_in
returns-clause-ok c =
    let s = c.args.self.now in
    c.put.ensures.numbers ∙ ap (λ k. insert (numbers_in s) k c.args.number) (sym (length-take-le s.len s.places.now s.within))
    ∙ insert_end (numbers_in s) c.args.number ∙ sym (pushed (numbers_in s) c.args.number false s.once (sym c.contains.ensures ∙ c.if-contains.false))
