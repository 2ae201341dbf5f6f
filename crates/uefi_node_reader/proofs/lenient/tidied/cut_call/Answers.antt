use Rattle.std.proofs.Common.{sym, ◌∙◌}
use Rattle.uefi_node_reader.proofs.FirstMarks.{cut_call-none, cut_call-some, first_place, from_mark-some}
use Rattle.uefi_node_reader.proofs.lenient.tidied.cut_call.Goals as goal

pub returns-in_err-from_mark : goal.returns-in_err-from_mark
returns-in_err-from_mark g c =
    let none = rw c.in_err-from_mark.was at c.from_mark.ensures in
    rw c.from_residual.ensures (sym (cut_call-none (g.T.Text.bytes c.args.text) (sym none)))

pub returns : goal.returns
returns g c =
    let text = g.T.Text.bytes c.args.text in
    let rest = g.T.Text.bytes c.in_ok-from_mark.field-0 in
    let some = rw c.in_ok-from_mark.was at c.from_mark.ensures in
    let found = from_mark-some 41 text rest (sym some) in
    c.cut_before.ensures (first_place 41 text) found.0 found.1 ∙ sym (cut_call-some text rest (sym some))
