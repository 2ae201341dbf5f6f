use Rattle.std.proofs.Common.{ℕ, sym, ap, ◌∙◌}
use Rattle.std.specs.Prelude.{Option}
use Rattle.std.specs.Option.{option_or}
use Rattle.uefi_node_reader.specs.LenientCalls.{cut_call}
use Rattle.uefi_node_reader.proofs.FirstMarks.{cut_at, file_end-some}
use Rattle.uefi_node_reader.proofs.lenient.lenient_names.cut_file.Goals as goal

pub returns-in-Some : goal.returns-in-Some
returns-in-Some g c =
    let text = g.T.Text.bytes c.args.text in
    let some = rw c.in-Some.is at c.from_file_end.ensures in
    let found = file_end-some text (g.T.Text.bytes c.in-Some.rest) (sym some) in
    c.cut_before.ensures found.0 found.2 found.3 ∙ sym (ap (λ (o : Option ℕ). option_or (cut_at text o) (cut_call text)) found.1)
