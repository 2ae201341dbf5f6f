use Rattle.std.proofs.Common.{◌∙◌, ap, sym, List, ℕ}
use Rattle.std.specs.Prelude.{Option, is_some}
use Rattle.uefi_node_reader.proofs.FirstMarks.{has_mark-any, is_some-map}
use Rattle.uefi_node_reader.proofs.lenient.tidied.has_mark.Goals as goal

pub returns : goal.returns
returns g c =
    c.is_some.ensures ∙ sym (is_some-map (λ x. g.T.Text.bytes x) c.from_mark.result)
    ∙ ap (λ (o : Option (List ℕ)). is_some o) c.from_mark.ensures
    ∙ has_mark-any c.args.mark (g.T.Text.bytes c.args.text)
