use Rattle.std.proofs.Common.{List, ℕ, ap, ◌∙◌}
use Rattle.std.specs.Prelude.{Option}
use Rattle.uefi_device_nodes.specs.Rows.{Form, as_form}
use Rattle.uefi_node_reader.specs.LenientCalls.{told_in}
use Rattle.uefi_node_reader.specs.TableReading.{form_read}
use Rattle.uefi_node_reader.proofs.ToldForms.{told_in-fitting}
use Rattle.uefi_node_reader.proofs.lenient.lenient_table.exact_told.Goals as goal

pub returns : goal.returns
returns g c =
    let form : Form = as_form c.args.row.now in
    c.told.ensures ∙ ap (λ (o : Option (List ℕ × List ℕ)). told_in form o) c.read_row.ensures.data
    ∙ told_in-fitting form (form_read form (g.T.Text.bytes c.args.text))
