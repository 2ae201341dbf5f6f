use Rattle.std.proofs.Common.{◌∙◌}
use Rattle.std.specs.Prelude.{None}
use Rattle.uefi_device_nodes.specs.Table.{forms}
use Rattle.uefi_node_reader.specs.ParsedNodeViews.{parsed_node}
use Rattle.uefi_node_reader.proofs.LenientReads.{tried_exactly}
use Rattle.uefi_node_reader.proofs.Literals.{read_ok}
use Rattle.uefi_node_reader.proofs.exact.table_reader.by_table.Goals as goal

pub returns : goal.returns
returns g c =
    rw c.ok.ensures.value (read_ok (λ x. (parsed_node x.0, g.T.Text.bytes x.1)) c.try_table.result _ c.try_table.ensures
    ∙ tried_exactly forms 0 forms None (g.T.Text.bytes c.args.text))
