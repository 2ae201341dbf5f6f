use Rattle.uefi_device_nodes.proofs.ShownTable.{table_shown}
use Rattle.uefi_device_nodes.proofs.node_table.table_laws.table_is_shown.Goals as goal

pub returns : goal.returns
returns c =
    let law = c.fields_are_shown.ensures in
    table_shown law.joined law.ascii law.numbers law.bytes law.names law.units
