use Rattle.uefi_device_nodes.proofs.ShownNodes.{shown}
use Rattle.uefi_device_nodes.proofs.laws.nodes_are_shown.Goals as goal

pub returns : goal.returns
returns c =
    let law = c.fields_are_shown.ensures in
    shown law.joined law.ascii law.numbers law.bytes law.names law.units c.table_is_shown.ensures
