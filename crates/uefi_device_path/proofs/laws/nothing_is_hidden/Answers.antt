use Rattle.uefi_device_path.proofs.ShownPaths.{instances_shown, libefivar_shown, paths_shown}
use Rattle.uefi_device_path.proofs.laws.nothing_is_hidden.Goals as goal

pub returns-clause-paths : goal.returns-clause-paths
returns-clause-paths c =
    let law = c.fields_are_shown.ensures in paths_shown law.joined law.ascii c.nodes_are_shown.ensures

pub returns-clause-instances : goal.returns-clause-instances
returns-clause-instances c =
    let law = c.fields_are_shown.ensures in instances_shown law.joined law.ascii c.nodes_are_shown.ensures

pub returns-clause-libefivar : goal.returns-clause-libefivar
returns-clause-libefivar c =
    let law = c.fields_are_shown.ensures in libefivar_shown law.joined law.ascii c.nodes_are_shown.ensures
