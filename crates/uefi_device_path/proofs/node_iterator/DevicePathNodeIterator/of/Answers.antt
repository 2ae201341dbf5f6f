use Rattle.std.proofs.Common.{arith}
use Rattle.std.proofs.lemmas.Grind.{common_steps}
use Rattle.uefi_text.proofs.Runs.{gives_each}
use Rattle.uefi_device_nodes.specs.NodeViews.{node_of}
use Rattle.uefi_device_path.specs.Views.{nodes_left}
use Rattle.uefi_device_path.proofs.Splits.{few-AreNodes}
use Rattle.uefi_device_path.proofs.node_iterator.DevicePathNodeIterator.of.Goals as goal

pub returns-clause-bound : goal.returns-clause-bound
unfolding nodes_left
returns-clause-bound c =
    let few = few-AreNodes c.args.bytes.now c.requires in grind (arith, common_steps, few)

pub returns-clause-runs : goal.returns-clause-runs
returns-clause-runs c = gives_each node_of nodes_left _
