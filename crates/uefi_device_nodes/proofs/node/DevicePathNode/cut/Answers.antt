use Rattle.std.proofs.Common.{◌≡◌, subst, sym, take, arith}
use Rattle.std.proofs.lemmas.Grind.{common_steps}
use Rattle.uefi_device_nodes.specs.Nodes.{IsSound, first_node, stated_length}
use Rattle.uefi_device_nodes.proofs.SoundNodes.{take_sound}
use Rattle.uefi_device_nodes.proofs.node.DevicePathNode.cut.Goals as goal

pub invariant_of-result-clause-sound : goal.invariant_of-result-clause-sound
invariant_of-result-clause-sound c =
    let bytes = c.args.bytes.now in
    let front : c.split_at.result.0.now ≡ take (stated_length bytes) bytes = grind (arith, common_steps) in
    subst (λ node. IsSound (first_node node)) (sym front) (take_sound bytes c.requires.begins)
