-- Before the node that ends the path stand those that were passed.
use Rattle.std.proofs.Common.{◌≡◌, ◌≢◌, ◌∙◌, ◌++◌, ap, arith}
use Rattle.std.proofs.lemmas.Grind.{common_steps}
use Rattle.uefi_device_nodes.specs.Nodes.{IsInner, end_entire, node_bytes}
use Rattle.uefi_device_nodes.specs.NodeViews.{node_of}
use Rattle.uefi_device_path.proofs.Splits.{begin_long, begin_more, path_front}
use Rattle.uefi_device_path.proofs.device_path.DevicePath.read.Goals as goal

pub invariant_of-path : goal.invariant_of-path
invariant_of-path c =
    let bytes = c.args.bytes.now in
    let rest = c.nodes.rest.now in
    let nodes = c.nodes.invariant.1.0 in
    let begins = c.nodes.invariant.1.1 in
    let is_end : node_of c.in-Ok.node ≡ end_entire = grind (arith, common_steps) in
    let ends : rest ≡ node_bytes end_entire ++ c.in-Ok.after.now = c.in-Ok.ensures.ok ∙ ap (λ n. node_bytes n ++ c.in-Ok.after.now) is_end in
    record { is_path = path_front bytes nodes rest c.in-Ok.after.now begins ends }

pub nodes-preserved : goal.nodes-preserved
nodes-preserved c =
    let bytes = c.args.bytes.now in
    let rest = c.nodes.rest.now in
    let nodes = c.nodes.invariant.1.0 in
    let begins = c.nodes.invariant.1.1 in
    let node = c.in-Ok.node in
    let other : node_of node ≢ end_entire = λ e. grind (arith, common_steps) in
    let inner : IsInner (node_of node) = record { sound = c.in-Ok.ensures.sound; not_end = other } in
    let more = begin_more bytes nodes (node_of node) rest c.in-Ok.after.now begins c.in-Ok.ensures.ok inner in
    let long = begin_long bytes _ _ more in
    (omega arith, (_, more))
