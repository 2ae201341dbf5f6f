-- The first node of a path ends it, or the path of the others stands after it.
use Rattle.std.proofs.Common.{◌≡◌, ◌≢◌, ◌∙◌, ◌∷◌, ◌++◌, ap, sym, arith}
use Rattle.std.proofs.lemmas.Grind.{common_steps}
use Rattle.uefi_device_nodes.specs.NodeViews.{node_of}
use Rattle.uefi_device_nodes.specs.Nodes.{end_entire, node_bytes}
use Rattle.uefi_device_path.specs.Views.{nodes_of}
use Rattle.uefi_device_path.proofs.ShortForms.{after_first_node, first_is_end, whole_path}
use Rattle.uefi_device_path.proofs.Splits.{IsPath-path_bytes, path_no_fault}
use Rattle.uefi_device_path.proofs.device_path.DevicePath.split_first_node.Goals as goal

pub take_first-requires : goal.take_first-requires
take_first-requires c =
    let nodes = nodes_of c.args.self.now in
    path_no_fault c.as_bytes.result.now nodes (whole_path c.as_bytes.result.now nodes c.as_bytes.ensures.inner c.as_bytes.ensures.bytes)

pub returns-then-is_end_entire : goal.returns-then-is_end_entire
returns-then-is_end_entire c =
    let after = c.take_first.result.1.now in
    let is_end : node_of c.take_first.result.0 ≡ end_entire = grind (arith, common_steps) in
    first_is_end c.as_bytes.result.now after (nodes_of c.args.self.now) c.as_bytes.ensures.inner c.as_bytes.ensures.bytes
    (c.take_first.ensures.split ∙ ap (λ n. node_bytes n ++ after) is_end)

pub of_path-requires : goal.of_path-requires
of_path-requires c =
    let node = node_of c.take_first.result.0 in
    let other : node ≢ end_entire = λ e. grind (arith, common_steps) in
    let found = after_first_node c.as_bytes.result.now c.take_first.result.1.now (nodes_of c.args.self.now) node
    c.as_bytes.ensures.inner c.as_bytes.ensures.bytes c.take_first.ensures.split other in
    (IsPath-path_bytes found.0 c.take_first.result.1.now found.3 found.2).0

pub returns : goal.returns
returns c =
    let node = node_of c.take_first.result.0 in
    let other : node ≢ end_entire = λ e. grind (arith, common_steps) in
    let found = after_first_node c.as_bytes.result.now c.take_first.result.1.now (nodes_of c.args.self.now) node
    c.as_bytes.ensures.inner c.as_bytes.ensures.bytes c.take_first.ensures.split other in
    found.1 ∙ ap (λ ks. node ∷ ks) (sym (c.of_path.ensures ∙ (IsPath-path_bytes found.0 c.take_first.result.1.now found.3 found.2).1))
