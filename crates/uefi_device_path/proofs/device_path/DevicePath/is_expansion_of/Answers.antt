-- One more node was passed, or all were.
use Rattle.std.proofs.Common.{◌≡◌, ◌∙◌, ◌∷◌, ◌++◌, [], ap, sym, append_assoc, arith}
use Rattle.std.proofs.lemmas.Grind.{common_steps}
use Rattle.uefi_device_nodes.specs.NodeViews.{node_of}
use Rattle.uefi_device_path.specs.Matching.{Names}
use Rattle.uefi_device_path.specs.Views.{nodes_of}
use Rattle.uefi_device_path.proofs.ShortForms.{pass_node, passed_all}
use Rattle.uefi_device_path.proofs.device_path.DevicePath.is_expansion_of.Goals as goal
use Rattle.uefi_device_path.proofs.device_path.DevicePath.is_expansion_of.Goals.{else-have_same_nodes-via-then-have_same_nodes+else-is_named, else-have_same_nodes-via-else-have_same_nodes}

pub nodes-preserved : goal.nodes-preserved
nodes-preserved c =
    let passed = c.nodes.invariant.0 in
    let node = node_of c.in-Some-split_first_node.node in
    let after = nodes_of c.in-Some-split_first_node.after in
    let first = node_of c.in-Some.first in
    let tail = nodes_of c.in-Some.tail in
    let so_far : nodes_of c.args.self.now ≡ passed ++ node ∷ after =
    c.nodes.invariant.1 ∙ ap (λ ks. passed ++ ks) c.in-Some-split_first_node.ensures in
    let other : (after ≡ tail) → Names first node → ⊥ =
    elim c.else-have_same_nodes.branch [
      | else-have_same_nodes-via-then-have_same_nodes+else-is_named w ↦ λ same named.
          let yes = w.is_named.ensures.1 named in grind (arith, common_steps)
      | else-have_same_nodes-via-else-have_same_nodes w ↦ λ same named.
          let yes = c.have_same_nodes.ensures.1 same in grind (arith, common_steps)
    ] in (
      passed ++ node ∷ [],
      so_far ∙ sym (append_assoc passed (node ∷ []) after),
      pass_node (nodes_of c.args.self.now) (nodes_of c.args.short) passed after tail first node c.in-Some.ensures so_far other c.nodes.invariant.2,
    )

pub returns : goal.returns
returns c =
    let passed = c.nodes.invariant.0 in
    let so_far = c.nodes.invariant.1 ∙ ap (λ ks. passed ++ ks) c.in_default-split_first_node.ensures in (
      λ yes. absurd (cc yes),
      λ found. absurd (passed_all (nodes_of c.args.self.now) (nodes_of c.args.short) passed so_far c.nodes.invariant.2 found),
    )
