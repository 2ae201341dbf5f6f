-- Nodes are equal exactly when their bytes are.
use Rattle.std.proofs.Common.{◌≡◌, ◌++◌, [], ap, arith}
use Rattle.std.proofs.lemmas.Grind.{common_steps}
use Rattle.std.specs.Cmp.Lexicographic.{bytes_decides}
use Rattle.uefi_device_nodes.specs.Nodes.{node_bytes}
use Rattle.uefi_device_nodes.specs.NodeViews.{node_of}
use Rattle.uefi_device_path.proofs.Splits.{prefix_free}
use Rattle.uefi_device_path.proofs.matching.are_equal.Goals as goal

pub returns : goal.returns
returns c =
    let node = node_of c.args.node in
    let other = node_of c.args.other in
    let decides = bytes_decides (node_bytes node) (node_bytes other) in (
      λ yes.
          let same : node_bytes node ≡ node_bytes other = decides.0 (grind (arith, common_steps)) in
          (prefix_free node other [] [] (ap (λ k. k ++ []) same)).0,
      λ e. let yes = decides.1 (ap node_bytes e) in grind (arith, common_steps),
    )
