-- How many bytes a path has with one node more.
use Rattle.std.proofs.Common.{◌≡◌, ◌+◌, List, [], ◌∷◌, ◌++◌, length, ap, refl, arith}
use Rattle.std.proofs.lemmas.List.{length-append}
use Rattle.uefi_device_nodes.specs.Nodes.{Node, end_entire, node_bytes}
use Rattle.uefi_device_path.specs.Paths.{nodes_bytes, path_bytes}
use Rattle.uefi_device_path.proofs.Building.{one_node}
use Rattle.uefi_device_path.proofs.ShortForms.{bytes_of_both}

-- one node more
pub bytes_more : (nodes : List Node) (node : Node) → length (path_bytes (nodes ++ node ∷ [])) ≡ length (path_bytes nodes) + (length node.content + 4)
bytes_more nodes node = omega (
  arith,
  ap length (bytes_of_both (nodes ++ node ∷ []) nodes (node ∷ []) refl),
  ap length (one_node node),
  length-append (nodes_bytes nodes) (path_bytes (node ∷ [])),
  length-append node.content (node_bytes end_entire),
  length-append (nodes_bytes nodes) (node_bytes end_entire),
)
