-- Bytes that begin with a node begin with one that may be a node of its type.
use Rattle.std.proofs.Common.{◌≡◌, refl, ℕ, ◌≤◌, List, [], ◌∷◌, None, length, take, drop, slice_index, arith}
use Rattle.std.proofs.lemmas.Grind.{common_steps}
use Rattle.uefi_device_nodes.specs.NodeFaults.{node_fault}
use Rattle.uefi_device_nodes.specs.Nodes.{IsSound, first_node, stated_length}

no_bytes : (bytes : List ℕ) → length bytes ≡ 0 → bytes ≡ []
no_bytes [] none = refl
no_bytes (b ∷ bytes) none = absurd (omega arith)

-- the node that bytes begin with has no data where it is of type End
pub take_sound : (bytes : List ℕ) → node_fault bytes ≡ None → IsSound (first_node (take (stated_length bytes) bytes))
take_sound bytes sound is_end =
    let front = take (stated_length bytes) bytes in
    let long : 4 ≤ length bytes = grind (arith, common_steps) in
    let least : 4 ≤ stated_length bytes = grind (arith, common_steps) in
    let kind : slice_index bytes 0 ≡ 0x7f = grind (arith, common_steps) in
    let four : stated_length bytes ≡ 4 = grind (arith, common_steps) in
    let whole : length front ≡ 4 = grind (arith, common_steps) in
    let rest : length (drop 4 (take (stated_length front) front)) ≡ 0 = grind (arith, common_steps) in
    (no_bytes _ rest, λ other. grind (arith, common_steps))
