-- A namespace's node whose identifier has the opposite order.
use Rattle.std.proofs.Common.{◌≡◌, ◌%◌, ◌/◌, ◌≤◌, ℕ, true, List, ◌∷◌, drop, length, length-append, refl, take, arith}
use Rattle.std.proofs.lemmas.Bool.{and_parts, leb-true}
use Rattle.std.proofs.lemmas.List.{length-reverse, length-take}
use Rattle.std.proofs.lemmas.List.Elements.{All-append, All-cons, All-drop, All-take}
use Rattle.std.specs.Prelude.{All, reverse}
use Rattle.uefi_text.specs.Packed.{IsByte}
use Rattle.uefi_device_nodes.specs.Nodes.{Node, node_bytes, node_length}
use Rattle.uefi_node_reader.proofs.FieldLaws.{reversed_is}
use Rattle.uefi_device_path.specs.LibefivarTexts.{is_namespace, with_reversed_id}

pub turned_content : (node : Node) → All IsByte node.content → All IsByte (with_reversed_id node).content
turned_content node all =
    let identifier : List ℕ = take 8 (drop 4 node.content) in
    All-append IsByte (take 4 node.content) (reverse identifier) (All-take IsByte 4 node.content all)
    (reversed_is (length identifier) identifier (refl, All-take IsByte 8 (drop 4 node.content) (All-drop IsByte 4 node.content all))).1

turned_length : (node : Node) → length (with_reversed_id node).content ≤ 12
turned_length node = omega (
  arith,
  length-append (take 4 node.content) (reverse (take 8 (drop 4 node.content))),
  length-reverse (take 8 (drop 4 node.content)),
  length-take 8 (drop 4 node.content),
  length-take 4 node.content,
)

pub turned_bytes : (node : Node) → All IsByte node.content → All IsByte (node_bytes (with_reversed_id node))
turned_bytes node all =
    let few = turned_length node in
    let length : ℕ = node_length (with_reversed_id node) in
    All-cons IsByte 3 (23 ∷ length % 256 ∷ length / 256 ∷ (with_reversed_id node).content) (omega arith)
    (All-cons IsByte 23 (length % 256 ∷ length / 256 ∷ (with_reversed_id node).content) (omega arith)
    (All-cons IsByte (length % 256) (length / 256 ∷ (with_reversed_id node).content) (omega arith)
    (All-cons IsByte (length / 256) (with_reversed_id node).content (omega (arith, few)) (turned_content node all))))

pub turned_within : (node : Node) → is_namespace node ≡ true → length (node_bytes (with_reversed_id node)) ≤ length (node_bytes node)
turned_within node is =
    let least = leb-true 12 (length node.content) (and_parts _ _ (and_parts _ _ is).1).1 in
    omega (arith, turned_length node, least)
