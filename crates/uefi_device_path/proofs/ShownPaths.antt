-- No text of a path holds a character that texts escape.
use Rattle.std.proofs.Common.{ℕ, Bool, true, false, cond, List, [], ◌∷◌, ◌++◌, codes, refl}
use Rattle.std.specs.Prelude.{All}
use Rattle.std.specs.List.{flat_map, join_by, onto_first, slice_split}
use Rattle.std.proofs.lemmas.List.Elements.{All-cons, All-head, All-nil, All-tail}
use Rattle.uefi_text.specs.Packed.{IsByte}
use Rattle.uefi_device_nodes.specs.ShownFields.{AsciiShown, IsShown, JoinedShown}
use Rattle.uefi_device_nodes.specs.Nodes.{Node, is_end_instance}
use Rattle.uefi_device_nodes.specs.NodeTexts.{is_file_node, node_text}
use Rattle.uefi_device_nodes.specs.ShownNodes.{NodesShown}
use Rattle.uefi_device_path.specs.Instances.{instances}
use Rattle.uefi_device_path.specs.Laws.{InstancesShown, LibefivarShown, PathsShown}
use Rattle.uefi_device_path.specs.LibefivarTexts.{is_namespace, is_partition, libefivar_node_text, lowered_text, with_reversed_id}
use Rattle.uefi_device_path.specs.PathTexts.{instance_text, libefivar_text, nodes_text}
use Rattle.uefi_device_nodes.proofs.ShownFields.{shown_utf8}
use Rattle.uefi_device_path.proofs.LoweredTexts.{lowered_shown}
use Rattle.uefi_device_path.proofs.TurnedNodes.{turned_content}

-- what holds of all elements holds of those of each part
module _ {X : Type 0} (P : X → Type 0) (test : X → Bool) where
  onto : (x : X) (parts : List (List X)) → P x → All (All P) parts → All (All P) (onto_first x parts)
  onto x [] one all = All-cons (All P) (x ∷ []) [] (All-cons P x [] one (All-nil P)) (All-nil (All P))
  onto x (part ∷ parts) one all =
      All-cons (All P) (x ∷ part) parts (All-cons P x part one (All-head (All P) part parts all)) (All-tail (All P) part parts all)

  pub parts_all : (xs : List X) → All P xs → All (All P) (slice_split test xs)
  parts_all [] all = All-cons (All P) [] [] (All-nil P) (All-nil (All P))
  parts_all (x ∷ xs) all = by (test x) (parts_all xs (All-tail P x xs all))
    where
      by : (t : Bool) → All (All P) (slice_split test xs) → All (All P) (cond t ([] ∷ slice_split test xs) (onto_first x (slice_split test xs)))
      by true others = All-cons (All P) [] (slice_split test xs) (All-nil P) others
      by false others = onto x (slice_split test xs) (All-head P x xs all) others

module _ (joined : JoinedShown) (ascii : AsciiShown) (nodes_shown : NodesShown) where
  module _ {X : Type 0} (P : X → Type 0) (text : X → List ℕ) (each : (x : X) → P x → IsShown (text x)) (between : List ℕ) (clean : IsShown between) where
    others_shown : (xs : List X) → All P xs → IsShown (flat_map (λ x. between ++ text x) xs)
    others_shown [] all = ascii [] refl
    others_shown (x ∷ xs) all =
        joined (between ++ text x) (flat_map (λ y. between ++ text y) xs)
        (joined between (text x) clean (each x (All-head P x xs all))) (others_shown xs (All-tail P x xs all))

    join_shown : (xs : List X) → All P xs → IsShown (join_by text between xs)
    join_shown [] all = ascii [] refl
    join_shown (x ∷ xs) all =
        joined (text x) (flat_map (λ y. between ++ text y) xs) (each x (All-head P x xs all)) (others_shown xs (All-tail P x xs all))

  abbrev HasBytes : Node → Type 0
  HasBytes node = All IsByte node.content

  pub instances_shown : InstancesShown
  unfolding instance_text
  instances_shown display_only shortcuts nodes all =
      join_shown HasBytes (node_text display_only shortcuts) (nodes_shown display_only shortcuts) (codes "/") (ascii (codes "/") refl) nodes all

  -- a node as libefivar prints it
  pub own_shown : (node : Node) → HasBytes node → IsShown (libefivar_node_text node)
  unfolding libefivar_node_text
  own_shown node all =
      by (node_text false false node) (node_text false false (with_reversed_id node)) (is_file_node node) (is_partition node) (is_namespace node)
      (nodes_shown false false node all) (nodes_shown false false (with_reversed_id node) (turned_content node all))
    where
      by : (text other : List ℕ) (a b c : Bool) → IsShown text → IsShown other
          → IsShown (cond a (codes "File(" ++ (text ++ codes ")")) (cond b (lowered_text 2 text) (cond c other text)))
      by text other true b c shown also = joined (codes "File(") (text ++ codes ")") (ascii (codes "File(") refl) (joined text (codes ")") shown (ascii (codes ")") refl))
      by text other false true c shown also = lowered_shown 2 text (shown_utf8 text shown) shown
      by text other false false true shown also = also
      by text other false false false shown also = shown

  libefivar_instance_shown : (nodes : List Node) → All HasBytes nodes → IsShown (join_by libefivar_node_text (codes "/") nodes)
  libefivar_instance_shown nodes all = join_shown HasBytes libefivar_node_text own_shown (codes "/") (ascii (codes "/") refl) nodes all

  pub libefivar_shown : LibefivarShown
  unfolding libefivar_text
  libefivar_shown nodes all =
      join_shown (All HasBytes) (λ instance. join_by libefivar_node_text (codes "/") instance) libefivar_instance_shown (codes ",") (ascii (codes ",") refl)
      (instances nodes) (parts_all HasBytes is_end_instance nodes all)

  pub paths_shown : PathsShown
  unfolding nodes_text
  paths_shown display_only shortcuts nodes all =
      join_shown (All HasBytes) (instance_text display_only shortcuts) (instances_shown display_only shortcuts) (codes ",") (ascii (codes ",") refl)
      (instances nodes) (parts_all HasBytes is_end_instance nodes all)
