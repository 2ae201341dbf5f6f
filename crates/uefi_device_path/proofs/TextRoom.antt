-- The text of a path or a node has room in a buffer that is chosen by its bytes.
use Rattle.std.proofs.Common.{◌≡◌, ℕ, ◌+◌, ◌-◌, ◌*◌, ◌^◌, ◌<◌, ◌≤◌, ◌==◌, Bool, true, false, cond, List, [], ◌∷◌, ◌++◌, codes, length, length-append, min, nat_lt, take, drop, refl, ap, sym, ◌∙◌, arith}
use Rattle.std.proofs.lemmas.Grind.{common_steps}
use Rattle.std.proofs.lemmas.List.Elements.{All-cons, All-drop, All-get_or, All-head, All-nil, All-same, All-tail, All-take, All-weaker}
use Rattle.std.proofs.lemmas.Str.{chars_from_encodes, encode_ascii}
use Rattle.std.proofs.lemmas.List.{drop_at, take_at}
use Rattle.std.specs.Char.{to_ascii_lowercase}
use Rattle.std.specs.List.{flat_map, join_by, onto_first}
use Rattle.std.specs.Prelude.{All, encode_utf8}
use Rattle.std.specs.Str.{chars, encode_utf8_all}
use Rattle.uefi_text.proofs.TextLengths.{units_within}
use Rattle.uefi_text.specs.Packed.{IsByte}
use Rattle.uefi_text.specs.UnitTexts.{utf16_units}
use Rattle.uefi_device_nodes.proofs.ShownFields.{ascii_shown, bytes_shown, joined_shown, names_shown, numbers_shown, shown_utf8, units_shown}
use Rattle.uefi_device_nodes.specs.ShownFields.{IsShown}
use Rattle.uefi_device_nodes.proofs.ShownTable.{table_shown}
use Rattle.uefi_device_nodes.proofs.NodeLengths.{name_room, node_within}
use Rattle.uefi_device_nodes.proofs.ShownNodes.{shown}
use Rattle.uefi_device_nodes.specs.Nodes.{Node, end_entire, is_end_instance, node_bytes}
use Rattle.uefi_device_nodes.specs.NodeTexts.{is_file_node, node_text}
use Rattle.uefi_device_nodes.specs.ShownNodes.{NodesShown}
use Rattle.uefi_device_path.specs.Instances.{instances}
use Rattle.uefi_device_path.specs.LibefivarTexts.{all_lowered, commas_after, is_namespace, is_partition, libefivar_node_text, lowered, lowered_text, with_reversed_id}
use Rattle.uefi_device_path.specs.Paths.{IsPath, nodes_bytes, nodes_in, path_bytes, without_end}
use Rattle.uefi_device_path.specs.PathTexts.{instance_text, libefivar_text, nodes_text}
use Rattle.uefi_device_path.proofs.TurnedNodes.{turned_bytes, turned_within}
use Rattle.uefi_device_path.proofs.ShownPaths.{libefivar_shown, own_shown, parts_all, paths_shown}

-- what is printed holds no character that texts escape, so that it is a Rust text
nodes_shown : NodesShown
nodes_shown = shown joined_shown ascii_shown numbers_shown bytes_shown names_shown units_shown
    (table_shown joined_shown ascii_shown numbers_shown bytes_shown names_shown units_shown)

-- the bytes of a node are bytes
abbrev AreBytes : Node → Type 0
AreBytes node = All IsByte (node_bytes node)

content_bytes : (node : Node) → AreBytes node → All IsByte node.content
content_bytes node all = All-drop IsByte 4 (node_bytes node) all

type_byte : (node : Node) → AreBytes node → node.device_type < 256
type_byte node all = All-get_or IsByte (node_bytes node) 0 0 (omega arith) all

sub_type_byte : (node : Node) → AreBytes node → node.sub_type < 256
sub_type_byte node all = All-get_or IsByte (node_bytes node) 1 0 (omega arith) all

front_bytes : (front back : List ℕ) → All IsByte (front ++ back) → All IsByte front
front_bytes front back all = All-same IsByte front (take (length front) (front ++ back)) (sym (take_at front back (length front) refl)) (All-take IsByte (length front) (front ++ back) all)

back_bytes : (front back : List ℕ) → All IsByte (front ++ back) → All IsByte back
back_bytes front back all = All-same IsByte back (drop (length front) (front ++ back)) (sym (drop_at front back (length front) refl)) (All-drop IsByte (length front) (front ++ back) all)

-- the bytes of nodes are the bytes of each
each_bytes : (nodes : List Node) → All IsByte (nodes_bytes nodes) → All AreBytes nodes
each_bytes [] all = All-nil AreBytes
each_bytes (node ∷ nodes) all =
    All-cons AreBytes node nodes (front_bytes (node_bytes node) (nodes_bytes nodes) all) (each_bytes nodes (back_bytes (node_bytes node) (nodes_bytes nodes) all))

-- a character in lower case has as many bytes
lower_length : (n c : ℕ) → length (encode_utf8 (lowered n c)) ≡ length (encode_utf8 c)
lower_length n c = by (n == 0)
  where
    ascii : (d : ℕ) → d < 128 → length (encode_utf8 d) ≡ 1
    ascii d small = ap length (encode_ascii d small)

    lower : (a b : Bool) → nat_lt c 65 ≡ a → nat_lt c 91 ≡ b → length (encode_utf8 (cond a c (cond b (c + 32) c))) ≡ length (encode_utf8 c)
    lower true b p q = refl
    lower false false p q = refl
    lower false true p q = let small : c < 91 = grind (arith, common_steps) in
        ascii (c + 32) (omega (arith, small)) ∙ sym (ascii c (omega (arith, small)))

    by : (t : Bool) → length (encode_utf8 (cond t (to_ascii_lowercase c) c)) ≡ length (encode_utf8 c)
    by true = lower (nat_lt c 65) (nat_lt c 91) refl refl
    by false = refl

all_lower_length : (n : ℕ) (cs : List ℕ) → length (encode_utf8_all (all_lowered n cs)) ≡ length (encode_utf8_all cs)
all_lower_length n [] = refl
all_lower_length n (c ∷ cs) = omega (
  arith,
  lower_length n c,
  all_lower_length (commas_after n c) cs,
  length-append (encode_utf8 (lowered n c)) (encode_utf8_all (all_lowered (commas_after n c) cs)),
  length-append (encode_utf8 c) (encode_utf8_all cs),
)

lowered_length : (n : ℕ) (text : List ℕ) → IsShown text → length (lowered_text n text) ≡ length text
unfolding lowered_text
lowered_length n text (cs, (each, is)) =
    let same : cs ≡ chars text = chars_from_encodes cs text (shown_utf8 text (cs, (each, is))) (sym is) in
    ap (λ (l : List ℕ). length (encode_utf8_all (all_lowered n l))) (sym same) ∙ all_lower_length n cs ∙ ap length (sym is)

-- nodes, in each style
specified_node : (display_only shortcuts : Bool) (node : Node) → AreBytes node → length (node_text display_only shortcuts node) < 4 * length (node_bytes node)
specified_node display_only shortcuts node all =
    omega (arith, node_within display_only shortcuts node (type_byte node all) (sub_type_byte node all) (content_bytes node all))

libefivar_node : (node : Node) → AreBytes node → length (libefivar_node_text node) < 4 * length (node_bytes node)
unfolding libefivar_node_text
libefivar_node node all = by (is_file_node node) (is_partition node) (is_namespace node) refl refl
  where
    by : (a b c : Bool) → is_file_node node ≡ a → is_namespace node ≡ c
        → length (cond a (codes "File(" ++ (node_text false false node ++ codes ")"))
        (cond b (lowered_text 2 (node_text false false node)) (cond c (node_text false false (with_reversed_id node)) (node_text false false node))))
        < 4 * length (node_bytes node)
    by true b c e f = omega (arith, name_room false false node e, length-append (node_text false false node) (codes ")"))
    by false true c e f = omega (
      arith,
      specified_node false false node all,
      lowered_length 2 (node_text false false node) (nodes_shown false false node (content_bytes node all)),
    )
    by false false true e f = omega (arith, specified_node false false (with_reversed_id node) (turned_bytes node (content_bytes node all)), turned_within node f)
    by false false false e f = specified_node false false node all

-- a slash stands between nodes
module _ (text : Node → List ℕ) (fits : (node : Node) → AreBytes node → length (text node) < 4 * length (node_bytes node)) where
  after_slashes : (nodes : List Node) → All AreBytes nodes → length (flat_map (λ node. codes "/" ++ text node) nodes) ≤ 4 * length (nodes_bytes nodes)
  after_slashes [] all = omega arith
  after_slashes (node ∷ nodes) all = omega (
    arith,
    fits node (All-head AreBytes node nodes all),
    after_slashes nodes (All-tail AreBytes node nodes all),
    length-append (codes "/" ++ text node) (flat_map (λ other. codes "/" ++ text other) nodes),
    length-append (node_bytes node) (nodes_bytes nodes),
  )

  instance_room : (nodes : List Node) → All AreBytes nodes → length (join_by text (codes "/") nodes) ≤ 4 * length (nodes_bytes nodes)
  instance_room [] all = omega arith
  instance_room (node ∷ nodes) all = omega (
    arith,
    fits node (All-head AreBytes node nodes all),
    after_slashes nodes (All-tail AreBytes node nodes all),
    length-append (text node) (flat_map (λ other. codes "/" ++ text other) nodes),
    length-append (node_bytes node) (nodes_bytes nodes),
  )

-- the room of instances, each with a comma
abbrev room_of : List (List Node) → ℕ
room_of [] = 0
room_of (part ∷ parts) = 4 * length (nodes_bytes part) + 1 + room_of parts

onto_room : (node : Node) (parts : List (List Node)) (most : ℕ) → room_of parts ≤ most → 1 ≤ most
    → room_of (onto_first node parts) ≤ 4 * length (node_bytes node) + most
onto_room node [] most small some = omega (arith, some, length-append (node_bytes node) [])
onto_room node (part ∷ parts) most small some = omega (arith, small, length-append (node_bytes node) (nodes_bytes part))

-- a node that ends an instance makes room for the comma
instances_room : (nodes : List Node) → room_of (instances nodes) ≤ 4 * length (nodes_bytes nodes) + 1
instances_room [] = omega arith
instances_room (node ∷ nodes) = by (is_end_instance node) (instances_room nodes)
  where
    by : (t : Bool) → room_of (instances nodes) ≤ 4 * length (nodes_bytes nodes) + 1
        → room_of (cond t ([] ∷ instances nodes) (onto_first node (instances nodes))) ≤ 4 * length (nodes_bytes (node ∷ nodes)) + 1
    by true others = omega (arith, others, length-append (node_bytes node) (nodes_bytes nodes))
    by false others = omega (
      arith,
      onto_room node (instances nodes) (4 * length (nodes_bytes nodes) + 1) others (omega arith),
      length-append (node_bytes node) (nodes_bytes nodes),
    )

-- a comma stands between instances
module _ (text : List Node → List ℕ) (fits : (nodes : List Node) → All AreBytes nodes → length (text nodes) ≤ 4 * length (nodes_bytes nodes)) where
  after_commas : (parts : List (List Node)) → All (All AreBytes) parts → length (flat_map (λ part. codes "," ++ text part) parts) ≤ room_of parts
  after_commas [] all = omega arith
  after_commas (part ∷ parts) all = omega (
    arith,
    fits part (All-head (All AreBytes) part parts all),
    after_commas parts (All-tail (All AreBytes) part parts all),
    length-append (codes "," ++ text part) (flat_map (λ other. codes "," ++ text other) parts),
  )

  parts_room : (parts : List (List Node)) → All (All AreBytes) parts → length (join_by text (codes ",") parts) ≤ room_of parts
  parts_room [] all = omega arith
  parts_room (part ∷ parts) all = omega (
    arith,
    fits part (All-head (All AreBytes) part parts all),
    after_commas parts (All-tail (All AreBytes) part parts all),
    length-append (text part) (flat_map (λ other. codes "," ++ text other) parts),
  )

  path_room : (nodes : List Node) → All IsByte (path_bytes nodes) → length (join_by text (codes ",") (instances nodes)) < 4 * length (path_bytes nodes)
  path_room nodes all =
      let each = each_bytes nodes (front_bytes (nodes_bytes nodes) (node_bytes end_entire) all) in
      omega (
        arith,
        parts_room (instances nodes) (parts_all AreBytes is_end_instance nodes each),
        instances_room nodes,
        length-append (nodes_bytes nodes) (node_bytes end_entire),
      )

-- the data of nodes, as the laws of what is shown want them
all_contents : (nodes : List Node) → All AreBytes nodes → All (λ node. All IsByte node.content) nodes
all_contents nodes all = All-weaker AreBytes (λ node. All IsByte node.content) content_bytes nodes all

path_contents : (nodes : List Node) → All IsByte (path_bytes nodes) → All (λ node. All IsByte node.content) nodes
path_contents nodes all = all_contents nodes (each_bytes nodes (front_bytes (nodes_bytes nodes) (node_bytes end_entire) all))

-- code units are at most as many as bytes
fits_shown : (text bytes : List ℕ) → IsShown text → length text < 4 * length bytes → length (utf16_units text) < 4 * length bytes
fits_shown text bytes is short = omega (arith, short, units_within text (shown_utf8 text is))

pub path_texts_fit : (display_only shortcuts : Bool) (nodes : List Node) → All IsByte (path_bytes nodes)
    → length (utf16_units (nodes_text display_only shortcuts nodes)) < 4 * length (path_bytes nodes)
unfolding nodes_text instance_text
path_texts_fit display_only shortcuts nodes all =
    fits_shown (nodes_text display_only shortcuts nodes) (path_bytes nodes) (paths_shown joined_shown ascii_shown nodes_shown display_only shortcuts nodes (path_contents nodes all))
    (path_room (instance_text display_only shortcuts) (instance_room (node_text display_only shortcuts) (specified_node display_only shortcuts)) nodes all)

pub libefivar_texts_fit : (nodes : List Node) → All IsByte (path_bytes nodes) → length (utf16_units (libefivar_text nodes)) < 4 * length (path_bytes nodes)
unfolding libefivar_text
libefivar_texts_fit nodes all =
    fits_shown (libefivar_text nodes) (path_bytes nodes) (libefivar_shown joined_shown ascii_shown nodes_shown nodes (path_contents nodes all))
    (path_room (λ instance. join_by libefivar_node_text (codes "/") instance) (instance_room libefivar_node_text libefivar_node) nodes all)

pub node_texts_fit : (display_only shortcuts : Bool) (node : Node) → AreBytes node
    → length (utf16_units (node_text display_only shortcuts node)) < 4 * length (node_bytes node)
node_texts_fit display_only shortcuts node all =
    fits_shown (node_text display_only shortcuts node) (node_bytes node) (nodes_shown display_only shortcuts node (content_bytes node all))
    (specified_node display_only shortcuts node all)

pub libefivar_node_texts_fit : (node : Node) → AreBytes node → length (utf16_units (libefivar_node_text node)) < 4 * length (node_bytes node)
libefivar_node_texts_fit node all =
    fits_shown (libefivar_node_text node) (node_bytes node) (own_shown joined_shown ascii_shown nodes_shown node (content_bytes node all))
    (libefivar_node node all)

-- a path in borrowed bytes is those bytes
path_back : (bytes : List ℕ) → IsPath bytes → path_bytes (nodes_in (without_end bytes)) ≡ bytes
path_back bytes is = sym (is.ends ∙ ap (λ (front : List ℕ). front ++ node_bytes end_entire) is.nodes.join)

-- a text with fewer units than the room of a path fits in a buffer with more places than that room
pub most_is_enough : (bytes text buffer : List ℕ) (most : ℕ) → IsPath bytes → All IsByte bytes
    → (All IsByte (path_bytes (nodes_in (without_end bytes))) → length text < 4 * length (path_bytes (nodes_in (without_end bytes))))
    → most ≡ min (4 * length bytes) (2 ^ 64 - 1) - 1 → length buffer < 2 ^ 63 → most < length buffer → length text ≤ most
most_is_enough bytes text buffer most is all fit count bound room =
    let back = path_back bytes is in
    let fits = fit (All-same IsByte (path_bytes (nodes_in (without_end bytes))) bytes back all) in
    omega (arith, count, bound, room, fits, ap length back)
