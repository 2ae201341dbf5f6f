-- What libefivar prints of nodes, and efibootmgr with it.
use Rattle.std.specs.Prelude.{◌≡◌, ℕ, ◌-◌, ◌==◌, Bool, true, false, if◌then◌else◌, List, [], ◌∷◌, ◌++◌, codes, drop, reverse, take, Option, Some, None}
use Rattle.std.specs.Char.{to_ascii_lowercase}
use Rattle.std.specs.Str.{chars, encode_utf8_all}
use Rattle.uefi_device_nodes.specs.declared.node_table.layouts.TheConstants.{MEDIA_TYPE, MESSAGING_TYPE}
use Rattle.uefi_device_nodes.specs.declared.node_table.layouts.media.hard_drive.TheConstants as hard_drive
use Rattle.uefi_device_nodes.specs.declared.node_table.layouts.messaging.nvme_namespace.TheConstants as nvme_namespace
use Rattle.uefi_device_nodes.specs.Nodes.{Node, node_bytes, node_with}
use Rattle.uefi_device_nodes.specs.NodeTexts.{is_file_node, node_text}
use Rattle.uefi_device_nodes.specs.TypedNodes.{is_kind}

-- how many of these commas are still to come after a character
abbrev pub commas_after : ℕ → ℕ → ℕ
commas_after commas character = if character == 44 then commas - 1 else commas

-- a character, in lower case if no comma is still to come
abbrev pub lowered : ℕ → ℕ → ℕ
lowered commas character = if commas == 0 then to_ascii_lowercase character else character

-- characters, with each letter of ASCII after this many commas in lower case
abbrev pub all_lowered : ℕ → List ℕ → List ℕ
all_lowered commas [] = []
all_lowered commas (c ∷ cs) = lowered commas c ∷ all_lowered (commas_after commas c) cs

-- how many of these commas are still to come after characters
abbrev pub commas_left : ℕ → List ℕ → ℕ
commas_left commas [] = commas
commas_left commas (c ∷ cs) = commas_left (commas_after commas c) cs

-- a text, with each letter of ASCII after this many commas in lower case
unfoldable pub lowered_text : ℕ → List ℕ → List ℕ
lowered_text commas text = encode_utf8_all (all_lowered commas (chars text))

-- a text that is lowered in this way, or is unchanged, and the commas that are still to come after it
abbrev pub cased : Bool → ℕ → List ℕ → List ℕ
cased lowers commas text = if lowers then lowered_text commas text else text

abbrev pub commas_to_come : Bool → ℕ → List ℕ → ℕ
commas_to_come lowers commas text = if lowers then commas_left commas (chars text) else commas

-- the test for a node of a partition
abbrev pub is_partition : Node → Bool
is_partition node = is_kind MEDIA_TYPE hard_drive.SUB_TYPE hard_drive.LEAST node

-- the test for a namespace of an NVMe controller
abbrev pub is_namespace : Node → Bool
is_namespace node = is_kind MESSAGING_TYPE nvme_namespace.SUB_TYPE nvme_namespace.LEAST node

-- the node of a namespace with the bytes of the identifier in the opposite order
abbrev pub with_reversed_id : Node → Node
with_reversed_id node = node_with MESSAGING_TYPE nvme_namespace.SUB_TYPE
    (take 4 node.content ++ reverse (take 8 (drop 4 node.content)))

-- these are the bytes of a namespace's node, with_reversed_id, or there are none for another node
abbrev pub AreTurned : Node → Option (List ℕ) → Type 0
AreTurned node None = is_namespace node ≡ false
AreTurned node (Some bytes) = (is_namespace node ≡ true) × (bytes ≡ node_bytes (with_reversed_id node))

-- the name of a file in `File(..)`, the numbers of a partition after its kind in lower case, a namespace with
-- its identifier from the first byte on, and any other node as it is printed
unfoldable pub libefivar_node_text : Node → List ℕ
libefivar_node_text node =
    if is_file_node node then codes "File(" ++ (node_text false false node ++ codes ")")
    else if is_partition node then lowered_text 2 (node_text false false node)
    else if is_namespace node then node_text false false (with_reversed_id node)
    else node_text false false node
