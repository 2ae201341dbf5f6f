-- What is printed of device paths, in UTF-8 (UEFI Specification 2.10, section 10.6.1).
use Rattle.std.specs.Prelude.{ℕ, ◌*◌, Bool, List, codes, length}
use Rattle.std.specs.List.{join_by}
use Rattle.uefi_device_nodes.specs.Nodes.{Node}
use Rattle.uefi_device_nodes.specs.NodeTexts.{node_text}
use Rattle.uefi_device_path.specs.Instances.{instances}
use Rattle.uefi_device_path.specs.LibefivarTexts.{libefivar_node_text}
use Rattle.uefi_device_path.specs.declared.text.path_text.TheConstants.{TEXT_UNITS_PER_BYTE}

-- an instance: the texts of its nodes, with a slash between each two
unfoldable pub instance_text : Bool → Bool → List Node → List ℕ
instance_text display_only shortcuts nodes = join_by (node_text display_only shortcuts) (codes "/") nodes

-- the text of a path: the texts of its instances, with a comma between each two
unfoldable pub nodes_text : Bool → Bool → List Node → List ℕ
nodes_text display_only shortcuts nodes =
    join_by (instance_text display_only shortcuts) (codes ",") (instances nodes)

-- a path as libefivar prints it
unfoldable pub libefivar_text : List Node → List ℕ
libefivar_text nodes =
    join_by (λ instance. join_by libefivar_node_text (codes "/") instance) (codes ",") (instances nodes)

-- an instance, with the text of each node
abbrev pub instance_text_by : (Node → List ℕ) → List Node → List ℕ
instance_text_by text nodes = join_by text (codes "/") nodes

-- a path, with the text of each node
abbrev pub path_text_by : (Node → List ℕ) → List Node → List ℕ
path_text_by text nodes = join_by (instance_text_by text) (codes ",") (instances nodes)

-- how many code units always hold the text of a path or a node with these bytes, and its NUL
abbrev pub text_room : List ℕ → ℕ
text_room bytes = TEXT_UNITS_PER_BYTE * length bytes
