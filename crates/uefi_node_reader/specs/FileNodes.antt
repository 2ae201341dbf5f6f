-- Nodes of files that were read from their names.
use Rattle.std.specs.Prelude.{ℕ, List, ◌∷◌}
use Rattle.std.specs.Str.{chars}
use Rattle.uefi_device_nodes.specs.declared.node_table.layouts.TheConstants.{MEDIA_TYPE}
use Rattle.uefi_device_nodes.specs.declared.node_table.layouts.media.file_path.TheConstants as file_path
use Rattle.uefi_device_nodes.specs.Nodes.{Node, node_with}
use Rattle.uefi_node_reader.specs.NamedFiles.{name_data}

-- the data of a file whose name is a backslash and these bytes
abbrev pub rooted_data : List ℕ → List ℕ
rooted_data name = name_data (92 ∷ chars name)

-- the node of a file with this data
abbrev pub node_of_file : List ℕ → Node
node_of_file content = node_with MEDIA_TYPE file_path.SUB_TYPE content
