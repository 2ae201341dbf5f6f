-- Nodes that name files.
use Rattle.std.specs.Prelude.{◌≡◌, ◌%◌, ◌==◌, ◌&&◌, Bool, if◌then◌else◌, length, Option, Some, None}
use Rattle.uefi_device_nodes.specs.declared.node_table.layouts.TheConstants.{MEDIA_TYPE}
use Rattle.uefi_device_nodes.specs.declared.node_table.layouts.media.file_path.TheConstants as file_path
use Rattle.uefi_device_nodes.specs.Nodes.{Node}
use Rattle.uefi_device_nodes.specs.declared.errors.NodeConversionError.{NodeConversionError}
use Rattle.uefi_device_nodes.specs.declared.errors.NodeConversionError.TheVariants.{DifferentType, InvalidLength}

-- a node that names a file: of type Media, sub-type File Path, with whole code units as its data
pub record IsFilePath (node : Node) : Type 0 where
  pub device_type : node.device_type ≡ MEDIA_TYPE
  pub sub_type : node.sub_type ≡ file_path.SUB_TYPE
  pub whole : length node.content % 2 ≡ 0

-- why a node does not name a file, or none
abbrev pub file_path_refusal : Node → Option NodeConversionError
file_path_refusal node =
    if (node.device_type == MEDIA_TYPE) && (node.sub_type == file_path.SUB_TYPE)
    then (if length node.content % 2 == 0 then None else Some InvalidLength)
    else Some DifferentType

-- whether a node has the type and the sub-type of a file node
abbrev pub is_file : Node → Bool
is_file node = (node.device_type == MEDIA_TYPE) && (node.sub_type == file_path.SUB_TYPE)
