-- Which nodes are refused by a device path that grows.
use Rattle.std.specs.Prelude.{ℕ, ◌+◌, ◌-◌, ◌^◌, min, List, ◌++◌, nat_eq, nat_lt, ◌==◌, ◌&&◌, not, if◌then◌else◌, Bool, length, take, Option, Some, None}
use Rattle.std.specs.List.{ends_with}
use Rattle.std.specs.Option.{option_map}
use Rattle.uefi_device_nodes.specs.declared.node_table.layouts.TheConstants.{MEDIA_TYPE}
use Rattle.uefi_device_nodes.specs.declared.node_table.layouts.media.file_path.TheConstants as file_path
use Rattle.uefi_device_nodes.specs.Nodes.{is_end_instance}
use Rattle.uefi_device_nodes.specs.Nodes.{Node, end_entire, node_bytes, node_length, node_with}
use Rattle.uefi_device_nodes.specs.declared.errors.NodeError.TheVariants.{Missing}
use Rattle.uefi_text.specs.UnitBytes.{unit_bytes}
use Rattle.uefi_text.specs.Units.{nul_terminated}
use Rattle.uefi_device_path.specs.Paths.{path_bytes}
use Rattle.uefi_device_path.specs.declared.errors.BuildError.{BuildError}
use Rattle.uefi_device_path.specs.declared.errors.GrowError.{GrowError}
use Rattle.uefi_device_path.specs.declared.errors.GrowError.TheVariants.{Build, Path}
use Rattle.uefi_device_path.specs.declared.errors.BuildError.TheVariants.{BufferTooSmall, EndNode, NodeTooLong}
use Rattle.uefi_device_path.specs.declared.text.text_errors.PushTextError.{PushTextError}
use Rattle.uefi_device_path.specs.declared.text.text_errors.PushTextError.TheVariants as text

-- the node that names a file: its name and a NUL
abbrev pub node_of_name : List ℕ → Node
node_of_name name = node_with MEDIA_TYPE file_path.SUB_TYPE (unit_bytes (nul_terminated name))

-- why a node may not stand before the end of a path, or none
abbrev pub build_refusal : Node → Option BuildError
build_refusal node =
    if (node.device_type == 0x7f) && not (is_end_instance node && (length node.content == 0))
    then Some EndNode
    else if nat_lt 0xffff (node_length node) then Some NodeTooLong
    else None

-- the same by what is wrong with the node, and the bytes that the path then has
abbrev pub room_refusal : ℕ → ℕ → Option BuildError → Option BuildError
room_refusal len room (Some fault) = Some fault
room_refusal len room None = if nat_lt room len then Some (BufferTooSmall len) else None

-- why a node cannot be added to a path of these nodes in a buffer of `room` bytes, or none: a fault
-- of the node comes first
abbrev pub push_refusal : List Node → Node → ℕ → Option BuildError
push_refusal nodes node room =
    room_refusal (length (path_bytes nodes) + node_length node) room (build_refusal node)

-- why the nodes of another path cannot be added to a path of these nodes in a buffer of `room`
-- bytes, or none
abbrev pub append_refusal : List Node → List Node → ℕ → Option BuildError
append_refusal nodes others room = room_refusal (length (path_bytes (nodes ++ others))) room None

-- why nothing is added to the path that a buffer begins with
abbrev pub grow_refusal : Option BuildError → Option GrowError
grow_refusal error = option_map Build error

-- whether the first `len` bytes end with the node that ends a path
abbrev pub ends_at : List ℕ → ℕ → Bool
ends_at bytes len =
    not (nat_lt (length bytes) len) && ends_with nat_eq (take len bytes) (node_bytes end_entire)

-- the first `len` bytes with a node in place of the end node that they end with, and an end node
-- after it
abbrev pub pushed_at : List ℕ → ℕ → Node → List ℕ
pushed_at bytes len node = take (len - 4) bytes ++ (node_bytes node ++ node_bytes end_entire)

-- why a node is not added to the path in the first `len` bytes, or none: a missing end node comes first
abbrev pub push_at_refusal : List ℕ → ℕ → Node → Option GrowError
push_at_refusal bytes len node =
    if ends_at bytes len
    then grow_refusal (room_refusal (length (pushed_at bytes len node)) (length bytes) (build_refusal node))
    else Some (Path (record { cause = Missing; offset = len }))

-- how many bytes the path of these nodes has, as far as a `usize` counts
abbrev pub path_length : List Node → ℕ
path_length nodes = min (length (path_bytes nodes)) (2 ^ 64 - 1)

-- why the nodes of a text cannot be added to a path of these nodes in a buffer of `room` bytes, or
-- none
abbrev pub text_refusal : List Node → List Node → ℕ → Option PushTextError
text_refusal nodes read room =
    if nat_lt room (path_length (nodes ++ read))
    then Some (text.BufferTooSmall (path_length (nodes ++ read)))
    else None
