-- Device paths whose nodes are tested one by one.
use Rattle.std.specs.Prelude.{◌≡◌, ℕ, zero, suc, ◌+◌, ◌-◌, if◌then◌else◌, List, [], ◌∷◌, drop, length, take, Option, None, Some, Result, Err, Ok}
use Rattle.uefi_device_nodes.specs.NodeFaults.{fault_place, node_fault}
use Rattle.uefi_device_nodes.specs.Nodes.{Node, end_entire, first_node, node_bytes, stated_length}
use Rattle.uefi_device_nodes.specs.declared.errors.NodeError.{NodeError}
use Rattle.uefi_device_path.specs.PathLists.{is_end_entire}
use Rattle.uefi_device_path.specs.Paths.{nodes_in}
use Rattle.uefi_device_path.specs.declared.checked_nodes.Progress.{Progress}
use Rattle.uefi_device_path.specs.declared.checked_nodes.Progress.TheVariants.{Reading, Ended, Failed}
use Rattle.uefi_device_path.specs.declared.errors.DevicePathError.{DevicePathError}

-- a node, or why none begins
abbrev pub Checked : Type 0
Checked = Result Node DevicePathError

-- the same by what is wrong with the first node, and what is checked after it
abbrev pub checked_by : Option NodeError → ℕ → Node → List Checked → List Checked
checked_by (Some cause) offset node others =
    Err (record { cause = cause; offset = offset + fault_place cause }) ∷ []
checked_by None offset node others = if is_end_entire node then [] else Ok node ∷ others

-- the nodes up to the one that ends a path, or up to the first fault and that fault, of bytes that
-- begin at an offset: no more than `count` in all
abbrev pub checked_within : ℕ → ℕ → List ℕ → List Checked
checked_within zero offset bytes = []
checked_within (suc count) offset bytes =
    checked_by (node_fault bytes) offset (first_node bytes)
    (checked_within count (offset + stated_length bytes) (drop (stated_length bytes) bytes))

-- what is still to come at a place of bytes
abbrev pub checked_at : Progress → ℕ → List ℕ → List Checked
checked_at Reading offset rest = checked_within (suc (length rest)) offset rest
checked_at Ended offset rest = []
checked_at Failed offset rest = []

-- the bytes after the path, once its end was reached, which `rest` begins with
abbrev pub rest_at : Progress → List ℕ → Option (List ℕ)
rest_at Reading rest = None
rest_at Ended rest = Some (drop 4 rest)
rest_at Failed rest = None

-- the nodes of bytes before `rest`
abbrev pub nodes_before : List ℕ → List ℕ → List Node
nodes_before bytes rest = nodes_in (take (length bytes - length rest) bytes)

-- bytes begin with the node that ends a path
abbrev pub BeginWithEnd : List ℕ → Type 0
BeginWithEnd bytes = take 4 bytes ≡ node_bytes end_entire

-- a node, and the nodes after it
abbrev pub node_before : Node → Result (List Node) DevicePathError → Result (List Node) DevicePathError
node_before node (Ok nodes) = Ok (node ∷ nodes)
node_before node (Err error) = Err error

-- nodes that were checked, or the fault of the first that is malformed
abbrev pub all_checked : List Checked → Result (List Node) DevicePathError
all_checked [] = Ok []
all_checked (Err error ∷ others) = Err error
all_checked (Ok node ∷ others) = node_before node (all_checked others)

-- the nodes of the device path that bytes begin with, or why they begin with none
unfoldable pub path_of_bytes : List ℕ → Result (List Node) DevicePathError
path_of_bytes bytes = all_checked (checked_at Reading 0 bytes)
