-- Device paths that lie packed, one after the other.
use Rattle.std.specs.Prelude.{◌≡◌, ◌≢◌, ℕ, ◌+◌, ◌==◌, ◌&&◌, ◌≤◌, Bool, if◌then◌else◌, Some, List, [], ◌∷◌, ◌++◌, length, take, All}
use Rattle.std.specs.List.{flat_map, onto_first}
use Rattle.uefi_device_nodes.specs.NodeFaults.{node_fault}
use Rattle.uefi_device_nodes.specs.Nodes.{Node, IsInner}
use Rattle.uefi_device_path.specs.Paths.{IsPath, nodes_bytes, nodes_in, path_bytes}
use Rattle.uefi_device_path.specs.Faults.{RefusedFor}
use Rattle.uefi_device_path.specs.declared.errors.DevicePathError.{DevicePathError}
use Rattle.uefi_device_nodes.specs.declared.errors.NodeError.{NodeError}

-- the bytes of device paths, one after the other
abbrev pub list_bytes : List (List Node) → List ℕ
list_bytes paths = flat_map path_bytes paths

-- device paths whose nodes may all stand before an end
abbrev pub ArePaths : List (List Node) → Type 0
ArePaths paths = All (All IsInner) paths

-- bytes are these device paths, and then `rest`
pub record BeginWithPaths (bytes : List ℕ) (paths : List (List Node)) (rest : List ℕ) : Type 0 where
  pub are_paths : ArePaths paths
  pub join : bytes ≡ list_bytes paths ++ rest

-- the test for the node that ends a path
abbrev pub is_end_entire : Node → Bool
is_end_entire node = (node.device_type == 0x7f) && (node.sub_type == 0xff)

-- the nodes between those that end a path
abbrev pub paths_among : List Node → List (List Node)
paths_among [] = []
paths_among (node ∷ nodes) =
    if is_end_entire node then [] ∷ paths_among nodes else onto_first node (paths_among nodes)

-- the device paths that bytes are, where they are such: there are no others
unfoldable pub paths_in : List ℕ → List (List Node)
paths_in bytes = paths_among (nodes_in bytes)

-- bytes are device paths, one after the other, and nothing else
pub record ArePacked (bytes : List ℕ) : Type 0 where
  pub are_paths : ArePaths (paths_in bytes)
  pub join : bytes ≡ list_bytes (paths_in bytes)

-- the bytes are one or more device paths, and nothing else
pub record IsPathList (bytes : List ℕ) : Type 0 where
  pub packed : ArePacked bytes
  pub some : paths_in bytes ≢ []

-- bytes begin with a device path of this length
pub record HasFirst (bytes : List ℕ) (len : ℕ) : Type 0 where
  pub within : len ≤ length bytes
  pub is_path : IsPath (take len bytes)

-- after these device paths no other begins, for the reason and at the place that the error says
pub record RefusesList (bytes : List ℕ) (error : DevicePathError) (paths : List (List Node))
    (rest : List ℕ) (inside : DevicePathError) : Type 0 where
  pub begins : BeginWithPaths bytes paths rest
  pub more : rest ≡ [] → paths ≡ []
  pub refused : RefusedFor rest inside
  pub cause : error.cause ≡ inside.cause
  pub offset : error.offset ≡ length (list_bytes paths) + inside.offset

-- the bytes are refused as device paths for this error
abbrev pub ListRefusedFor : List ℕ → DevicePathError → Type 0
ListRefusedFor bytes error =
    (paths : List (List Node)) × (rest : List ℕ) × (inside : DevicePathError)
    × RefusesList bytes error paths rest inside

-- bytes are these whole device paths, then these nodes of one more, and a rest at which no node begins, for
-- this cause
pub record Breaks (bytes : List ℕ) (paths : List (List Node)) (nodes : List Node) (cause : NodeError)
    (rest : List ℕ) : Type 0 where
  pub are_paths : ArePaths paths
  pub inner : All IsInner nodes
  pub join : bytes ≡ list_bytes paths ++ (nodes_bytes nodes ++ rest)
  pub cause_is : node_fault rest ≡ Some cause

abbrev pub BreaksAfter : List ℕ → List (List Node) → List Node → NodeError → Type 0
BreaksAfter bytes paths nodes cause = (rest : List ℕ) × Breaks bytes paths nodes cause rest
