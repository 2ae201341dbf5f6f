-- How far bytes go that may be only the first part of a device path.
use Rattle.std.specs.Prelude.{◌≡◌, ℕ, ◌+◌, ◌<◌, ◌≤◌, nat_lt, Bool, true, false, if◌then◌else◌, List, ◌++◌, drop, length, Some}
use Rattle.uefi_device_nodes.specs.NodeFaults.{node_fault}
use Rattle.uefi_device_nodes.specs.Nodes.{Node, stated_length}
use Rattle.uefi_device_nodes.specs.declared.errors.NodeError.{NodeError}
use Rattle.uefi_device_nodes.specs.declared.errors.NodeError.TheVariants.{Missing, TruncatedHeader, UnknownEnd, LengthBelowHeader, EndWithData, BeyondEnd}
use Rattle.uefi_device_path.specs.Paths.{BeginWith, BeginWithPath, nodes_bytes, path_bytes}
use Rattle.uefi_device_path.specs.declared.extent.PathCut.{PathCut}
use Rattle.uefi_device_path.specs.declared.extent.PathExtent.{PathExtent}
use Rattle.uefi_device_path.specs.declared.extent.PathExtent.TheVariants.{Whole, Cut}

-- how many bytes a node has at least that begins like this: its header, or what that states
abbrev pub begun_length : List ℕ → ℕ
begun_length bytes = if nat_lt (length bytes) 4 then 4 else stated_length bytes

-- the test for a fault that more bytes may remove: a node that is not complete
abbrev pub is_cut_short : NodeError → Bool
is_cut_short Missing = true
is_cut_short TruncatedHeader = true
is_cut_short UnknownEnd = false
is_cut_short LengthBelowHeader = false
is_cut_short EndWithData = false
is_cut_short BeyondEnd = true

-- bytes are whole nodes, none of which ends a path, and then less than a node
pub record IsCut (bytes : List ℕ) (cut : PathCut) : Type 0 where
  pub nodes : (nodes : List Node) × BeginWith bytes nodes (drop cut.passed bytes)
      × (cut.passed ≡ length (nodes_bytes nodes))
  pub part : (cause : NodeError) × (node_fault (drop cut.passed bytes) ≡ Some cause)
      × (is_cut_short cause ≡ true)
  pub needed : cut.needed ≡ cut.passed + begun_length (drop cut.passed bytes)
  pub more : length bytes < cut.needed
  pub least : (after : List ℕ) (nodes : List Node) → BeginWithPath (bytes ++ after) nodes
      → cut.needed ≤ length (path_bytes nodes)

-- the bytes begin with a path of this length, or end before such a path does
abbrev pub HasExtent : List ℕ → PathExtent → Type 0
HasExtent bytes (Whole len) =
    (nodes : List Node) × BeginWithPath bytes nodes × (len ≡ length (path_bytes nodes))
HasExtent bytes (Cut cut) = IsCut bytes cut

-- no device path begins with these bytes, whatever follows them
abbrev pub BeginNoPath : List ℕ → Type 0
BeginNoPath bytes = (after : List ℕ) (nodes : List Node) → BeginWithPath (bytes ++ after) nodes → ⊥

-- the end of the extent: the end of the path, or of the bytes that it needs
abbrev pub extent_end : PathExtent → ℕ
extent_end (Whole len) = len
extent_end (Cut cut) = cut.needed
