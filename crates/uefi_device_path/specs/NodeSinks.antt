-- Paths that take the nodes of a text, in memory that grows and in a buffer.
use Rattle.std.specs.Prelude.{◌≡◌, ◌≤◌, ◌^◌, ◌-◌, ◌+◌, min, ℕ, take, drop, List, ◌++◌, length, Option, Some, None}
use Rattle.uefi_device_nodes.specs.Nodes.{Node}
use Rattle.uefi_device_path.specs.Paths.{IsPath, nodes_bytes, nodes_in, without_end}

-- a path has these nodes more, unless memory ran out
abbrev pub IsLonger : Option (List Node) → List Node → Option (List Node) → Type 0
IsLonger old nodes None = Unit {0}
IsLonger old nodes (Some new) = (path : List Node) × (old ≡ Some path) × (new ≡ path ++ nodes)

-- how many bytes a path of `len` bytes has with these nodes, as far as a `usize` counts
abbrev pub grown_length : ℕ → List Node → ℕ
grown_length len nodes = min (len + length (nodes_bytes nodes)) (2 ^ 64 - 1)

-- the nodes of the path that the first bytes of a buffer are
abbrev pub nodes_up_to : ℕ → List ℕ → List Node
nodes_up_to len buffer = nodes_in (without_end (take len buffer))

-- a buffer that was `old` begins with the path of these nodes, and what follows it is unchanged
pub record Holds (old : List ℕ) (nodes : List Node) (new : List ℕ) (end : ℕ) : Type 0 where
  pub within : end ≤ length new
  pub path : IsPath (take end new)
  pub shown : nodes_up_to end new ≡ nodes
  pub same : length new ≡ length old
  pub rest : drop end new ≡ drop end old

-- the path in the first `len` bytes of a buffer has these nodes more if there is room for them, and `end` is
-- the number of bytes that it then has or needs
pub record HoldsMore (old : List ℕ) (len : ℕ) (nodes : List Node) (new : List ℕ) (end : ℕ) : Type 0 where
  pub count : end ≡ grown_length len nodes
  pub same : length new ≡ length old
  pub holds : end ≤ length old → Holds old (nodes_up_to len old ++ nodes) new end
