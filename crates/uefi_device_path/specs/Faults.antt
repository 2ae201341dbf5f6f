-- Why bytes do not begin with a device path.
use Rattle.std.specs.Prelude.{◌≡◌, ◌↔◌, ℕ, ◌+◌, IfErr, IfOk, IsOk, List, Result, length, Some}
use Rattle.uefi_device_nodes.specs.NodeFaults.{fault_place, node_fault}
use Rattle.uefi_device_nodes.specs.Nodes.{Node}
use Rattle.uefi_device_path.specs.Paths.{BeginWith, BeginWithPath, nodes_bytes}
use Rattle.uefi_device_path.specs.declared.errors.DevicePathError.{DevicePathError}

-- the bytes are these nodes and then a rest where no node begins, for the cause and at the place of
-- the error
pub record RefusesNode (bytes : List ℕ) (error : DevicePathError) (nodes : List Node)
    (rest : List ℕ) : Type 0 where
  pub begins : BeginWith bytes nodes rest
  pub cause : node_fault rest ≡ Some error.cause
  pub offset : error.offset ≡ length (nodes_bytes nodes) + fault_place error.cause

-- the bytes are refused for this error
abbrev pub RefusedFor : List ℕ → DevicePathError → Type 0
RefusedFor bytes error = (nodes : List Node) × (rest : List ℕ) × RefusesNode bytes error nodes rest

-- the result of reading the path at the start of bytes: the only path that they begin with, or the
-- only refusal
abbrev pub GivesPath : {P : Type 0} → (P → List Node) → List ℕ → Result P DevicePathError → Type 0
GivesPath nodes_of bytes result =
    IfOk result (λ path. BeginWithPath bytes (nodes_of path))
    × IfOk result (λ path. (nodes : List Node) → BeginWithPath bytes nodes → nodes ≡ nodes_of path)
    × (IsOk result ↔ ((nodes : List Node) × BeginWithPath bytes nodes))
    × IfErr result (λ error. RefusedFor bytes error)
    × IfErr result (λ error. (other : DevicePathError) → RefusedFor bytes other → other ≡ error)
