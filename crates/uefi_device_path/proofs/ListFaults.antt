-- What stands before the first fault of device paths that lie packed.
use Rattle.std.proofs.Common.{◌≡◌, ◌∙◌, ap, refl, ℕ, ◌-◌, List, [], ◌++◌, All, length, take, arith}
use Rattle.std.proofs.lemmas.List.{take_at}
use Rattle.uefi_device_nodes.specs.NodeFaults.{fault_place}
use Rattle.std.proofs.lemmas.List.Elements.{All-nil}
use Rattle.uefi_device_nodes.specs.Nodes.{IsInner, Node}
use Rattle.uefi_device_path.specs.Faults.{RefusedFor}
use Rattle.uefi_device_path.specs.Paths.{AreNodes, nodes_bytes, nodes_in}
use Rattle.uefi_device_path.specs.PathLists.{ArePacked, BeginWithPaths, Breaks, BreaksAfter, list_bytes, paths_in}
use Rattle.uefi_device_path.specs.declared.errors.DevicePathError.{DevicePathError}
use Rattle.uefi_device_path.proofs.Lists.{ArePacked-list_bytes, paths_in-list_bytes, paths_long}
use Rattle.uefi_device_path.proofs.Splits.{AreNodes-nodes_bytes, nodes_in-nodes_bytes}

-- the bytes before the rest are those of the paths
list_front : (bytes : List ℕ) (paths : List (List Node)) (rest : List ℕ) → BeginWithPaths bytes paths rest
    → take (length bytes - length rest) bytes ≡ list_bytes paths
list_front bytes paths rest begins =
    let long = paths_long bytes paths rest begins in
    let place : length (list_bytes paths) ≡ length bytes - length rest = omega (arith, long) in
    ap (take (length bytes - length rest)) begins.join ∙ take_at (list_bytes paths) rest (length bytes - length rest) place

pub paths_front : (bytes : List ℕ) (paths : List (List Node)) (rest : List ℕ) → BeginWithPaths bytes paths rest
    → ArePacked (take (length bytes - length rest) bytes) × (paths_in (take (length bytes - length rest) bytes) ≡ paths)
paths_front bytes paths rest begins =
    let front = list_front bytes paths rest begins in
    (ArePacked-list_bytes paths _ begins.are_paths front, ap paths_in front ∙ paths_in-list_bytes paths begins.are_paths)

-- the bytes before the node at fault are those of the nodes
node_front : (rest : List ℕ) (error : DevicePathError) (refused : RefusedFor rest error)
    → take (error.offset - fault_place error.cause) rest ≡ nodes_bytes refused.0
node_front rest error refused =
    let why = refused.2 in
    let place : length (nodes_bytes refused.0) ≡ error.offset - fault_place error.cause = omega (arith, why.offset) in
    ap (take (error.offset - fault_place error.cause)) why.begins.join
    ∙ take_at (nodes_bytes refused.0) refused.1 (error.offset - fault_place error.cause) place

pub nodes_front : (rest : List ℕ) (error : DevicePathError) (refused : RefusedFor rest error)
    → AreNodes (take (error.offset - fault_place error.cause) rest)
    × (nodes_in (take (error.offset - fault_place error.cause) rest) ≡ refused.0)
nodes_front rest error refused =
    let front = node_front rest error refused in
    (AreNodes-nodes_bytes refused.0 _ refused.2.begins.inner front, ap nodes_in front ∙ nodes_in-nodes_bytes refused.0)

pub breaks_after : (bytes : List ℕ) (paths : List (List Node)) (rest : List ℕ) (error : DevicePathError)
    → BeginWithPaths bytes paths rest → RefusedFor rest error
    → BreaksAfter bytes (paths_in (take (length bytes - length rest) bytes))
    (nodes_in (take (error.offset - fault_place error.cause) rest)) error.cause
breaks_after bytes paths rest error begins refused =
    let whole = (paths_front bytes paths rest begins).1 in
    let part = (nodes_front rest error refused).1 in
    let why = refused.2 in
    let breaks : Breaks bytes paths refused.0 error.cause refused.1 = record {
      are_paths = begins.are_paths;
      inner = why.begins.inner;
      join = begins.join ∙ ap (λ k. list_bytes paths ++ k) why.begins.join;
      cause_is = why.cause;
    } in
    rw (whole, part) (refused.1, breaks)

-- no bytes are no paths, and no nodes
pub no_paths : ArePacked []
no_paths = ArePacked-list_bytes [] [] (All-nil (All IsInner)) refl

pub no_nodes : AreNodes []
no_nodes = AreNodes-nodes_bytes [] [] (All-nil IsInner) refl
