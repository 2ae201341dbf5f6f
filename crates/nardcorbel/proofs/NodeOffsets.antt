-- A node of a device path, by the place of its data in bytes, and the nodes that follow it.
use Rattle.std.proofs.Common.{◌≡◌, ℕ, List, [], ◌+◌, ◌-◌, ◌++◌, Some, ap, arith, drop, length, length-drop, sym, take, ◌∙◌}
use Rattle.std.specs.Prelude.{slice_range}
use Rattle.std.proofs.Math.Seq.{drop-append_seam, take-append_seam}
use Rattle.std.proofs.lemmas.List.{drop-drop, take_all}
use Rattle.std.proofs.lemmas.List.Elements.{All-nil}
use Rattle.uefi_device_path.specs.NodeFaults.{node_fault}
use Rattle.uefi_device_path.specs.Nodes.{IsInner, Node, end_entire, node_bytes, node_with}
use Rattle.uefi_device_path.specs.NodeError.{NodeError}
use Rattle.uefi_device_path.proofs.Splits.{path_no_fault, path_once}
use Rattle.uefi_device_path.specs.Paths.{BeginWithPath}

-- what is left of bytes from a place on
pub left_from : (bytes rest : List ℕ) (place : ℕ) → rest ≡ slice_range bytes place (length bytes) → rest ≡ drop place bytes
left_from bytes rest place is =
    is ∙ take_all (length bytes - place) (drop place bytes) (omega (arith, length-drop place bytes))

-- after a header stand the data of its node
after_header : (bytes after : List ℕ) (place : ℕ) (node : Node) → drop place bytes ≡ node_bytes node ++ after
    → drop (place + 4) bytes ≡ node.content ++ after
after_header bytes after place node begins = sym (drop-drop 4 place bytes) ∙ ap (drop 4) begins

-- the data of a node are as many bytes as they have
data_there : (bytes after : List ℕ) (place : ℕ) (node : Node) → drop place bytes ≡ node_bytes node ++ after
    → slice_range bytes (place + 4) (place + 4 + length node.content) ≡ node.content
data_there bytes after place node begins =
    let count : (place + 4 + length node.content) - (place + 4) ≡ length node.content = omega arith in
    ap (λ n. take n (drop (place + 4) bytes)) count
    ∙ ap (take (length node.content)) (after_header bytes after place node begins)
    ∙ take-append_seam node.content after

-- after its data stands what follows the node
after_data : (bytes after : List ℕ) (place : ℕ) (node : Node) → drop place bytes ≡ node_bytes node ++ after
    → drop (place + 4 + length node.content) bytes ≡ after
after_data bytes after place node begins =
    sym (drop-drop (length node.content) (place + 4) bytes)
    ∙ ap (drop (length node.content)) (after_header bytes after place node begins)
    ∙ drop-append_seam node.content after

-- a node stands where its type, its sub-type and the place of its data say
pub node_stands : (bytes rest after : List ℕ) (place : ℕ) (node : Node) (device_type sub_type count : ℕ)
    → rest ≡ drop place bytes → rest ≡ node_bytes node ++ after
    → device_type ≡ node.device_type → sub_type ≡ node.sub_type → count ≡ length node.content
    → drop place bytes
    ≡ node_bytes (node_with device_type sub_type (slice_range bytes (place + 4) (place + 4 + count)))
    ++ drop (place + 4 + count) bytes
node_stands bytes rest after place node device_type sub_type count is begins kind sub_kind long =
    let here : drop place bytes ≡ node_bytes node ++ after = sym is ∙ begins in
    let there : slice_range bytes (place + 4) (place + 4 + length node.content) ≡ node.content =
    data_there bytes after place node here in
    let left : drop (place + 4 + length node.content) bytes ≡ after = after_data bytes after place node here in
    here
    ∙ sym (ap (λ us. node_bytes node ++ us) left)
    ∙ sym (ap (λ us. node_bytes (node_with node.device_type node.sub_type us) ++ drop (place + 4 + length node.content) bytes) there)
    ∙ sym (ap (λ n. node_bytes (node_with n node.sub_type (slice_range bytes (place + 4) (place + 4 + length node.content)))
    ++ drop (place + 4 + length node.content) bytes) kind)
    ∙ sym (ap (λ n. node_bytes (node_with device_type n (slice_range bytes (place + 4) (place + 4 + length node.content)))
    ++ drop (place + 4 + length node.content) bytes) sub_kind)
    ∙ sym (ap (λ n. node_bytes (node_with device_type sub_type (slice_range bytes (place + 4) (place + 4 + n)))
    ++ drop (place + 4 + n) bytes) long)

-- a path that begins with its end has no node before it
pub none_before_end : (rest after : List ℕ) (nodes : List Node) → rest ≡ node_bytes end_entire ++ after
    → BeginWithPath rest nodes → nodes ≡ []
none_before_end rest after nodes here path =
    path_once rest nodes [] path (after, record { inner = All-nil IsInner; join = here })

-- a path begins with a node
pub never_faulty : (bytes : List ℕ) (nodes : List Node) (cause : NodeError) → BeginWithPath bytes nodes
    → node_fault bytes ≡ Some cause → ⊥
never_faulty bytes nodes cause path fault = let none = path_no_fault bytes nodes path in absurd (cc (none, fault))
