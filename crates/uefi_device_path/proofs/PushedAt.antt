-- A node at the end of the path that a buffer begins with.
use Rattle.std.proofs.Common.{◌≡◌, ◌∙◌, ap, sym, refl, ℕ, ◌+◌, ◌-◌, take, drop, length-append, List, [], ◌∷◌, ◌++◌, length, append_assoc, arith}
use Rattle.std.proofs.lemmas.Grind.{common_steps}
use Rattle.std.proofs.lemmas.List.{drop_at, take_at}
use Rattle.std.specs.Cmp.Lexicographic.{pointwise}
use Rattle.std.specs.List.{ends_with}
use Rattle.std.specs.Prelude.{false, true, nat_eq, nat_lt, not, ◌&&◌}
use Rattle.uefi_device_nodes.specs.Nodes.{Node, node_bytes, node_length, end_entire}
use Rattle.uefi_device_path.specs.Building.{build_refusal, ends_at, grow_refusal, push_at_refusal, push_refusal, pushed_at, room_refusal}
use Rattle.uefi_device_path.specs.Paths.{BeginWithPath, nodes_bytes, path_bytes}
use Rattle.uefi_device_path.proofs.Building.{one_node}
use Rattle.uefi_device_path.proofs.ShortForms.{bytes_of_both}
use Rattle.uefi_device_path.proofs.TextLengths.{bytes_more}

-- a node in place of the end node of the path that bytes begin with
pub pushed_at_path : (bytes : List ℕ) (ns : List Node) (node : Node) → BeginWithPath bytes ns
    → pushed_at bytes (length (path_bytes ns)) node ≡ path_bytes (ns ++ node ∷ [])
pushed_at_path bytes ns node begins =
    let long = length-append (nodes_bytes ns) (node_bytes end_entire) in
    let front : take (length (path_bytes ns) - 4) bytes ≡ nodes_bytes ns =
    ap (take (length (path_bytes ns) - 4)) begins.1.join ∙ take_at (nodes_bytes ns) (node_bytes end_entire ++ begins.0) _ (omega (arith, long)) in
    ap (λ us. us ++ (node_bytes node ++ node_bytes end_entire)) front ∙ ap (λ us. nodes_bytes ns ++ us) (sym (one_node node))
    ∙ sym (bytes_of_both (ns ++ node ∷ []) ns (node ∷ []) refl)

pub pushed_at_refused : (bytes : List ℕ) (ns : List Node) (node : Node) → BeginWithPath bytes ns
    → push_at_refusal bytes (length (path_bytes ns)) node ≡ grow_refusal (push_refusal ns node (length bytes))
pushed_at_refused bytes ns node begins =
    let whole : bytes ≡ path_bytes ns ++ begins.0 = begins.1.join ∙ sym (append_assoc (nodes_bytes ns) (node_bytes end_entire) begins.0) in
    let front : take (length (path_bytes ns)) bytes ≡ path_bytes ns = ap (take (length (path_bytes ns))) whole ∙ take_at (path_bytes ns) begins.0 _ refl in
    let long = length-append (nodes_bytes ns) (node_bytes end_entire) in
    let all = ap length whole ∙ length-append (path_bytes ns) begins.0 in
    let within : nat_lt (length bytes) (length (path_bytes ns)) ≡ false = grind (arith, common_steps) in
    let last : drop (length (path_bytes ns) - 4) (path_bytes ns) ≡ node_bytes end_entire =
    drop_at (nodes_bytes ns) (node_bytes end_entire) _ (omega (arith, long)) in
    let ends : ends_with nat_eq (take (length (path_bytes ns)) bytes) (node_bytes end_entire) ≡ true =
    ap (λ us. ends_with nat_eq us (node_bytes end_entire)) front ∙ ap (pointwise nat_eq (node_bytes end_entire)) last in
    let is : ends_at bytes (length (path_bytes ns)) ≡ true = ap (λ b. not b && ends_with nat_eq (take (length (path_bytes ns)) bytes) (node_bytes end_entire)) within ∙ ends in
    let more : length (pushed_at bytes (length (path_bytes ns)) node) ≡ length (path_bytes ns) + node_length node =
    ap length (pushed_at_path bytes ns node begins) ∙ bytes_more ns node in
    rw is (ap (λ n. grow_refusal (room_refusal n (length bytes) (build_refusal node))) more)
