-- Bytes that are the first part of a device path, and those with which no path begins.
use Rattle.std.proofs.Common.{◌≡◌, ◌∙◌, ap, sym, refl, ℕ, ◌+◌, ◌<◌, ◌≤◌, Bool, true, false, ltb, List, [], ◌∷◌, ◌++◌, All, None, Some, length, drop, append_assoc, length-append, arith}
use Rattle.std.proofs.lemmas.Grind.{common_steps}
use Rattle.std.proofs.lemmas.List.{drop_at}
use Rattle.std.proofs.lemmas.List.Elements.{All-head, All-tail}
use Rattle.uefi_device_nodes.specs.NodeFaults.{node_fault}
use Rattle.uefi_device_nodes.specs.Nodes.{IsInner, IsSound, Node, end_entire, node_bytes, node_length, stated_length}
use Rattle.uefi_device_nodes.specs.declared.errors.NodeError.{NodeError}
use Rattle.uefi_device_path.specs.Extents.{BeginNoPath, begun_length, is_cut_short}
use Rattle.uefi_device_path.specs.Paths.{BeginWith, BeginWithPath, nodes_bytes, path_bytes}
use Rattle.uefi_device_path.proofs.Splits.{no_fault, prefix_free, stated-node_bytes}

-- the header of bytes with one says the same whatever follows
same_header : (rest after : List ℕ) → 4 ≤ length rest → stated_length (rest ++ after) ≡ stated_length rest
same_header (a ∷ b ∷ c ∷ d ∷ rest) after long = refl
same_header (a ∷ b ∷ c ∷ []) after long = absurd (omega arith)
same_header (a ∷ b ∷ []) after long = absurd (omega arith)
same_header (a ∷ []) after long = absurd (omega arith)
same_header [] after long = absurd (omega arith)

-- a node or the end of a path that bytes begin with has as many bytes as their first part states
begun_within : (rest after more : List ℕ) (n : Node) → rest ++ after ≡ node_bytes n ++ more
    → begun_length rest ≤ length (node_bytes n)
begun_within rest after more n e = by (ltb (length rest) 4) refl
  where
    by : (t : Bool) → ltb (length rest) 4 ≡ t → begun_length rest ≤ length (node_bytes n)
    by true small = rw small (omega arith)
    by false large =
        let long : 4 ≤ length rest = grind (arith, common_steps) in
        let stated : stated_length rest ≡ node_length n =
        sym (same_header rest after long) ∙ ap stated_length e ∙ stated-node_bytes n more in
        rw large (omega arith)

-- what follows the nodes of the first part of a path is the path of the others
past_nodes : (ns ms : List Node) (y z : List ℕ) → All IsInner ns → All IsInner ms
    → nodes_bytes ns ++ y ≡ nodes_bytes ms ++ (node_bytes end_entire ++ z)
    → (ks : List Node) × (length (nodes_bytes ms) ≡ length (nodes_bytes ns) + length (nodes_bytes ks))
    × (y ≡ nodes_bytes ks ++ (node_bytes end_entire ++ z)) × All IsInner ks
past_nodes [] ms y z n_in m_in e = (ms, omega arith, e, m_in)
past_nodes (n ∷ ns) [] y z n_in m_in e =
    let both = prefix_free n end_entire (nodes_bytes ns ++ y) z (sym (append_assoc (node_bytes n) (nodes_bytes ns) y) ∙ e) in
    absurd ((All-head IsInner n ns n_in).not_end both.0)
past_nodes (n ∷ ns) (m ∷ ms) y z n_in m_in e =
    let both = prefix_free n m (nodes_bytes ns ++ y) (nodes_bytes ms ++ (node_bytes end_entire ++ z))
    (sym (append_assoc (node_bytes n) (nodes_bytes ns) y) ∙ e ∙ append_assoc (node_bytes m) (nodes_bytes ms) (node_bytes end_entire ++ z)) in
    let others = past_nodes ns ms y z (All-tail IsInner n ns n_in) (All-tail IsInner m ms m_in) both.1 in
    let same : length n.content ≡ length m.content = ap (λ (k : Node). length k.content) both.0 in
    let first : length (n.content ++ nodes_bytes ns) ≡ length n.content + length (nodes_bytes ns) = length-append n.content (nodes_bytes ns) in
    let second : length (m.content ++ nodes_bytes ms) ≡ length m.content + length (nodes_bytes ms) = length-append m.content (nodes_bytes ms) in
    let count : length (nodes_bytes ms) ≡ length (nodes_bytes ns) + length (nodes_bytes others.0) = others.1 in
    (others.0, omega arith, others.2, others.3)

-- the path that goes on after the nodes of its first part
goes_on_after : (bytes rest after : List ℕ) (ns ms : List Node) → BeginWith bytes ns rest → BeginWithPath (bytes ++ after) ms
    → (ks : List Node) × (z : List ℕ) × (length (nodes_bytes ms) ≡ length (nodes_bytes ns) + length (nodes_bytes ks))
    × (rest ++ after ≡ nodes_bytes ks ++ (node_bytes end_entire ++ z)) × All IsInner ks
goes_on_after bytes rest after ns ms begins path =
    let joined : nodes_bytes ns ++ (rest ++ after) ≡ nodes_bytes ms ++ (node_bytes end_entire ++ path.0) =
    sym (append_assoc (nodes_bytes ns) rest after) ∙ ap (λ k. k ++ after) (sym begins.join) ∙ path.1.join in
    let others = past_nodes ns ms (rest ++ after) path.0 begins.inner path.1.inner joined in
    (others.0, path.0, others.1, others.2, others.3)

-- a path has at least the bytes of its whole nodes and those that the next one states
pub cut_within : (bytes rest after : List ℕ) (ns ms : List Node) → BeginWith bytes ns rest → BeginWithPath (bytes ++ after) ms
    → length (nodes_bytes ns) + begun_length rest ≤ length (path_bytes ms)
cut_within bytes rest after ns ms begins path =
    let on = goes_on_after bytes rest after ns ms begins path in
    let long : length (path_bytes ms) ≡ length (nodes_bytes ms) + 4 = length-append (nodes_bytes ms) (node_bytes end_entire) in
    first on.0 on.1 on.2 on.3 long
  where
    first : (ks : List Node) (z : List ℕ) → length (nodes_bytes ms) ≡ length (nodes_bytes ns) + length (nodes_bytes ks)
        → rest ++ after ≡ nodes_bytes ks ++ (node_bytes end_entire ++ z)
        → length (path_bytes ms) ≡ length (nodes_bytes ms) + 4
        → length (nodes_bytes ns) + begun_length rest ≤ length (path_bytes ms)
    first [] z count e long =
        let small = begun_within rest after z end_entire e in
        omega arith
    first (k ∷ ks) z count e long =
        let small = begun_within rest after (nodes_bytes ks ++ (node_bytes end_entire ++ z)) k
        (e ∙ append_assoc (node_bytes k) (nodes_bytes ks) (node_bytes end_entire ++ z)) in
        let both : length (k.content ++ nodes_bytes ks) ≡ length k.content + length (nodes_bytes ks) = length-append k.content (nodes_bytes ks) in
        omega arith

-- a node that is not all there has more bytes than there are
pub cut_is_longer : (rest : List ℕ) (cause : NodeError) → node_fault rest ≡ Some cause → is_cut_short cause ≡ true
    → length rest < begun_length rest
cut_is_longer rest cause fault is = grind (arith, common_steps)

-- a fault of a whole header stays one whatever follows
same_fault : (rest after : List ℕ) (cause : NodeError) → node_fault rest ≡ Some cause → is_cut_short cause ≡ false
    → node_fault (rest ++ after) ≡ None → ⊥
same_fault (a ∷ b ∷ c ∷ d ∷ rest) after cause e header none =
    let long : length (rest ++ after) ≡ length rest + length after = length-append rest after in
    grind (arith, common_steps)
same_fault (a ∷ b ∷ c ∷ []) after cause e header none = grind (arith, common_steps)
same_fault (a ∷ b ∷ []) after cause e header none = grind (arith, common_steps)
same_fault (a ∷ []) after cause e header none = grind (arith, common_steps)
same_fault [] after cause e header none = grind (arith, common_steps)

-- no path begins with bytes that have such a fault after whole nodes
pub no_path_after : (bytes rest : List ℕ) (ns : List Node) (cause : NodeError) → BeginWith bytes ns rest
    → node_fault rest ≡ Some cause → is_cut_short cause ≡ false → BeginNoPath bytes
no_path_after bytes rest ns cause begins e header after ms path =
    let on = goes_on_after bytes rest after ns ms begins path in
    same_fault rest after cause e header (starts on.0 on.1 on.3 on.4)
  where
    ends : IsSound end_entire
    ends = λ e. (refl, λ no. refl)

    starts : (ks : List Node) (z : List ℕ) → rest ++ after ≡ nodes_bytes ks ++ (node_bytes end_entire ++ z) → All IsInner ks
        → node_fault (rest ++ after) ≡ None
    starts [] z e inner = ap node_fault e ∙ no_fault end_entire z ends
    starts (k ∷ ks) z e inner =
        ap node_fault (e ∙ append_assoc (node_bytes k) (nodes_bytes ks) (node_bytes end_entire ++ z))
        ∙ no_fault k (nodes_bytes ks ++ (node_bytes end_entire ++ z)) (All-head IsInner k ks inner).sound

-- what follows the whole nodes is what is left after their bytes
pub rest_after : (bytes rest : List ℕ) (ns : List Node) → BeginWith bytes ns rest → drop (length (nodes_bytes ns)) bytes ≡ rest
rest_after bytes rest ns begins = ap (drop (length (nodes_bytes ns))) begins.join ∙ drop_at (nodes_bytes ns) rest (length (nodes_bytes ns)) refl
