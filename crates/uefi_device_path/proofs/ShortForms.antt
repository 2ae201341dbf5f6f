-- Device paths beside others: what follows the first nodes, and where a short form's nodes stand.
use Rattle.std.proofs.Common.{◌≡◌, ◌≢◌, ◌∙◌, ap, sym, refl, subst, ℕ, ◌+◌, ◌-◌, ◌≤◌, List, [], ◌∷◌, ◌++◌, All, length, take, append_assoc, length-append, arith}
use Rattle.std.proofs.Common.{inl, inr}
use Rattle.std.proofs.Math.Nat.{eq-or-lt_of_le}
use Rattle.std.proofs.lemmas.Grind.{common_steps}
use Rattle.std.proofs.lemmas.List.{append-nil, take_at}
use Rattle.std.proofs.lemmas.List.Elements.{All-head, All-tail}
use Rattle.uefi_device_nodes.specs.Nodes.{IsInner, Node, end_entire, node_bytes}
use Rattle.uefi_device_path.specs.Matching.{Expands, IsExpansion, Names}
use Rattle.uefi_device_path.specs.Paths.{BeginWithPath, nodes_bytes, path_bytes}
use Rattle.uefi_device_path.proofs.Splits.{prefix_free}

-- the bytes of a path begin with one, and nothing follows
pub whole_path : (bytes : List ℕ) (ns : List Node) → All IsInner ns → bytes ≡ path_bytes ns → BeginWithPath bytes ns
whole_path bytes ns inner e =
    ([], record { inner = inner; join = e ∙ ap (λ k. nodes_bytes ns ++ k) (sym (append-nil (node_bytes end_entire))) })

-- the bytes before the end of a path are those of its nodes
pub front_of_path : (bytes : List ℕ) (ns : List Node) → bytes ≡ path_bytes ns → take (length bytes - 4) bytes ≡ nodes_bytes ns
front_of_path bytes ns e =
    let long : length bytes ≡ length (nodes_bytes ns) + 4 = ap length e ∙ length-append (nodes_bytes ns) (node_bytes end_entire) in
    ap (take (length bytes - 4)) e ∙ take_at (nodes_bytes ns) (node_bytes end_entire) (length bytes - 4) (omega (arith, long))

-- a path that begins with its end has no nodes
pub first_is_end : (bytes after : List ℕ) (ns : List Node) → All IsInner ns → bytes ≡ path_bytes ns
    → bytes ≡ node_bytes end_entire ++ after → ns ≡ []
first_is_end bytes after [] inner e f = refl
first_is_end bytes after (m ∷ ms) inner e f =
    let both = prefix_free end_entire m after (path_bytes ms) (sym f ∙ e ∙ append_assoc (node_bytes m) (nodes_bytes ms) (node_bytes end_entire)) in
    absurd ((All-head IsInner m ms inner).not_end (sym both.0))

-- after the first node of a path stands the path of the others
pub after_first_node : (bytes after : List ℕ) (ns : List Node) (n : Node) → All IsInner ns → bytes ≡ path_bytes ns
    → bytes ≡ node_bytes n ++ after → n ≢ end_entire
    → (ks : List Node) × (ns ≡ n ∷ ks) × (after ≡ path_bytes ks) × All IsInner ks
after_first_node bytes after [] n inner e f other =
    absurd (other (prefix_free n end_entire after [] (sym f ∙ e ∙ sym (append-nil (node_bytes end_entire)))).0)
after_first_node bytes after (m ∷ ms) n inner e f other =
    let both = prefix_free n m after (path_bytes ms) (sym f ∙ e ∙ append_assoc (node_bytes m) (nodes_bytes ms) (node_bytes end_entire)) in
    (ms, ap (λ k. k ∷ ms) (sym both.0), both.1, All-tail IsInner m ms inner)

-- after the nodes of another path stands the path of the others
pub after_nodes : (ns ms : List Node) (rest : List ℕ) → All IsInner ns → All IsInner ms → path_bytes ns ≡ nodes_bytes ms ++ rest
    → (ks : List Node) × (ns ≡ ms ++ ks) × (rest ≡ path_bytes ks) × All IsInner ks
after_nodes ns [] rest n_in m_in e = (ns, refl, sym e, n_in)
after_nodes [] (m ∷ ms) rest n_in m_in e =
    let both = prefix_free end_entire m [] (nodes_bytes ms ++ rest) (append-nil (node_bytes end_entire) ∙ e ∙ append_assoc (node_bytes m) (nodes_bytes ms) rest) in
    absurd ((All-head IsInner m ms m_in).not_end (sym both.0))
after_nodes (n ∷ ns) (m ∷ ms) rest n_in m_in e =
    let both = prefix_free n m (path_bytes ns) (nodes_bytes ms ++ rest)
    (sym (append_assoc (node_bytes n) (nodes_bytes ns) (node_bytes end_entire)) ∙ e ∙ append_assoc (node_bytes m) (nodes_bytes ms) rest) in
    let others = after_nodes ns ms rest (All-tail IsInner n ns n_in) (All-tail IsInner m ms m_in) both.1 in
    let first = both.0 in
    let same : (n ∷ ns) ≡ (m ∷ ms) ++ others.0 = ap (λ k. k ∷ ns) first ∙ ap (λ ks. m ∷ ks) others.1 in
    (others.0, same, others.2, others.3)

-- the bytes of a path that begins with nodes begin with theirs
pub bytes_of_both : (ns ms ks : List Node) → ns ≡ ms ++ ks → path_bytes ns ≡ nodes_bytes ms ++ path_bytes ks
bytes_of_both ns ms ks e =
    let split : nodes_bytes (ms ++ ks) ≡ nodes_bytes ms ++ nodes_bytes ks = grind (arith, common_steps) in
    ap path_bytes e ∙ ap (λ k. k ++ node_bytes end_entire) split ∙ append_assoc (nodes_bytes ms) (nodes_bytes ks) (node_bytes end_entire)

-- lists of one length before an element are equal where the wholes are, and so are the elements and the rests
same_place : (xs ys : List Node) (x y : Node) (r s : List Node) → length xs ≡ length ys → xs ++ x ∷ r ≡ ys ++ y ∷ s
    → (x ≡ y) × (r ≡ s)
same_place [] [] x y r s long e = (cc, cc)
same_place [] (b ∷ ys) x y r s long e = absurd (omega arith)
same_place (a ∷ xs) [] x y r s long e = absurd (omega arith)
same_place (a ∷ xs) (b ∷ ys) x y r s long e =
    let tails : xs ++ x ∷ r ≡ ys ++ y ∷ s = cc in
    same_place xs ys x y r s (omega arith) tails

-- a short form's nodes stand after no fewer nodes than were passed
abbrev pub NotBefore : List Node → List Node → List Node → Type 0
NotBefore nodes short passed =
    (before : List Node) (first node : Node) (rest : List Node) → Expands nodes short before first node rest → length passed ≤ length before

-- one more node was passed, at which they do not stand
pub pass_node : (nodes short passed after tail : List Node) (first node : Node) → short ≡ first ∷ tail
    → nodes ≡ passed ++ node ∷ after → ((after ≡ tail) → Names first node → ⊥) → NotBefore nodes short passed
    → NotBefore nodes short (passed ++ node ∷ [])
pass_node nodes short passed after tail first node is_short so_far other least before f n rest expands =
    let more : length (passed ++ node ∷ []) ≡ length passed + 1 = length-append passed (node ∷ []) in
    elim (eq-or-lt_of_le (least before f n rest expands)) [
      | inl long ↦
          let both = same_place passed before node n after rest long (sym so_far ∙ expands.nodes_are) in
          let heads : first ∷ tail ≡ f ∷ rest = sym is_short ∙ expands.short_is in
          let firsts : f ≡ first = cc in
          let tails : rest ≡ tail = cc in
          let named : Names first n = subst (λ (k : Node). Names k n) firsts expands.named in
          absurd (other (both.1 ∙ tails) (subst (λ (k : Node). Names first k) (sym both.0) named))
      | inr long ↦ omega (arith, more, long)
    ]

-- all nodes were passed, so they stand nowhere
pub passed_all : (nodes short passed : List Node) → nodes ≡ passed ++ [] → NotBefore nodes short passed → IsExpansion nodes short → ⊥
passed_all nodes short passed so_far least found =
    let expands = found.4 in
    let least_here = least found.0 found.1 found.2 found.3 expands in
    let long : length passed ≡ length nodes = ap length (sym (so_far ∙ append-nil passed)) in
    let split : length nodes ≡ length found.0 + length (found.2 ∷ found.3) =
    ap length expands.nodes_are ∙ length-append found.0 (found.2 ∷ found.3) in
    omega (arith, least_here, long, split)
