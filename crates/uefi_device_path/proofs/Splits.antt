-- Bytes begin with one node at most, so they are split into nodes in one way.
use Rattle.std.proofs.Common.{◌≡◌, ◌≢◌, ◌∙◌, ap, sym, refl, subst, ℕ, zero, suc, ◌+◌, ◌-◌, ◌/◌, ◌%◌, ◌≤◌, List, [], ◌∷◌, ◌++◌, All, None, Some, length, take, drop, append_assoc, length-append, arith}
use Rattle.std.proofs.lemmas.Grind.{common_steps}
use Rattle.std.proofs.lemmas.List.{take_at, drop_at}
use Rattle.std.proofs.lemmas.List.Elements.{All-head, All-tail, All-append, All-cons, All-nil}
use Rattle.uefi_device_nodes.specs.Nodes.{Node, IsInner, IsSound, node_bytes, node_length, end_entire, first_node, stated_length}
use Rattle.uefi_device_path.specs.Paths.{AreNodes, BeginWith, BeginWithPath, IsPath, nodes_bytes, nodes_in, nodes_within, path_bytes, without_end}
use Rattle.uefi_device_path.specs.declared.errors.DevicePathError.{DevicePathError}
use Rattle.uefi_device_nodes.specs.declared.errors.NodeError.{NodeError}
use Rattle.uefi_device_nodes.specs.NodeFaults.{fault_place, node_fault}
use Rattle.uefi_device_path.specs.Faults.{RefusedFor}

-- lists of one length at the front are equal where the wholes are
pub front_same : (a b x y : List ℕ) → length a ≡ length b → a ++ x ≡ b ++ y → (a ≡ b) × (x ≡ y)
front_same a b x y long e =
    let front : a ≡ b = sym (take_at a x (length a) refl) ∙ ap (take (length a)) e ∙ take_at b y (length a) (sym long) in
    let back : x ≡ y = sym (drop_at a x (length a) refl) ∙ ap (drop (length a)) e ∙ drop_at b y (length a) (sym long) in
    (front, back)

-- nodes of the same parts are the same
pub same_node : (t u s v : ℕ) (c d : List ℕ) → t ≡ u → s ≡ v → c ≡ d
    → (let n : Node = record { device_type = t; sub_type = s; content = c } in n)
    ≡ (let m : Node = record { device_type = u; sub_type = v; content = d } in m)
same_node t u s v c d types subs contents = cc

pub same_error : (r s : NodeError) (m n : ℕ) → r ≡ s → m ≡ n
    → (let e : DevicePathError = record { cause = r; offset = m } in e)
    ≡ (let f : DevicePathError = record { cause = s; offset = n } in f)
same_error r s m n reasons offsets = cc

-- no node's bytes begin another's
pub prefix_free : (n m : Node) (x y : List ℕ) → node_bytes n ++ x ≡ node_bytes m ++ y → (n ≡ m) × (x ≡ y)
prefix_free n m x y e =
    let low : node_length n % 256 ≡ node_length m % 256 = cc in
    let high : node_length n / 256 ≡ node_length m / 256 = cc in
    let long : length n.content ≡ length m.content = omega arith in
    let tails : n.content ++ x ≡ m.content ++ y = cc in
    let both = front_same n.content m.content x y long tails in
    let kinds : n.device_type ≡ m.device_type = cc in
    let subs : n.sub_type ≡ m.sub_type = cc in
    let same : n ≡ m = same_node n.device_type m.device_type n.sub_type m.sub_type n.content m.content kinds subs both.0 in
    (same, both.1)

-- the bytes of a node state its length
pub stated-node_bytes : (n : Node) (x : List ℕ) → stated_length (node_bytes n ++ x) ≡ node_length n
stated-node_bytes n x = omega arith

pub first-node_bytes : (n : Node) (x : List ℕ) → first_node (node_bytes n ++ x) ≡ n
first-node_bytes n x =
    let stated = stated-node_bytes n x in
    let long : length (node_bytes n) ≡ node_length n = omega arith in
    let front : take (stated_length (node_bytes n ++ x)) (node_bytes n ++ x) ≡ node_bytes n = take_at (node_bytes n) x (stated_length (node_bytes n ++ x)) (long ∙ sym stated) in
    let content : (first_node (node_bytes n ++ x)).content ≡ n.content = ap (drop 4) front in
    ap (λ (c : List ℕ). record { device_type = n.device_type; sub_type = n.sub_type; content = c }) content

pub rest-node_bytes : (n : Node) (x : List ℕ) → drop (stated_length (node_bytes n ++ x)) (node_bytes n ++ x) ≡ x
rest-node_bytes n x =
    let stated = stated-node_bytes n x in
    let long : length (node_bytes n) ≡ node_length n = omega arith in
    drop_at (node_bytes n) x (stated_length (node_bytes n ++ x)) (long ∙ sym stated)

-- where a node begins there is no fault
pub no_fault : (n : Node) (x : List ℕ) → IsSound n → node_fault (node_bytes n ++ x) ≡ None
no_fault n x sound =
    let stated = stated-node_bytes n x in
    let long : length (n.content ++ x) ≡ length n.content + length x = length-append n.content x in
    grind (arith, common_steps)

-- no node that may stand before the end begins here
abbrev pub Stops : List ℕ → Type 0
Stops bytes = (node : Node) (rest : List ℕ) → IsInner node → bytes ≡ node_bytes node ++ rest → ⊥

pub Stops-end : (rest : List ℕ) → Stops (node_bytes end_entire ++ rest)
Stops-end rest node other inner e = inner.not_end (sym (prefix_free end_entire node rest other e).0)

pub Stops-fault : (rest : List ℕ) → node_fault rest ≢ None → Stops rest
Stops-fault rest fault node other inner e = fault (ap node_fault e ∙ no_fault node other inner.sound)

nodes_bytes-cons : (n : Node) (ns : List Node) (x : List ℕ) → nodes_bytes (n ∷ ns) ++ x ≡ node_bytes n ++ (nodes_bytes ns ++ x)
nodes_bytes-cons n ns x = append_assoc (node_bytes n) (nodes_bytes ns) x

-- there is one way to split bytes into nodes and a rest at which none begins
pub split_once : (ns ms : List Node) (x y : List ℕ) → All IsInner ns → All IsInner ms → Stops x → Stops y
    → nodes_bytes ns ++ x ≡ nodes_bytes ms ++ y → (ns ≡ ms) × (x ≡ y)
split_once [] [] x y n_in m_in sx sy e = (refl, e)
split_once [] (m ∷ ms) x y n_in m_in sx sy e = absurd (sx m (nodes_bytes ms ++ y) (All-head IsInner m ms m_in) (e ∙ nodes_bytes-cons m ms y))
split_once (n ∷ ns) [] x y n_in m_in sx sy e = absurd (sy n (nodes_bytes ns ++ x) (All-head IsInner n ns n_in) (sym e ∙ nodes_bytes-cons n ns x))
split_once (n ∷ ns) (m ∷ ms) x y n_in m_in sx sy e =
    let both = prefix_free n m (nodes_bytes ns ++ x) (nodes_bytes ms ++ y) (sym (nodes_bytes-cons n ns x) ∙ e ∙ nodes_bytes-cons m ms y) in
    let others = split_once ns ms x y (All-tail IsInner n ns n_in) (All-tail IsInner m ms m_in) sx sy both.1 in
    let first = both.0 in
    let rest = others.0 in
    let same : (n ∷ ns) ≡ (m ∷ ms) = cc in
    (same, others.1)

within-nodes_bytes : (count : ℕ) (ns : List Node) → length ns ≤ count → nodes_within count (nodes_bytes ns) ≡ ns
within-nodes_bytes zero [] few = refl
within-nodes_bytes (suc count) [] few = refl
within-nodes_bytes zero (n ∷ ns) few = absurd (omega arith)
within-nodes_bytes (suc count) (n ∷ ns) few =
    let first = first-node_bytes n (nodes_bytes ns) in
    let rest = rest-node_bytes n (nodes_bytes ns) in
    let others = within-nodes_bytes count ns (omega arith) in
    ap (λ m. m ∷ nodes_within count (drop (stated_length (node_bytes n ++ nodes_bytes ns)) (node_bytes n ++ nodes_bytes ns))) first
    ∙ ap (λ bytes. n ∷ nodes_within count bytes) rest ∙ ap (λ ms. n ∷ ms) others

pub few_nodes : (ns : List Node) → length ns ≤ length (nodes_bytes ns)
few_nodes [] = omega arith
few_nodes (n ∷ ns) =
    let others = few_nodes ns in
    let long : length (n.content ++ nodes_bytes ns) ≡ length n.content + length (nodes_bytes ns) = length-append n.content (nodes_bytes ns) in
    omega arith

-- what joins to bytes is what they are split into
pub nodes_in-nodes_bytes : (ns : List Node) → nodes_in (nodes_bytes ns) ≡ ns
unfolding nodes_in
nodes_in-nodes_bytes ns = within-nodes_bytes (length (nodes_bytes ns)) ns (few_nodes ns)

pub AreNodes-nodes_bytes : (ns : List Node) (bytes : List ℕ) → All IsInner ns → bytes ≡ nodes_bytes ns → AreNodes bytes
AreNodes-nodes_bytes ns bytes inner e =
    let nodes : nodes_in bytes ≡ ns = ap nodes_in e ∙ nodes_in-nodes_bytes ns in
    record { inner = rw nodes inner; join = e ∙ ap nodes_bytes (sym nodes) }

-- the nodes of bytes that begin with one are that one and those of the rest
pub after_first : (bytes rest : List ℕ) (n : Node) → AreNodes bytes → bytes ≡ node_bytes n ++ rest
    → AreNodes rest × (nodes_in bytes ≡ n ∷ nodes_in rest)
after_first bytes rest n are e = go (nodes_in bytes) are.inner are.join refl
  where
    go : (ns : List Node) → All IsInner ns → bytes ≡ nodes_bytes ns → nodes_in bytes ≡ ns
        → AreNodes rest × (nodes_in bytes ≡ n ∷ nodes_in rest)
    go [] inner join same = absurd (cc)
    go (m ∷ ms) inner join same =
        let both = prefix_free n m rest (nodes_bytes ms) (sym e ∙ join) in
        let others = AreNodes-nodes_bytes ms rest (All-tail IsInner m ms inner) both.1 in
        let shown : nodes_in rest ≡ ms = ap nodes_in both.1 ∙ nodes_in-nodes_bytes ms in
        (others, same ∙ ap (λ k. k ∷ ms) (sym both.0) ∙ ap (λ ks. n ∷ ks) (sym shown))

-- a node begins where nodes are left
pub no_fault-AreNodes : (bytes : List ℕ) → AreNodes bytes → length bytes ≢ 0 → node_fault bytes ≡ None
no_fault-AreNodes bytes are some = go (nodes_in bytes) are.inner are.join
  where
    go : (ns : List Node) → All IsInner ns → bytes ≡ nodes_bytes ns → node_fault bytes ≡ None
    go [] inner join = absurd (some (ap length join))
    go (m ∷ ms) inner join = ap node_fault join ∙ no_fault m (nodes_bytes ms) (All-head IsInner m ms inner).sound

pub nodes_in-nil : (bytes : List ℕ) → length bytes ≡ 0 → nodes_in bytes ≡ []
unfolding nodes_in
nodes_in-nil [] none = refl
nodes_in-nil (b ∷ bytes) none = absurd (omega arith)

pub few-AreNodes : (bytes : List ℕ) → AreNodes bytes → length (nodes_in bytes) ≤ length bytes
few-AreNodes bytes are = subst (λ (k : List ℕ). length (nodes_in bytes) ≤ length k) (sym are.join) (few_nodes (nodes_in bytes))

-- one more node
pub begin_more : (bytes : List ℕ) (ns : List Node) (n : Node) (rest after : List ℕ) → BeginWith bytes ns rest
    → rest ≡ node_bytes n ++ after → IsInner n → BeginWith bytes (ns ++ n ∷ []) after
begin_more bytes ns n rest after begins e inner =
    let split : nodes_bytes (ns ++ n ∷ []) ≡ nodes_bytes ns ++ node_bytes n = grind (arith, common_steps) in
    record {
      inner = All-append IsInner ns (n ∷ []) begins.inner (All-cons IsInner n [] inner (All-nil IsInner));
      join = begins.join ∙ ap (λ k. nodes_bytes ns ++ k) e ∙ sym (append_assoc (nodes_bytes ns) (node_bytes n) after) ∙ ap (λ k. k ++ after) (sym split);
    }

pub begin_long : (bytes : List ℕ) (ns : List Node) (rest : List ℕ) → BeginWith bytes ns rest → length bytes ≡ length (nodes_bytes ns) + length rest
begin_long bytes ns rest begins = ap length begins.join ∙ length-append (nodes_bytes ns) rest

-- the bytes of a device path are one, and show its nodes
pub IsPath-path_bytes : (ns : List Node) (bytes : List ℕ) → All IsInner ns → bytes ≡ path_bytes ns
    → IsPath bytes × (nodes_in (without_end bytes) ≡ ns)
IsPath-path_bytes ns bytes inner e =
    let long : length bytes ≡ length (nodes_bytes ns) + 4 = ap length e ∙ length-append (nodes_bytes ns) (node_bytes end_entire) in
    let both = length-append (nodes_bytes ns) (node_bytes end_entire) in
    let place = length (path_bytes ns) - 4 in
    let cut = take_at (nodes_bytes ns) (node_bytes end_entire) place (omega (arith, both)) in
    let front : without_end bytes ≡ nodes_bytes ns = ap without_end e ∙ cut in
    let shown : nodes_in (without_end bytes) ≡ ns = ap nodes_in front ∙ nodes_in-nodes_bytes ns in
    (record { nodes = AreNodes-nodes_bytes ns (without_end bytes) inner front; ends = e ∙ ap (λ k. k ++ node_bytes end_entire) (sym front) }, shown)

-- bytes up to the end of the path are a path
pub path_front : (bytes : List ℕ) (ns : List Node) (rest after : List ℕ) → BeginWith bytes ns rest
    → rest ≡ node_bytes end_entire ++ after → IsPath (take (length bytes - length rest + 4) bytes)
path_front bytes ns rest after begins e =
    let long : length bytes ≡ length (nodes_bytes ns) + length rest = begin_long bytes ns rest begins in
    let path_long : length (path_bytes ns) ≡ length (nodes_bytes ns) + 4 = length-append (nodes_bytes ns) (node_bytes end_entire) in
    let whole : bytes ≡ path_bytes ns ++ after = begins.join ∙ ap (λ k. nodes_bytes ns ++ k) e ∙ sym (append_assoc (nodes_bytes ns) (node_bytes end_entire) after) in
    let count : length (path_bytes ns) ≡ length bytes - length rest + 4 = omega arith in
    let front : take (length bytes - length rest + 4) bytes ≡ path_bytes ns =
    ap (take (length bytes - length rest + 4)) whole ∙ take_at (path_bytes ns) after (length bytes - length rest + 4) count in
    (IsPath-path_bytes ns _ begins.inner front).0

-- bytes do not begin with a device path where they are refused
pub refused_no_path : (bytes : List ℕ) (error : DevicePathError) → RefusedFor bytes error
    → (nodes : List Node) → BeginWithPath bytes nodes → ⊥
refused_no_path bytes error refused nodes path =
    let why = refused.2 in
    let rest = refused.1 in
    let fails : node_fault rest ≢ None = λ none. absurd (cc (why.cause, none)) in
    let both = split_once refused.0 nodes rest (node_bytes end_entire ++ path.0) why.begins.inner path.1.inner (Stops-fault rest fails) (Stops-end path.0) (sym why.begins.join ∙ path.1.join) in
    let sound : node_fault rest ≡ None = ap node_fault both.1 ∙ no_fault end_entire path.0 (λ _. (refl, λ _. refl)) in
    fails sound

-- bytes begin with one device path at most, and one rest
pub path_split_once : (bytes : List ℕ) (ns ms : List Node) (x y : List ℕ) → BeginWith bytes ns (node_bytes end_entire ++ x)
    → BeginWith bytes ms (node_bytes end_entire ++ y) → (ns ≡ ms) × (x ≡ y)
path_split_once bytes ns ms x y one other =
    let both = split_once ns ms (node_bytes end_entire ++ x) (node_bytes end_entire ++ y) one.inner other.inner (Stops-end x) (Stops-end y) (sym one.join ∙ other.join) in
    (both.0, (prefix_free end_entire end_entire x y both.1).1)

-- bytes begin with one device path at most
pub path_once : (bytes : List ℕ) (ns ms : List Node) → BeginWithPath bytes ns → BeginWithPath bytes ms → ns ≡ ms
path_once bytes ns ms one other =
    (path_split_once bytes ns ms one.0 other.0 one.1 other.1).0

-- bytes are refused for one error at most
pub refused_once : (bytes : List ℕ) (e f : DevicePathError) → RefusedFor bytes e → RefusedFor bytes f → f ≡ e
refused_once bytes e f one other =
    let fails : node_fault one.1 ≢ None = λ none. absurd (cc (one.2.cause, none)) in
    let fails_too : node_fault other.1 ≢ None = λ none. absurd (cc (other.2.cause, none)) in
    let both = split_once one.0 other.0 one.1 other.1 one.2.begins.inner other.2.begins.inner (Stops-fault one.1 fails) (Stops-fault other.1 fails_too) (sym one.2.begins.join ∙ other.2.begins.join) in
    let reasons : Some f.cause ≡ Some e.cause = sym other.2.cause ∙ ap node_fault (sym both.1) ∙ one.2.cause in
    let reason : f.cause ≡ e.cause = cc in
    let place : fault_place f.cause ≡ fault_place e.cause = ap fault_place reason in
    let long : length (nodes_bytes other.0) ≡ length (nodes_bytes one.0) = ap (λ ns. length (nodes_bytes ns)) (sym both.0) in
    let offset : f.offset ≡ e.offset = omega (arith, other.2.offset, one.2.offset, place, long) in
    same_error f.cause e.cause f.offset e.offset reason offset

-- a node stands where a path begins
pub path_no_fault : (rest : List ℕ) (ms : List Node) → BeginWithPath rest ms → node_fault rest ≡ None
path_no_fault rest [] begins = ap node_fault begins.1.join ∙ no_fault end_entire begins.0 (λ _. (refl, λ _. refl))
path_no_fault rest (m ∷ ms) begins =
    ap node_fault (begins.1.join ∙ append_assoc (node_bytes m) (nodes_bytes ms) (node_bytes end_entire ++ begins.0))
    ∙ no_fault m (nodes_bytes ms ++ (node_bytes end_entire ++ begins.0)) (All-head IsInner m ms begins.1.inner).sound

-- and where it does not end the path, the others begin after it
pub path_step : (rest after : List ℕ) (node : Node) (ms : List Node) → BeginWithPath rest ms → rest ≡ node_bytes node ++ after
    → node ≢ end_entire → IsInner node × ((ks : List Node) × (ms ≡ node ∷ ks) × BeginWithPath after ks)
path_step rest after node [] begins e other =
    absurd (other (prefix_free node end_entire after begins.0 (sym e ∙ begins.1.join)).0)
path_step rest after node (m ∷ ms) begins e other =
    let more = nodes_bytes ms ++ (node_bytes end_entire ++ begins.0) in
    let both = prefix_free node m after more
    (sym e ∙ begins.1.join ∙ append_assoc (node_bytes m) (nodes_bytes ms) (node_bytes end_entire ++ begins.0)) in (
      subst IsInner (sym both.0) (All-head IsInner m ms begins.1.inner),
      (ms, ap (λ n. n ∷ ms) (sym both.0), (begins.0, record { inner = All-tail IsInner m ms begins.1.inner; join = both.1 })),
    )
