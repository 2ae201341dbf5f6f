-- Device paths that lie packed are split in one way.
use Rattle.std.proofs.Common.{◌≡◌, ◌≢◌, ◌∙◌, ap, sym, refl, subst, ℕ, ◌+◌, ◌≤◌, false, List, [], ◌∷◌, ◌++◌, ◌-◌, All, drop, length, take, append_assoc, length-append, inl, inr, arith}
use Rattle.std.proofs.lemmas.Bool.{cases_Bool}
use Rattle.std.proofs.lemmas.Grind.{common_steps}
use Rattle.std.proofs.lemmas.List.{take-append-drop}
use Rattle.std.proofs.lemmas.List.Elements.{All-head, All-tail, All-append, All-cons, All-nil}
use Rattle.uefi_device_nodes.specs.Nodes.{Node, IsInner, node_bytes, end_entire}
use Rattle.uefi_device_path.specs.Paths.{BeginWith, BeginWithPath, IsPath, nodes_bytes, nodes_in, path_bytes, without_end}
use Rattle.uefi_device_path.specs.PathLists.{ArePacked, ArePaths, BeginWithPaths, HasFirst, IsPathList, ListRefusedFor, is_end_entire, list_bytes, paths_among, paths_in}
use Rattle.uefi_device_path.specs.Faults.{RefusedFor}
use Rattle.uefi_device_path.specs.declared.errors.DevicePathError.{DevicePathError}
use Rattle.uefi_device_path.proofs.Splits.{Stops-end, begin_long, nodes_in-nodes_bytes, path_front, prefix_free, refused_no_path, refused_once, same_error, same_node, split_once}

-- no inner node is taken for one that ends a path
inner_goes_on : (n : Node) → IsInner n → is_end_entire n ≡ false
inner_goes_on n inner = elim (cases_Bool (is_end_entire n)) [
  | inl ends ↦
      let type_end : n.device_type ≡ 0x7f = grind (arith, common_steps) in
      let sub_end : n.sub_type ≡ 0xff = grind (arith, common_steps) in
      absurd (inner.not_end (same_node n.device_type 0x7f n.sub_type 0xff n.content [] type_end sub_end (inner.sound type_end).0))
  | inr other ↦ other
]

path_among : (path more : List Node) → All IsInner path → paths_among (path ++ end_entire ∷ more) ≡ path ∷ paths_among more
path_among [] more inner = refl
path_among (n ∷ path) more inner =
    let others = path_among path more (All-tail IsInner n path inner) in
    let on = inner_goes_on n (All-head IsInner n path inner) in
    rw (on, others) refl

-- the nodes of device paths, with those that end them
nodes_of_paths : List (List Node) → List Node
nodes_of_paths [] = []
nodes_of_paths (path ∷ paths) = path ++ end_entire ∷ nodes_of_paths paths

nodes_bytes-append : (ns ms : List Node) → nodes_bytes (ns ++ ms) ≡ nodes_bytes ns ++ nodes_bytes ms
nodes_bytes-append ns ms = grind (arith, common_steps)

list-nodes_bytes : (paths : List (List Node)) → list_bytes paths ≡ nodes_bytes (nodes_of_paths paths)
unfolding nodes_of_paths
list-nodes_bytes [] = refl
list-nodes_bytes (path ∷ paths) =
    append_assoc (nodes_bytes path) (node_bytes end_entire) (list_bytes paths)
    ∙ ap (λ bytes. nodes_bytes path ++ (node_bytes end_entire ++ bytes)) (list-nodes_bytes paths)
    ∙ sym (nodes_bytes-append path (end_entire ∷ nodes_of_paths paths))

among-nodes : (paths : List (List Node)) → ArePaths paths → paths_among (nodes_of_paths paths) ≡ paths
unfolding nodes_of_paths
among-nodes [] are = refl
among-nodes (path ∷ paths) are =
    path_among path (nodes_of_paths paths) (All-head (All IsInner) path paths are)
    ∙ ap (λ others. path ∷ others) (among-nodes paths (All-tail (All IsInner) path paths are))

-- what joins to bytes is what they are split into
pub paths_in-list_bytes : (paths : List (List Node)) → ArePaths paths → paths_in (list_bytes paths) ≡ paths
unfolding paths_in
paths_in-list_bytes paths are =
    ap (λ bytes. paths_among (nodes_in bytes)) (list-nodes_bytes paths)
    ∙ ap paths_among (nodes_in-nodes_bytes (nodes_of_paths paths)) ∙ among-nodes paths are

pub IsPathList-list_bytes : (paths : List (List Node)) (bytes : List ℕ) → ArePaths paths → paths ≢ [] → bytes ≡ list_bytes paths → IsPathList bytes
IsPathList-list_bytes paths bytes are some e =
    let shown : paths_in bytes ≡ paths = ap paths_in e ∙ paths_in-list_bytes paths are in
    record { packed = record { are_paths = rw shown are; join = e ∙ ap list_bytes (sym shown) }; some = rw shown some }

-- one more path
pub paths_more : (bytes : List ℕ) (paths : List (List Node)) (path : List Node) (rest after : List ℕ) → BeginWithPaths bytes paths rest
    → BeginWith rest path (node_bytes end_entire ++ after) → BeginWithPaths bytes (paths ++ path ∷ []) after
paths_more bytes paths path rest after begins next =
    let split : list_bytes (paths ++ path ∷ []) ≡ list_bytes paths ++ path_bytes path = grind (arith, common_steps) in
    let here : rest ≡ path_bytes path ++ after = next.join ∙ sym (append_assoc (nodes_bytes path) (node_bytes end_entire) after) in
    record {
      are_paths = All-append (All IsInner) paths (path ∷ []) begins.are_paths (All-cons (All IsInner) path [] next.inner (All-nil (All IsInner)));
      join = begins.join ∙ ap (λ k. list_bytes paths ++ k) here ∙ sym (append_assoc (list_bytes paths) (path_bytes path) after) ∙ ap (λ k. k ++ after) (sym split);
    }

pub paths_long : (bytes : List ℕ) (paths : List (List Node)) (rest : List ℕ) → BeginWithPaths bytes paths rest → length bytes ≡ length (list_bytes paths) + length rest
paths_long bytes paths rest begins = ap length begins.join ∙ length-append (list_bytes paths) rest

pub not_empty-push : (paths : List (List Node)) (path : List Node) → paths ++ path ∷ [] ≢ []
not_empty-push [] path e = absurd (cc)
not_empty-push (p ∷ paths) path e = absurd (cc)

path_split : (path : List Node) (others : List ℕ) → path_bytes path ++ others ≡ nodes_bytes path ++ (node_bytes end_entire ++ others)
path_split path others = append_assoc (nodes_bytes path) (node_bytes end_entire) others

-- where device paths are refused after some, no list of others is what they are
refused_apart : (ps ms : List (List Node)) (rest : List ℕ) (inside : DevicePathError) → ArePaths ps → ArePaths ms → RefusedFor rest inside
    → list_bytes ps ++ rest ≡ list_bytes ms → (rest ≡ []) × (ps ≡ ms)
refused_apart [] [] rest inside ps_are ms_are refused e = (e, refl)
refused_apart [] (m ∷ ms) rest inside ps_are ms_are refused e =
    absurd (refused_no_path rest inside refused m (list_bytes ms, record { inner = All-head (All IsInner) m ms ms_are; join = e ∙ path_split m (list_bytes ms) }))
refused_apart (p ∷ ps) [] rest inside ps_are ms_are refused e =
    let none : length ((path_bytes p ++ list_bytes ps) ++ rest) ≡ 0 = ap length e in
    absurd (omega (arith, none, length-append (path_bytes p ++ list_bytes ps) rest, length-append (path_bytes p) (list_bytes ps), length-append (nodes_bytes p) (node_bytes end_entire)))
refused_apart (p ∷ ps) (m ∷ ms) rest inside ps_are ms_are refused e =
    let left : (path_bytes p ++ list_bytes ps) ++ rest ≡ nodes_bytes p ++ (node_bytes end_entire ++ (list_bytes ps ++ rest)) =
    append_assoc (path_bytes p) (list_bytes ps) rest ∙ path_split p (list_bytes ps ++ rest) in
    let both = split_once p m (node_bytes end_entire ++ (list_bytes ps ++ rest)) (node_bytes end_entire ++ list_bytes ms)
    (All-head (All IsInner) p ps ps_are) (All-head (All IsInner) m ms ms_are) (Stops-end (list_bytes ps ++ rest)) (Stops-end (list_bytes ms))
    (sym left ∙ e ∙ path_split m (list_bytes ms)) in
    let tails : list_bytes ps ++ rest ≡ list_bytes ms = (prefix_free end_entire end_entire (list_bytes ps ++ rest) (list_bytes ms) both.1).1 in
    let others = refused_apart ps ms rest inside (All-tail (All IsInner) p ps ps_are) (All-tail (All IsInner) m ms ms_are) refused tails in
    (others.0, ap (λ k. k ∷ ps) both.0 ∙ ap (λ ks. m ∷ ks) others.1)

pub list_refused_no_paths : (bytes : List ℕ) (error : DevicePathError) → ListRefusedFor bytes error
    → (paths : List (List Node)) → ArePaths paths → paths ≢ [] → bytes ≡ list_bytes paths → ⊥
list_refused_no_paths bytes error refused paths are some e =
    let why = refused.3 in
    let both = refused_apart refused.0 paths refused.1 refused.2 why.begins.are_paths are why.refused (sym why.begins.join ∙ e) in
    some (sym both.1 ∙ why.more both.0)

pub ArePacked-list_bytes : (paths : List (List Node)) (bytes : List ℕ) → ArePaths paths → bytes ≡ list_bytes paths → ArePacked bytes
ArePacked-list_bytes paths bytes are e =
    let shown : paths_in bytes ≡ paths = ap paths_in e ∙ paths_in-list_bytes paths are in
    record { are_paths = rw shown are; join = e ∙ ap list_bytes (sym shown) }

pub paths_in-nil : (bytes : List ℕ) → length bytes ≡ 0 → paths_in bytes ≡ []
paths_in-nil [] none = paths_in-list_bytes [] (All-nil (All IsInner))
paths_in-nil (b ∷ bytes) none = absurd (omega arith)

-- where device paths are left bytes begin with one
pub first_path : (bytes : List ℕ) → ArePacked bytes → length bytes ≢ 0 → (nodes : List Node) × BeginWithPath bytes nodes
first_path bytes packed some = go (paths_in bytes) packed.are_paths packed.join
  where
    go : (paths : List (List Node)) → ArePaths paths → bytes ≡ list_bytes paths → (nodes : List Node) × BeginWithPath bytes nodes
    go [] are join = absurd (some (ap length join))
    go (path ∷ paths) are join =
        (path, (list_bytes paths, record { inner = All-head (All IsInner) path paths are; join = join ∙ path_split path (list_bytes paths) }))

-- the device paths of bytes that begin with one are that one and those of the rest
pub after_path : (bytes rest : List ℕ) (path : List Node) → ArePacked bytes → BeginWith bytes path (node_bytes end_entire ++ rest)
    → ArePacked rest × (paths_in bytes ≡ path ∷ paths_in rest)
after_path bytes rest path packed begins = go (paths_in bytes) packed.are_paths packed.join refl
  where
    go : (paths : List (List Node)) → ArePaths paths → bytes ≡ list_bytes paths → paths_in bytes ≡ paths
        → ArePacked rest × (paths_in bytes ≡ path ∷ paths_in rest)
    go [] are join same =
        let none : length (nodes_bytes path ++ (node_bytes end_entire ++ rest)) ≡ 0 = ap length (sym begins.join ∙ join) in
        absurd (omega (arith, none, length-append (nodes_bytes path) (node_bytes end_entire ++ rest)))
    go (other ∷ paths) are join same =
        let both = split_once path other (node_bytes end_entire ++ rest) (node_bytes end_entire ++ list_bytes paths)
        begins.inner (All-head (All IsInner) other paths are) (Stops-end rest) (Stops-end (list_bytes paths))
        (sym begins.join ∙ join ∙ path_split other (list_bytes paths)) in
        let tails : rest ≡ list_bytes paths = (prefix_free end_entire end_entire rest (list_bytes paths) both.1).1 in
        let paths_are = All-tail (All IsInner) other paths are in
        let shown : paths_in rest ≡ paths = ap paths_in tails ∙ paths_in-list_bytes paths paths_are in
        (ArePacked-list_bytes paths rest paths_are tails, same ∙ ap (λ k. k ∷ paths) (sym both.0) ∙ ap (λ ks. path ∷ ks) (sym shown))

-- bytes that begin with a device path have it up to the bytes after it
pub first_here : (bytes after : List ℕ) (path : List Node) → BeginWith bytes path (node_bytes end_entire ++ after)
    → HasFirst bytes (length bytes - length after)
first_here bytes after path begins =
    let rest = node_bytes end_entire ++ after in
    let long = begin_long bytes path rest begins in
    let cut : length rest ≡ 4 + length after = omega arith in
    let len : length bytes - length rest + 4 ≡ length bytes - length after = omega (arith, long, cut) in
    record { within = omega arith; is_path = subst (λ n. IsPath (take n bytes)) len (path_front bytes path rest after begins refl) }

-- device paths whose first has this length are that one and the others
pub first_split : (bytes : List ℕ) (n : ℕ) → ArePacked bytes → HasFirst bytes n
    → ArePacked (drop n bytes) × (paths_in bytes ≡ nodes_in (without_end (take n bytes)) ∷ paths_in (drop n bytes))
first_split bytes n packed first =
    let nodes = nodes_in (without_end (take n bytes)) in
    let path = first.is_path in
    let front : take n bytes ≡ path_bytes nodes = path.ends ∙ ap (λ k. k ++ node_bytes end_entire) path.nodes.join in
    let join = sym (take-append-drop n bytes) ∙ ap (λ k. k ++ drop n bytes) front ∙ path_split nodes (drop n bytes) in
    after_path bytes (drop n bytes) nodes packed (record { inner = path.nodes.inner; join = join })

pub few_paths : (paths : List (List Node)) → length paths ≤ length (list_bytes paths)
few_paths [] = omega arith
few_paths (path ∷ paths) =
    omega (arith, few_paths paths, length-append (path_bytes path) (list_bytes paths), length-append (nodes_bytes path) (node_bytes end_entire))

pub few-ArePacked : (bytes : List ℕ) → ArePacked bytes → length (paths_in bytes) ≤ length bytes
few-ArePacked bytes packed = subst (λ (k : List ℕ). length (paths_in bytes) ≤ length k) (sym packed.join) (few_paths (paths_in bytes))

-- a list with a path in it has bytes
pub no_path_bytes : (path : List Node) (paths : List (List Node)) → length (list_bytes (path ∷ paths)) ≡ 0 → ⊥
no_path_bytes path paths none =
    omega (arith, none, length-append (path_bytes path) (list_bytes paths), length-append (nodes_bytes path) (node_bytes end_entire))

-- there is one way to split bytes into device paths and a rest that is refused
refused_lists : (ps ms : List (List Node)) (x y : List ℕ) (e f : DevicePathError) → ArePaths ps → ArePaths ms → RefusedFor x e → RefusedFor y f
    → list_bytes ps ++ x ≡ list_bytes ms ++ y → (ps ≡ ms) × (x ≡ y)
refused_lists [] [] x y e f ps_are ms_are x_not y_not same = (refl, same)
refused_lists [] (m ∷ ms) x y e f ps_are ms_are x_not y_not same =
    absurd (refused_no_path x e x_not m (
      list_bytes ms ++ y,
      record {
        inner = All-head (All IsInner) m ms ms_are;
        join = same ∙ append_assoc (path_bytes m) (list_bytes ms) y ∙ path_split m (list_bytes ms ++ y);
      },
    ))
refused_lists (p ∷ ps) [] x y e f ps_are ms_are x_not y_not same =
    absurd (refused_no_path y f y_not p (
      list_bytes ps ++ x,
      record {
        inner = All-head (All IsInner) p ps ps_are;
        join = sym same ∙ append_assoc (path_bytes p) (list_bytes ps) x ∙ path_split p (list_bytes ps ++ x);
      },
    ))
refused_lists (p ∷ ps) (m ∷ ms) x y e f ps_are ms_are x_not y_not same =
    let left : (path_bytes p ++ list_bytes ps) ++ x ≡ nodes_bytes p ++ (node_bytes end_entire ++ (list_bytes ps ++ x)) =
    append_assoc (path_bytes p) (list_bytes ps) x ∙ path_split p (list_bytes ps ++ x) in
    let right : (path_bytes m ++ list_bytes ms) ++ y ≡ nodes_bytes m ++ (node_bytes end_entire ++ (list_bytes ms ++ y)) =
    append_assoc (path_bytes m) (list_bytes ms) y ∙ path_split m (list_bytes ms ++ y) in
    let both = split_once p m (node_bytes end_entire ++ (list_bytes ps ++ x)) (node_bytes end_entire ++ (list_bytes ms ++ y))
    (All-head (All IsInner) p ps ps_are) (All-head (All IsInner) m ms ms_are) (Stops-end (list_bytes ps ++ x)) (Stops-end (list_bytes ms ++ y))
    (sym left ∙ same ∙ right) in
    let tails = (prefix_free end_entire end_entire (list_bytes ps ++ x) (list_bytes ms ++ y) both.1).1 in
    let others = refused_lists ps ms x y e f (All-tail (All IsInner) p ps ps_are) (All-tail (All IsInner) m ms ms_are) x_not y_not tails in
    (ap (λ k. k ∷ ps) both.0 ∙ ap (λ ks. m ∷ ks) others.0, others.1)

-- device paths are refused for one error at most
pub list_refused_once : (bytes : List ℕ) (e f : DevicePathError) → ListRefusedFor bytes e → ListRefusedFor bytes f → f ≡ e
list_refused_once bytes e f one other =
    let why = one.3 in
    let why_too = other.3 in
    let both = refused_lists one.0 other.0 one.1 other.1 one.2 other.2 why.begins.are_paths why_too.begins.are_paths why.refused why_too.refused
    (sym why.begins.join ∙ why_too.begins.join) in
    let moved = subst (λ (k : List ℕ). RefusedFor k other.2) (sym both.1) why_too.refused in
    let inside : other.2 ≡ one.2 = refused_once one.1 one.2 other.2 why.refused moved in
    let causes : f.cause ≡ e.cause = why_too.cause ∙ ap (λ k. k.cause) inside ∙ sym why.cause in
    let places : other.2.offset ≡ one.2.offset = ap (λ k. k.offset) inside in
    let long : length (list_bytes other.0) ≡ length (list_bytes one.0) = ap (λ k. length (list_bytes k)) (sym both.0) in
    let offsets : f.offset ≡ e.offset = omega (arith, why.offset, why_too.offset, places, long) in
    same_error f.cause e.cause f.offset e.offset causes offsets
