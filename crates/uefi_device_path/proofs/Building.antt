-- A device path that grows.
use borrow.Rule.Slice.PartMut.{put_mid}
use Rattle.std.proofs.Common.{◌≡◌, ◌∙◌, ap, sym, subst, refl, ℕ, ◌+◌, ◌-◌, ◌≤◌, take, drop, length-append, List, [], ◌∷◌, ◌++◌, All, Option, None, Result, Ok, Err, length, append_assoc, arith}
use Rattle.std.proofs.lemmas.Grind.{common_steps}
use Rattle.std.proofs.lemmas.Bool.{le-ltb}
use Rattle.std.proofs.lemmas.List.{append-nil, take-append-drop, take-take, take_at}
use Rattle.std.proofs.lemmas.Slice.{drop-put_mid, take-put_mid}
use Rattle.std.proofs.lemmas.List.Elements.{All-append, All-cons, All-nil}
use Rattle.std.specs.Option.{option_map}
use Rattle.std.specs.Prelude.{false, nat_lt, IfOk, OnErr}
use Rattle.std.specs.Result.{result_err, result_map_both}
use Rattle.uefi_device_nodes.specs.Nodes.{Node, IsInner, node_bytes, node_length, end_entire}
use Rattle.uefi_device_path.specs.Paths.{BeginWithPath, IsPath, nodes_bytes, nodes_in, path_bytes, without_end}
use Rattle.uefi_device_path.specs.Building.{build_refusal}
use Rattle.uefi_device_path.specs.NodeSinks.{Holds, nodes_up_to}
use Rattle.uefi_device_path.specs.PushedPaths.{Leaves, bytes_unless}
use Rattle.uefi_device_path.proofs.ShortForms.{bytes_of_both}
use Rattle.uefi_device_path.proofs.Splits.{IsPath-path_bytes}

-- a node that is not refused may stand before the end
pub unrefused_inner : (node : Node) → build_refusal node ≡ None → IsInner node
unrefused_inner node unrefused = record {
  sound = λ is_end. (empty_content node.content (grind (arith, common_steps)), λ other. absurd (other (grind (arith, common_steps))));
  not_end = λ same.
      let type_end : node.device_type ≡ 0x7f = ap (λ n. n.device_type) same in
      let sub_end : node.sub_type ≡ 0xff = ap (λ n. n.sub_type) same in
      grind (arith, common_steps);
}
  where
    empty_content : (content : List ℕ) → length content ≡ 0 → content ≡ []
    empty_content [] none = refl
    empty_content (b ∷ bytes) none = absurd (omega arith)

pub path_empty : (bytes : List ℕ) → bytes ≡ node_bytes end_entire → IsPath bytes × (nodes_in (without_end bytes) ≡ [])
path_empty bytes e = IsPath-path_bytes [] bytes (All-nil IsInner) e

-- a path has the bytes of its end
path_long : (bytes : List ℕ) → IsPath bytes → 4 ≤ length bytes
path_long bytes path =
    let long = ap length path.ends in
    omega (arith, long, length-append (without_end bytes) (node_bytes end_entire))

-- the bytes of a path with the nodes of another one
pub path_appended : (bytes grown added : List ℕ) (others : List Node) → IsPath bytes → All IsInner others
    → added ≡ path_bytes others → grown ≡ without_end bytes ++ added
    → IsPath grown × (nodes_in (without_end grown) ≡ nodes_in (without_end bytes) ++ others)
path_appended bytes grown added others path inner is e =
    let ns = nodes_in (without_end bytes) in
    let whole : grown ≡ path_bytes (ns ++ others) =
    e ∙ ap (λ k. k ++ added) path.nodes.join ∙ ap (λ k. nodes_bytes ns ++ k) is ∙ sym (bytes_of_both (ns ++ others) ns others refl) in
    IsPath-path_bytes (ns ++ others) grown (All-append IsInner ns others path.nodes.inner inner) whole

-- the same of one node
pub one_node : (node : Node) → path_bytes (node ∷ []) ≡ node_bytes node ++ node_bytes end_entire
one_node node = ap (λ us. us ++ node_bytes end_entire) (append-nil (node_bytes node))

one_inner : (node : Node) → build_refusal node ≡ None → All IsInner (node ∷ [])
one_inner node unrefused = All-cons IsInner node [] (unrefused_inner node unrefused) (All-nil IsInner)

pub path_grown : (bytes grown : List ℕ) (node : Node) → IsPath bytes → build_refusal node ≡ None
    → grown ≡ without_end bytes ++ (node_bytes node ++ node_bytes end_entire)
    → IsPath grown × (nodes_in (without_end grown) ≡ nodes_in (without_end bytes) ++ node ∷ [])
path_grown bytes grown node path unrefused e =
    path_appended bytes grown _ (node ∷ []) path (one_inner node unrefused) (sym (one_node node)) e

-- the same at the start of a buffer, where they are written over the end of the path
pub path_appended_in : (old added : List ℕ) (others : List Node) (len k end : ℕ) → len ≤ length old
    → IsPath (take len old) → All IsInner others → added ≡ path_bytes others → end ≡ len + (length added - 4) → length added ≡ k
    → end ≤ length old → Holds old (nodes_up_to len old ++ others) (put_mid (len - 4) k old added) end
path_appended_in old added others len k end within path inner is ends count room =
    let long : length (take len old) ≡ len = grind (arith, common_steps) in
    let least = path_long (take len old) path in
    let four : 4 ≤ len = omega (arith, long, least) in
    let size : length added ≡ length (nodes_bytes others) + 4 = ap length is ∙ length-append (nodes_bytes others) (node_bytes end_entire) in
    let front : without_end (take len old) ≡ take (len - 4) old =
    ap (λ n. take (n - 4) (take len old)) long ∙ take-take (len - 4) len old (omega arith) in
    let grown : take end (put_mid (len - 4) k old added) ≡ without_end (take len old) ++ added =
    take-put_mid (len - 4) k old added end (omega (arith, ends, size, four)) (omega (arith, within)) ∙ ap (λ us. us ++ added) (sym front) in
    let start : length (take (len - 4) old) ≡ len - 4 = grind (arith, common_steps) in
    let left : length (drop k (drop (len - 4) old)) ≡ length old - (len - 4) - k = grind (arith, common_steps) in
    let same : length (put_mid (len - 4) k old added) ≡ length old = omega (
      arith,
      length-append (take (len - 4) old) (added ++ drop k (drop (len - 4) old)),
      length-append added (drop k (drop (len - 4) old)),
      start,
      left,
      count,
      size,
      ends,
      four,
      room,
    ) in
    let both = path_appended (take len old) _ added others path inner is grown in
    record {
      within = omega (arith, same, room);
      path = both.0;
      shown = both.1;
      same = same;
      rest = drop-put_mid (len - 4) k old added end (omega (arith, count, ends, size, four)) (omega (arith, within)) count;
    }

pub path_grown_in : (old places : List ℕ) (node : Node) (len k end : ℕ) → len ≤ length old → IsPath (take len old)
    → build_refusal node ≡ None → places ≡ node_bytes node ++ node_bytes end_entire → end ≡ len + node_length node → length places ≡ k
    → end ≤ length old → Holds old (nodes_up_to len old ++ node ∷ []) (put_mid (len - 4) k old places) end
path_grown_in old places node len k end within path unrefused put ends count room =
    path_appended_in old places (node ∷ []) len k end within path (one_inner node unrefused) (put ∙ sym (one_node node))
    (omega (arith, ends, ap length put, length-append node.content (node_bytes end_entire))) count room

-- the path that bytes begin with is their first bytes
pub path_in_front : (bytes : List ℕ) (ns : List Node) (len : ℕ) → BeginWithPath bytes ns → len ≡ length (path_bytes ns)
    → IsPath (take len bytes) × (nodes_in (without_end (take len bytes)) ≡ ns)
path_in_front bytes ns len begins e =
    let whole : bytes ≡ path_bytes ns ++ begins.0 = begins.1.join ∙ sym (append_assoc (nodes_bytes ns) (node_bytes end_entire) begins.0) in
    let front : take len bytes ≡ path_bytes ns = ap (take len) whole ∙ take_at (path_bytes ns) begins.0 len (sym e) in
    IsPath-path_bytes ns (take len bytes) begins.1.inner front

-- the first bytes of a buffer that are the path of nodes are its bytes
pub front_is_path : (bytes : List ℕ) (ns : List Node) (len : ℕ) → IsPath (take len bytes) → nodes_in (without_end (take len bytes)) ≡ ns
    → take len bytes ≡ path_bytes ns
front_is_path bytes ns len path shown =
    path.ends ∙ ap (λ k. k ++ node_bytes end_entire) (path.nodes.join ∙ ap nodes_bytes shown)

pub len_of_path : (bytes : List ℕ) (ns : List Node) (len : ℕ) → IsPath (take len bytes) → nodes_in (without_end (take len bytes)) ≡ ns
    → len ≤ length bytes → len ≡ length (path_bytes ns)
len_of_path bytes ns len path shown within =
    let front = front_is_path bytes ns len path shown in
    let long : length (take len bytes) ≡ len = grind (arith, common_steps) in
    sym long ∙ ap length front

-- a call that returns the number of bytes of a path in a buffer, or an error, leaves what it says
pub held_leaves : {E F : Type 0} (error : E → F) (fault : Option E) (old new : List ℕ) (ns : List Node) (given : Result ℕ E)
    → result_err given ≡ fault → IfOk given (λ end. Holds old ns new end) → OnErr given (new ≡ old)
    → Leaves (bytes_unless (option_map error fault) (path_bytes ns)) old (result_map_both (λ (n : ℕ). n) error given) new
held_leaves {E} error fault old new ns (Ok len) is held same =
    let long : len ≡ length (path_bytes ns) = len_of_path new ns len held.path held.shown held.within in
    let fits : nat_lt (length old) (length (path_bytes ns)) ≡ false = le-ltb (length old) (length (path_bytes ns)) (omega (arith, long, held.within, held.same)) in
    let whole : new ≡ path_bytes ns ++ drop (length (path_bytes ns)) old =
    sym (take-append-drop len new) ∙ ap (λ k. k ++ drop len new) (front_is_path new ns len held.path held.shown)
    ∙ ap (λ k. path_bytes ns ++ k) held.rest ∙ ap (λ n. path_bytes ns ++ drop n old) long in
    subst (λ (f : Option E). Leaves (bytes_unless (option_map error f) (path_bytes ns)) old (Ok len) new) is
    (ap (λ (n : ℕ). Ok n) long, rw fits whole)
held_leaves {E} error fault old new ns (Err e) is held same =
    subst (λ (f : Option E). Leaves (bytes_unless (option_map error f) (path_bytes ns)) old (Err (error e)) new) is (refl, same)
