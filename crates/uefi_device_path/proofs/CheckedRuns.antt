-- What is checked of bytes: the nodes of a path, or those before a fault and that fault.
use Rattle.std.proofs.Common.{◌≡◌, ◌≢◌, ◌∙◌, ap, sym, refl, subst, take, ℕ, zero, suc, ◌+◌, ◌-◌, ◌*◌, ◌/◌, ◌%◌, ◌<◌, ◌≤◌, ◌⊎◌, inl, inr, List, [], ◌∷◌, ◌++◌, All, Bool, Option, None, Some, length, map, drop, length-append, append_assoc, arith}
use Rattle.std.specs.Prelude.{Ok, Err, true, false, if◌then◌else◌}
use Rattle.std.proofs.lemmas.Grind.{common_steps}
use Rattle.std.proofs.lemmas.Bool.Decides.{nat_tests}
use Rattle.std.proofs.lemmas.List.{append-nil, length-drop, length-take-le, take-append-drop, take_at}
use Rattle.std.proofs.lemmas.List.Elements.{All-cons, All-drop, All-head, All-nil, All-tail}
use Rattle.uefi_text.specs.Packed.{IsByte}
use Rattle.uefi_device_nodes.specs.NodeFaults.{fault_place, node_fault}
use Rattle.uefi_device_nodes.specs.Nodes.{IsInner, IsSound, Node, end_entire, first_node, node_bytes, node_length, stated_length}
use Rattle.uefi_device_nodes.specs.declared.errors.NodeError.{NodeError}
use Rattle.uefi_device_path.specs.CheckedNodes.{BeginWithEnd, Checked, all_checked, checked_at, checked_by, checked_within, node_before, nodes_before, path_of_bytes, rest_at}
use Rattle.uefi_device_path.specs.Faults.{RefusedFor, RefusesNode}
use Rattle.uefi_device_path.specs.PathLists.{is_end_entire}
use Rattle.uefi_device_path.specs.Paths.{BeginWith, BeginWithPath, nodes_bytes, nodes_in}
use Rattle.uefi_device_path.specs.Views.{checked_bytes, checked_left, rest_of}
use Rattle.uefi_device_path.specs.declared.checked_nodes.CheckedNodes.{CheckedNodes}
use Rattle.uefi_device_path.specs.declared.checked_nodes.Progress.{Progress}
use Rattle.uefi_device_path.specs.declared.checked_nodes.Progress.TheVariants.{Reading, Ended, Failed}
use Rattle.uefi_device_path.specs.declared.errors.DevicePathError.{DevicePathError}
use Rattle.uefi_device_path.proofs.Splits.{Stops-end, Stops-fault, nodes_in-nodes_bytes, split_once, few_nodes, begin_long, first-node_bytes, no_fault, path_split_once, refused_no_path, rest-node_bytes, same_error, stated-node_bytes}

-- the test for the node that ends a path
pub inner_no_end : (node : Node) → IsInner node → is_end_entire node ≡ false
inner_no_end node inner = by (is_end_entire node) refl
  where
    by : (b : Bool) → is_end_entire node ≡ b → is_end_entire node ≡ false
    by false e = e
    by true e = absurd (inner.not_end (ends e))
      where
        ends : is_end_entire node ≡ true → node ≡ end_entire
        ends e = grind (arith, common_steps, inner.sound)

-- no more than this many
pub few_checked : (count offset : ℕ) (bytes : List ℕ) → length (checked_within count offset bytes) ≤ count
few_checked zero offset bytes = omega arith
few_checked (suc count) offset bytes =
    by (node_fault bytes) (few_checked count (offset + stated_length bytes) (drop (stated_length bytes) bytes))
  where
    others : List Checked
    others = checked_within count (offset + stated_length bytes) (drop (stated_length bytes) bytes)

    end_or : length others ≤ count → (b : Bool) → length (if b then [] else Ok (first_node bytes) ∷ others) ≤ suc count
    end_or more true = omega arith
    end_or more false = omega (arith, more)

    by : (fault : Option NodeError) → length others ≤ count → length (checked_by fault offset (first_node bytes) others) ≤ suc count
    by (Some cause) more = omega arith
    by None more = end_or more (is_end_entire (first_node bytes))

-- one node of bytes that begin with one
checked_one : (count offset : ℕ) (node : Node) (rest : List ℕ) → IsInner node
    → checked_within (suc count) offset (node_bytes node ++ rest) ≡ Ok node ∷ checked_within count (offset + node_length node) rest
checked_one count offset node rest inner =
    let bytes = node_bytes node ++ rest in
    let fault = no_fault node rest inner.sound in
    let first = first-node_bytes node rest in
    let after = rest-node_bytes node rest in
    let stated = stated-node_bytes node rest in
    let no_end = inner_no_end node inner in
    ap (λ f. checked_by f offset (first_node bytes) (checked_within count (offset + stated_length bytes) (drop (stated_length bytes) bytes))) fault
    ∙ ap (λ n. checked_by None offset n (checked_within count (offset + stated_length bytes) (drop (stated_length bytes) bytes))) first
    ∙ ap (λ b. if b then [] else Ok node ∷ checked_within count (offset + stated_length bytes) (drop (stated_length bytes) bytes)) no_end
    ∙ ap (λ k. Ok node ∷ checked_within count (offset + stated_length bytes) k) after
    ∙ ap (λ n. Ok node ∷ checked_within count (offset + n) rest) stated

checked_end : (count offset : ℕ) (rest : List ℕ) → checked_within (suc count) offset (node_bytes end_entire ++ rest) ≡ []
checked_end count offset rest =
    let bytes = node_bytes end_entire ++ rest in
    let fault = no_fault end_entire rest (λ _. (refl, λ _. refl)) in
    let first = first-node_bytes end_entire rest in
    ap (λ f. checked_by f offset (first_node bytes) (checked_within count (offset + stated_length bytes) (drop (stated_length bytes) bytes))) fault
    ∙ ap (λ n. checked_by None offset n (checked_within count (offset + stated_length bytes) (drop (stated_length bytes) bytes))) first

checked_fault : (count offset : ℕ) (rest : List ℕ) (cause : NodeError) → node_fault rest ≡ Some cause
    → checked_within (suc count) offset rest ≡ Err (record { cause = cause; offset = offset + fault_place cause }) ∷ []
checked_fault count offset rest cause fault =
    ap (λ f. checked_by f offset (first_node rest) (checked_within count (offset + stated_length rest) (drop (stated_length rest) rest))) fault

long_joined : (node : Node) (nodes : List Node) → length (nodes_bytes (node ∷ nodes)) ≡ node_length node + length (nodes_bytes nodes)
long_joined node nodes =
    let long : length (node.content ++ nodes_bytes nodes) ≡ length node.content + length (nodes_bytes nodes) = length-append node.content (nodes_bytes nodes) in
    omega arith

-- the nodes of bytes, and what is checked after them
pub checked_nodes : (count offset : ℕ) (nodes : List Node) (rest : List ℕ) → All IsInner nodes → length nodes ≤ count
    → checked_within count offset (nodes_bytes nodes ++ rest)
    ≡ map Ok nodes ++ checked_within (count - length nodes) (offset + length (nodes_bytes nodes)) rest
checked_nodes count offset [] rest inner few =
    let all : count ≡ count - 0 = omega arith in
    let here : offset ≡ offset + 0 = omega arith in
    ap (λ n. checked_within n offset rest) all ∙ ap (λ n. checked_within (count - 0) n rest) here
checked_nodes zero offset (node ∷ nodes) rest inner few = absurd (omega (arith, few))
checked_nodes (suc count) offset (node ∷ nodes) rest inner few =
    let more = checked_nodes count (offset + node_length node) nodes rest (All-tail IsInner node nodes inner) (omega (arith, few)) in
    let long = long_joined node nodes in
    let place : offset + node_length node + length (nodes_bytes nodes) ≡ offset + length (nodes_bytes (node ∷ nodes)) = omega (arith, long) in
    let left : count - length nodes ≡ suc count - length (node ∷ nodes) = omega arith in
    ap (checked_within (suc count) offset) (append_assoc (node_bytes node) (nodes_bytes nodes) rest)
    ∙ checked_one count offset node (nodes_bytes nodes ++ rest) (All-head IsInner node nodes inner)
    ∙ ap (λ k. Ok node ∷ k) more
    ∙ ap (λ n. Ok node ∷ (map Ok nodes ++ checked_within (count - length nodes) n rest)) place
    ∙ ap (λ n. map Ok (node ∷ nodes) ++ checked_within n (offset + length (nodes_bytes (node ∷ nodes))) rest) left

-- the nodes of a path, and no fault
pub checked_path : (bytes : List ℕ) (nodes : List Node) → BeginWithPath bytes nodes
    → checked_within (suc (length bytes)) 0 bytes ≡ map Ok nodes
checked_path bytes nodes path =
    let rest = node_bytes end_entire ++ path.0 in
    let long = begin_long bytes nodes rest path.1 in
    let few = few_nodes nodes in
    let left : suc (length bytes) - length nodes ≡ suc (length bytes - length nodes) = omega (arith, long, few) in
    ap (checked_within (suc (length bytes)) 0) path.1.join
    ∙ checked_nodes (suc (length bytes)) 0 nodes rest path.1.inner (omega (arith, long, few))
    ∙ ap (λ n. map Ok nodes ++ checked_within n (0 + length (nodes_bytes nodes)) rest) left
    ∙ ap (λ k. map Ok nodes ++ k) (checked_end (length bytes - length nodes) (0 + length (nodes_bytes nodes)) path.0)
    ∙ append-nil (map Ok nodes)

-- the nodes before a fault, and the fault
pub checked_refused : (bytes : List ℕ) (error : DevicePathError) (nodes : List Node) (rest : List ℕ) → RefusesNode bytes error nodes rest
    → checked_within (suc (length bytes)) 0 bytes ≡ map Ok nodes ++ Err error ∷ []
checked_refused bytes error nodes rest refused =
    let long = begin_long bytes nodes rest refused.begins in
    let few = few_nodes nodes in
    let left : suc (length bytes) - length nodes ≡ suc (length bytes - length nodes) = omega (arith, long, few) in
    let place : 0 + length (nodes_bytes nodes) + fault_place error.cause ≡ error.offset = omega (arith, refused.offset) in
    ap (checked_within (suc (length bytes)) 0) refused.begins.join
    ∙ checked_nodes (suc (length bytes)) 0 nodes rest refused.begins.inner (omega (arith, long, few))
    ∙ ap (λ n. map Ok nodes ++ checked_within n (0 + length (nodes_bytes nodes)) rest) left
    ∙ ap (λ k. map Ok nodes ++ k) (checked_fault (length bytes - length nodes) (0 + length (nodes_bytes nodes)) rest error.cause refused.cause)
    ∙ ap (λ e. map Ok nodes ++ Err e ∷ []) (same_error error.cause error.cause _ error.offset refl place)

-- what bytes are read as
all_nodes : (nodes : List Node) → all_checked (map Ok nodes) ≡ Ok nodes
all_nodes [] = refl
all_nodes (node ∷ nodes) = ap (node_before node) (all_nodes nodes)

all_before_fault : (nodes : List Node) (error : DevicePathError) → all_checked (map Ok nodes ++ Err error ∷ []) ≡ Err error
all_before_fault [] error = refl
all_before_fault (node ∷ nodes) error = ap (node_before node) (all_before_fault nodes error)

pub path_is_read : (bytes : List ℕ) (nodes : List Node) → BeginWithPath bytes nodes → path_of_bytes bytes ≡ Ok nodes
unfolding path_of_bytes
path_is_read bytes nodes path = ap all_checked (checked_path bytes nodes path) ∙ all_nodes nodes

pub refusal_is_read : (bytes : List ℕ) (error : DevicePathError) → RefusedFor bytes error → path_of_bytes bytes ≡ Err error
unfolding path_of_bytes
refusal_is_read bytes error refused =
    ap all_checked (checked_refused bytes error refused.0 refused.1 refused.2) ∙ all_before_fault refused.0 error

-- a node has a header, and ends in the bytes
node_within : (bytes : List ℕ) → node_fault bytes ≡ None → (4 ≤ stated_length bytes) × (stated_length bytes ≤ length bytes)
node_within bytes none = (grind (arith, nat_tests, none), grind (arith, nat_tests, none))

-- where there is no fault, bytes begin with a node
pub begins_node : (bytes : List ℕ) → All IsByte bytes → node_fault bytes ≡ None
    → IsSound (first_node bytes) × (bytes ≡ node_bytes (first_node bytes) ++ drop (stated_length bytes) bytes)
begins_node (a ∷ b ∷ c ∷ d ∷ rest) byte none =
    let bytes : List ℕ = a ∷ b ∷ c ∷ d ∷ rest in
    let within = node_within bytes none in
    let low : c < 256 = All-head IsByte c (d ∷ rest) (All-tail IsByte b (c ∷ d ∷ rest) (All-tail IsByte a (b ∷ c ∷ d ∷ rest) byte)) in
    let more = c + 256 * d - 4 in
    let stated : c + 256 * d ≡ suc (suc (suc (suc more))) = omega (arith, within.0) in
    let content : drop 4 (take (c + 256 * d) bytes) ≡ take more rest = ap (λ n. drop 4 (take n bytes)) stated in
    let after : drop (c + 256 * d) bytes ≡ drop more rest = ap (λ n. drop n bytes) stated in
    let long : length (take more rest) ≡ more = length-take-le more rest (omega (arith, within.1, stated)) in
    let count : node_length (first_node bytes) ≡ c + 256 * d = omega (arith, ap length content, long, stated) in
    let front : node_length (first_node bytes) % 256 ≡ c = omega (arith, count, low) in
    let back : node_length (first_node bytes) / 256 ≡ d = omega (arith, count, low) in
    (sound more content, cc (front, back, content, after, take-append-drop more rest))
  where
    sound : (more : ℕ) → drop 4 (take (c + 256 * d) (a ∷ b ∷ c ∷ d ∷ rest)) ≡ take more rest → IsSound (first_node (a ∷ b ∷ c ∷ d ∷ rest))
    sound more content is_end =
        let four : c + 256 * d ≡ 4 = grind (arith, nat_tests, none) in
        (ap (λ n. drop 4 (take n (a ∷ b ∷ c ∷ d ∷ rest))) four, λ other. grind (arith, nat_tests, none))
begins_node [] byte none = absurd (omega (arith, node_within [] none))
begins_node (a ∷ []) byte none = absurd (omega (arith, node_within (a ∷ []) none))
begins_node (a ∷ b ∷ []) byte none = absurd (omega (arith, node_within (a ∷ b ∷ []) none))
begins_node (a ∷ b ∷ c ∷ []) byte none = absurd (omega (arith, node_within (a ∷ b ∷ c ∷ []) none))

-- bytes begin with a path, or are refused
decided : (count : ℕ) (bytes : List ℕ) → length bytes < count → All IsByte bytes
    → ((nodes : List Node) × BeginWithPath bytes nodes) ⊎ ((error : DevicePathError) × RefusedFor bytes error)
decided zero bytes few byte = absurd (omega (arith, few))
decided (suc count) bytes few byte = by (node_fault bytes) refl (λ after_few after_byte. decided count (drop (stated_length bytes) bytes) after_few after_byte)
  where
    after : List ℕ
    after = drop (stated_length bytes) bytes

    Decided : List ℕ → Type 0
    Decided k = ((nodes : List Node) × BeginWithPath k nodes) ⊎ ((error : DevicePathError) × RefusedFor k error)

    more : (node : Node) → IsInner node → bytes ≡ node_bytes node ++ after → Decided after → Decided bytes
    more node inner split (inl found) =
        inl (
          node ∷ found.0,
          (
            found.1.0,
            record {
              inner = All-cons IsInner node found.0 inner found.1.1.inner;
              join = split ∙ ap (λ k. node_bytes node ++ k) found.1.1.join ∙ sym (append_assoc (node_bytes node) (nodes_bytes found.0) (node_bytes end_entire ++ found.1.0));
            },
          ),
        )
    more node inner split (inr found) =
        let why = found.1.2 in
        inr (
          record { cause = found.0.cause; offset = node_length node + found.0.offset },
          (
            node ∷ found.1.0,
            found.1.1,
            record {
              begins = record {
                inner = All-cons IsInner node found.1.0 inner why.begins.inner;
                join = split ∙ ap (λ k. node_bytes node ++ k) why.begins.join ∙ sym (append_assoc (node_bytes node) (nodes_bytes found.1.0) found.1.1);
              };
              cause = why.cause;
              offset = omega (arith, why.offset, long_joined node found.1.0);
            },
          ),
        )

    ends : (node : Node) → IsSound node → bytes ≡ node_bytes node ++ after → (b : Bool) → is_end_entire node ≡ b → Decided after → Decided bytes
    ends node sound split true e others =
        let is : node ≡ end_entire = grind (arith, common_steps, sound) in
        inl ([], (after, record { inner = All-nil IsInner; join = split ∙ ap (λ n. node_bytes n ++ after) is }))
    ends node sound split false e others =
        more node (record { sound = sound; not_end = λ is. absurd (cc (e, ap is_end_entire is)) }) split others

    by : (fault : Option NodeError) → node_fault bytes ≡ fault → (length after < count → All IsByte after → Decided after) → Decided bytes
    by (Some cause) e others = inr (
      record { cause = cause; offset = fault_place cause },
      (
        [],
        bytes,
        record {
          begins = record { inner = All-nil IsInner; join = refl };
          cause = e;
          offset = omega arith;
        },
      ),
    )
    by None e others =
        let begins = begins_node bytes byte e in
        let within = node_within bytes e in
        ends (first_node bytes) begins.0 begins.1 (is_end_entire (first_node bytes)) refl
        (others (omega (arith, few, within.0, within.1, length-drop (stated_length bytes) bytes)) (All-drop IsByte (stated_length bytes) bytes byte))

-- so what they are read as is what they begin with, or why they are refused
pub reads_path : (bytes : List ℕ) (nodes : List Node) → All IsByte bytes → path_of_bytes bytes ≡ Ok nodes → BeginWithPath bytes nodes
reads_path bytes nodes byte e = by (decided (suc (length bytes)) bytes (omega arith) byte)
  where
    by : (((ns : List Node) × BeginWithPath bytes ns) ⊎ ((error : DevicePathError) × RefusedFor bytes error)) → BeginWithPath bytes nodes
    by (inl found) = let same : found.0 ≡ nodes = cc (e, path_is_read bytes found.0 found.1) in subst (BeginWithPath bytes) same found.1
    by (inr found) = absurd (cc (e, refusal_is_read bytes found.0 found.1))

pub reads_refusal : (bytes : List ℕ) (error : DevicePathError) → All IsByte bytes → path_of_bytes bytes ≡ Err error → RefusedFor bytes error
reads_refusal bytes error byte e = by (decided (suc (length bytes)) bytes (omega arith) byte)
  where
    by : (((ns : List Node) × BeginWithPath bytes ns) ⊎ ((other : DevicePathError) × RefusedFor bytes other)) → RefusedFor bytes error
    by (inl found) = absurd (cc (e, path_is_read bytes found.0 found.1))
    by (inr found) = let same : found.0 ≡ error = cc (e, refusal_is_read bytes found.0 found.1) in subst (RefusedFor bytes) same found.1

-- more than one for each byte are enough
enough : (j k offset : ℕ) (bytes : List ℕ) → length bytes < j → length bytes < k
    → checked_within j offset bytes ≡ checked_within k offset bytes
enough zero k offset bytes j_many k_many = absurd (omega (arith, j_many))
enough (suc j) zero offset bytes j_many k_many = absurd (omega (arith, k_many))
enough (suc j) (suc k) offset bytes j_many k_many =
    by (node_fault bytes) refl (λ j_more k_more. enough j k (offset + stated_length bytes) (drop (stated_length bytes) bytes) j_more k_more)
  where
    after : List ℕ
    after = drop (stated_length bytes) bytes

    place : ℕ
    place = offset + stated_length bytes

    by : (fault : Option NodeError) → node_fault bytes ≡ fault
        → (length after < j → length after < k → checked_within j place after ≡ checked_within k place after)
        → checked_by fault offset (first_node bytes) (checked_within j place after)
        ≡ checked_by fault offset (first_node bytes) (checked_within k place after)
    by (Some cause) e others = refl
    by None e others =
        let within = node_within bytes e in
        let long = length-drop (stated_length bytes) bytes in
        ap (checked_by None offset (first_node bytes)) (others (omega (arith, j_many, within.0, within.1, long)) (omega (arith, k_many, within.0, within.1, long)))

-- where a node stands, it comes first
pub comes_node : (bytes rest after : List ℕ) (node : Node) → length rest ≤ length bytes → rest ≡ node_bytes node ++ after → IsInner node
    → checked_within (suc (length rest)) (length bytes - length rest) rest
    ≡ Ok node ∷ checked_within (suc (length after)) (length bytes - length after) after
comes_node bytes rest after node within split inner =
    let long : length rest ≡ node_length node + length after = ap length split ∙ length-append (node_bytes node) after ∙ omega arith in
    let place : length bytes - length rest + node_length node ≡ length bytes - length after = omega (arith, long, within) in
    ap (checked_within (suc (length rest)) (length bytes - length rest)) split
    ∙ checked_one (length rest) (length bytes - length rest) node after inner
    ∙ ap (λ n. Ok node ∷ checked_within (length rest) n after) place
    ∙ ap (λ k. Ok node ∷ k) (enough (length rest) (suc (length after)) (length bytes - length after) after (omega (arith, long)) (omega arith))

-- which nodes stand before the rest
pub nodes_passed : (bytes : List ℕ) (nodes : List Node) (rest : List ℕ) → BeginWith bytes nodes rest → nodes_before bytes rest ≡ nodes
nodes_passed bytes nodes rest begins =
    let long = begin_long bytes nodes rest begins in
    let front : take (length bytes - length rest) bytes ≡ nodes_bytes nodes =
    ap (take (length bytes - length rest)) begins.join ∙ take_at (nodes_bytes nodes) rest (length bytes - length rest) (omega (arith, long)) in
    ap nodes_in front ∙ nodes_in-nodes_bytes nodes

pub begins_at : (bytes : List ℕ) (nodes : List Node) (rest : List ℕ) → BeginWith bytes nodes rest → BeginWith bytes (nodes_before bytes rest) rest
begins_at bytes nodes rest begins = subst (λ ns. BeginWith bytes ns rest) (sym (nodes_passed bytes nodes rest begins)) begins

pub begins_none : (bytes : List ℕ) → BeginWith bytes (nodes_before bytes bytes) bytes
begins_none bytes = begins_at bytes [] bytes (record { inner = All-nil IsInner; join = refl })

-- the end of the path, and the bytes after it
pub begins_end : (bytes : List ℕ) (nodes : List Node) (rest : List ℕ) → BeginWith bytes nodes rest → BeginWithEnd rest
    → BeginWith bytes nodes (node_bytes end_entire ++ drop 4 rest)
begins_end bytes nodes rest begins ends =
    let split : rest ≡ node_bytes end_entire ++ drop 4 rest = sym (take-append-drop 4 rest) ∙ ap (λ k. k ++ drop 4 rest) ends in
    record { inner = begins.inner; join = begins.join ∙ ap (λ k. nodes_bytes nodes ++ k) split }

-- they are those after the path that the bytes begin with
pub rest_same : (bytes : List ℕ) (before nodes : List Node) (rest more : List ℕ) → BeginWith bytes before rest → BeginWithEnd rest
    → BeginWith bytes nodes (node_bytes end_entire ++ more) → Some (drop 4 rest) ≡ Some more
rest_same bytes before nodes rest more begins ends path =
    ap Some (path_split_once bytes before nodes (drop 4 rest) more (begins_end bytes before rest begins ends) path).1

-- bytes that begin with a path are not refused
pub no_refusal : (bytes : List ℕ) (before : List Node) (rest : List ℕ) (error : DevicePathError) → BeginWith bytes before rest
    → BeginWithEnd rest → RefusedFor bytes error → ⊥
no_refusal bytes before rest error begins ends refused =
    refused_no_path bytes error refused before (drop 4 rest, begins_end bytes before rest begins ends)

-- nor do bytes begin with one where a node is at fault
pub no_path : (bytes : List ℕ) (before nodes : List Node) (rest more : List ℕ) → BeginWith bytes before rest → node_fault rest ≢ None
    → BeginWith bytes nodes (node_bytes end_entire ++ more) → ⊥
no_path bytes before nodes rest more begins fails path =
    let both = split_once before nodes rest (node_bytes end_entire ++ more) begins.inner path.inner (Stops-fault rest fails) (Stops-end more) (sym begins.join ∙ path.join) in
    fails (ap node_fault both.1 ∙ no_fault end_entire more (λ _. (refl, λ _. refl)))

-- what an iterator that gives nothing more says of the bytes after the path
pub past_rest : (iter : CheckedNodes) → iter.progress ≢ Reading → (nodes : List Node) (rest : List ℕ)
    → BeginWith (checked_bytes iter) nodes (node_bytes end_entire ++ rest) → rest_of iter ≡ Some rest
unfolding checked_bytes rest_of
past_rest iter other nodes rest path = by iter.progress refl
  where
    by : (progress : Progress) → iter.progress ≡ progress → rest_at progress iter.rest.now ≡ Some rest
    by Reading e = absurd (other e)
    by Ended e = rest_same iter.bytes.now _ nodes iter.rest.now rest iter.begins (iter.ended e) path
    by Failed e = absurd (no_path iter.bytes.now _ nodes iter.rest.now rest iter.begins (iter.failed e) path)

pub past_fault : (iter : CheckedNodes) → iter.progress ≢ Reading → (error : DevicePathError) → RefusedFor (checked_bytes iter) error
    → rest_of iter ≡ None
unfolding checked_bytes rest_of
past_fault iter other error refused = by iter.progress refl
  where
    by : (progress : Progress) → iter.progress ≡ progress → rest_at progress iter.rest.now ≡ None
    by Reading e = refl
    by Ended e = absurd (no_refusal iter.bytes.now _ iter.rest.now error iter.begins (iter.ended e) refused)
    by Failed e = refl

pub past_left : (iter : CheckedNodes) → iter.progress ≢ Reading → checked_left iter ≡ []
unfolding checked_left
past_left iter other = by iter.progress refl
  where
    by : (progress : Progress) → iter.progress ≡ progress → checked_at progress (length iter.bytes.now - length iter.rest.now) iter.rest.now ≡ []
    by Reading e = absurd (other e)
    by Ended e = refl
    by Failed e = refl
