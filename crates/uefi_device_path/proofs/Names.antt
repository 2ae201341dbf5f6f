-- The names of the nodes that were passed are the path so far.
use Rattle.std.proofs.Common.{◌≡◌, ◌∙◌, ap, sym, refl, subst, ℕ, ◌+◌, List, [], ◌∷◌, ◌++◌, All, fold, length, append_assoc, length-append, arith}
use Rattle.std.proofs.lemmas.Grind.{common_steps}
use Rattle.std.proofs.lemmas.List.{append-nil}
use Rattle.std.proofs.lemmas.List.Elements.{All-append, All-cons, All-head, All-nil, All-tail}
use Rattle.uefi_device_nodes.specs.Nodes.{Node, node_bytes}
use Rattle.uefi_device_path.specs.Paths.{AreNodes, nodes_bytes, nodes_in}
use Rattle.uefi_device_path.specs.FilePathBuffers.{WriteRefusedFor}
use Rattle.uefi_device_path.specs.FilePaths.{FileRefusedFor, IsReadable, file_path, with_node}
use Rattle.uefi_device_path.specs.declared.errors.FilePathError.{FilePathError}
use Rattle.uefi_device_path.specs.declared.errors.FilePathWriteError.{FilePathWriteError}
use Rattle.uefi_device_path.specs.declared.errors.FilePathWriteError.TheVariants.{BufferTooSmall, Name}
use Rattle.uefi_device_path.proofs.Splits.{after_first, nodes_in-nil}

-- these nodes of the bytes were passed, and their names are the path
pub record Named (bytes : List ℕ) (nodes : List Node) (rest path : List ℕ) : Type 0 where
  pub shown : nodes_in bytes ≡ nodes ++ nodes_in rest
  pub long : length bytes ≡ length (nodes_bytes nodes) + length rest
  pub readable : All IsReadable nodes
  pub made : path ≡ file_path nodes

fold_one : (start : List ℕ) (ns : List Node) (n : Node) → fold with_node start (ns ++ n ∷ []) ≡ with_node (fold with_node start ns) n
fold_one start [] n = refl
fold_one start (m ∷ ns) n = fold_one (with_node start m) ns n

pub file_path_more : (ns : List Node) (n : Node) → file_path (ns ++ n ∷ []) ≡ with_node (file_path ns) n
file_path_more ns n = fold_one [] ns n

joined_one : (ns : List Node) (n : Node) → length (nodes_bytes (ns ++ n ∷ [])) ≡ length (nodes_bytes ns) + length (node_bytes n)
joined_one ns n =
    let split : nodes_bytes (ns ++ n ∷ []) ≡ nodes_bytes ns ++ node_bytes n = grind (arith, common_steps) in
    ap length split ∙ length-append (nodes_bytes ns) (node_bytes n)

pub named_more : (bytes : List ℕ) (ns : List Node) (n : Node) (rest after path next : List ℕ) → Named bytes ns rest path
    → AreNodes rest → rest ≡ node_bytes n ++ after → IsReadable n → next ≡ with_node path n
    → Named bytes (ns ++ n ∷ []) after next
named_more bytes ns n rest after path next named are e readable made =
    let first = after_first rest after n are e in
    let cut : length rest ≡ length (node_bytes n) + length after = ap length e ∙ length-append (node_bytes n) after in
    let whole = joined_one ns n in
    record {
      shown = named.shown ∙ ap (λ ms. ns ++ ms) first.1 ∙ sym (append_assoc ns (n ∷ []) (nodes_in after));
      long = omega (arith, named.long, cut, whole);
      readable = All-append IsReadable ns (n ∷ []) named.readable (All-cons IsReadable n [] readable (All-nil IsReadable));
      made = made ∙ ap (λ p. with_node p n) named.made ∙ sym (fold_one [] ns n);
    }

pub named_all : (bytes : List ℕ) (ns : List Node) (rest path : List ℕ) → Named bytes ns rest path → length rest ≡ 0
    → nodes_in bytes ≡ ns
named_all bytes ns rest path named none =
    named.shown ∙ ap (λ ms. ns ++ ms) (nodes_in-nil rest none) ∙ append-nil ns

pub readable_at : (before : List Node) (node : Node) (after : List Node) → All IsReadable (before ++ node ∷ after) → IsReadable node
readable_at [] node after all = All-head IsReadable node after all
readable_at (n ∷ before) node after all = readable_at before node after (All-tail IsReadable n (before ++ node ∷ after) all)

-- nodes that all have names are not refused
pub named_unrefused : (nodes : List Node) (error : FilePathError) → All IsReadable nodes → FileRefusedFor nodes error → ⊥
named_unrefused nodes error all refused =
    let why = refused.3 in
    let none = readable_at refused.0 refused.1 refused.2 (subst (All IsReadable) why.split all) why.file in
    absurd (cc (none, why.cause))

-- and neither is their file path if it has room
pub never_refused : (nodes : List Node) (room : ℕ) (error : FilePathWriteError) → All IsReadable nodes → room ≡ length (file_path nodes) + 1
    → WriteRefusedFor nodes room error → ⊥
never_refused nodes room (Name error) all is refused = named_unrefused nodes error all refused
never_refused nodes room (BufferTooSmall needed) all is (readable, enough, less) = absurd (omega (arith, enough, less, is))
