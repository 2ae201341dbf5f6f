-- The path in a buffer takes the nodes that a text is read as, one after the other.
use Rattle.std.proofs.Common.{◌≡◌, ℕ, ◌+◌, ◌-◌, ◌^◌, ◌<◌, ◌≤◌, min, true, List, [], ◌∷◌, ◌++◌, length, take, drop, refl, ap, sym, ◌∙◌, append_assoc, length-append, arith}
use Rattle.std.specs.Prelude.{nat_lt, Err}
use Rattle.std.proofs.lemmas.Bool.{lt-ltb}
use Rattle.std.proofs.lemmas.List.{drop-drop, take_at}
use Rattle.uefi_device_nodes.specs.Nodes.{Node, end_entire, node_bytes, node_length}
use Rattle.uefi_device_path.specs.Building.{path_length, text_refusal}
use Rattle.uefi_device_path.specs.NodeSinks.{Holds, HoldsMore, grown_length, nodes_up_to}
use Rattle.uefi_device_path.specs.Paths.{IsPath, nodes_bytes, path_bytes}
use Rattle.uefi_device_path.specs.PushedPaths.{Leaves, bytes_unless}
use Rattle.uefi_device_path.specs.declared.text.text_errors.PushTextError.TheVariants.{BufferTooSmall}
use Rattle.uefi_device_path.proofs.Building.{path_empty}
use Rattle.uefi_device_path.proofs.ShortForms.{bytes_of_both}
use Rattle.uefi_device_path.proofs.TextLengths.{bytes_more}

-- the path takes one node more
pub one_held : (old new newer : List ℕ) (len end more : ℕ) (nodes : List Node) (node : Node) → HoldsMore old len nodes new end
    → more ≡ min (end + node_length node) (2 ^ 64 - 1) → length newer ≡ length new
    → (more ≤ length new → more ≡ end + node_length node)
    → (more ≤ length new → Holds new (nodes_up_to end new ++ node ∷ []) newer more) → HoldsMore old len (nodes ++ node ∷ []) newer more
one_held old new newer len end more nodes node on is long exact held_now = record {
  count = omega (
    arith,
    is,
    on.count,
    bytes_more nodes node,
    length-append (nodes_bytes nodes) (node_bytes end_entire),
    length-append (nodes_bytes (nodes ++ node ∷ [])) (node_bytes end_entire),
  );
  same = long ∙ on.same;
  holds = λ fits.
      let room : more ≤ length new = omega (arith, fits, on.same) in
      let one = exact room in
      let held = on.holds (omega (arith, fits, one)) in
      let now = held_now room in
      record {
        within = now.within;
        path = now.path;
        shown = now.shown ∙ ap (λ (ns : List Node). ns ++ node ∷ []) held.shown ∙ append_assoc (nodes_up_to len old) nodes (node ∷ []);
        same = long ∙ on.same;
        rest = now.rest ∙ ap (λ (n : ℕ). drop n new) one ∙ sym (drop-drop (node_length node) end new)
            ∙ ap (drop (node_length node)) held.rest ∙ drop-drop (node_length node) end old ∙ ap (λ (n : ℕ). drop n old) (sym one);
      };
}

-- bytes that begin with the end node begin with the path of no nodes
pub begins_empty : (end rest : List ℕ) → end ≡ node_bytes end_entire
    → IsPath (take 4 (end ++ rest)) × (nodes_up_to 4 (end ++ rest) ≡ [])
begins_empty end rest is = path_empty (take 4 (end ++ rest)) (take_at end rest 4 (ap length is) ∙ is)

-- how many bytes a path has with the nodes of a text, which a path of their own has counted
pub counted_apart : (nodes read : List Node) (len end needed : ℕ) → len ≡ length (path_bytes nodes) → end ≡ grown_length 4 read
    → needed ≡ min (len + (end - 4)) (2 ^ 64 - 1) → needed ≡ grown_length len read
counted_apart nodes read len end needed long is sum =
    omega (arith, long, is, sum, length-append (nodes_bytes nodes) (node_bytes end_entire))

-- how many bytes a path of `len` bytes has with the nodes of a text
pub needed_by : (nodes read : List Node) (len needed : ℕ) → len ≡ length (path_bytes nodes) → needed ≡ grown_length len read
    → needed ≡ path_length (nodes ++ read)
needed_by nodes read len needed long count = omega (
  arith,
  long,
  count,
  ap length (bytes_of_both (nodes ++ read) nodes read refl),
  length-append (nodes_bytes nodes) (path_bytes read),
  length-append (nodes_bytes nodes) (node_bytes end_entire),
  length-append (nodes_bytes read) (node_bytes end_entire),
)

-- what is left where there is no room for all
module _ (nodes read : List Node) (old : List ℕ) (needed : ℕ) (is : needed ≡ path_length (nodes ++ read)) where
  pub without_room : length old < needed
      → Leaves (bytes_unless (text_refusal nodes read (length old)) (path_bytes (nodes ++ read))) old (Err (BufferTooSmall needed)) old
  without_room less =
      let small : nat_lt (length old) (path_length (nodes ++ read)) ≡ true = lt-ltb (length old) (path_length (nodes ++ read)) (omega (arith, is, less)) in
      rw small (ap (λ (n : ℕ). Err (BufferTooSmall n)) is, refl)
