-- Steps that are printed one after the other.
use Rattle.std.proofs.Common.{◌≡◌, ℕ, zero, suc, ◌+◌, ◌-◌, ◌*◌, ◌/◌, ◌<◌, ◌≤◌, List, [], ◌∷◌, ◌++◌, length, map, take, drop, refl, ap, sym, ◌∙◌, add-one, arith, length-drop}
use Rattle.std.proofs.Math.Nat.{le-div_iff_mul-le}
use Rattle.std.proofs.lemmas.List.{drop-drop, flat_map_more}
use Rattle.std.specs.Simd.{first_chunks}
use Rattle.uefi_node_steps.specs.Leaves.{ByteLeaf, many_text}
use Rattle.uefi_node_steps.specs.Printing.{items_text, steps_text}
use Rattle.uefi_node_steps.specs.Steps.{Laid, Parts, Step, item_leaf, no_list, part_of, step_leaf, steps_leaf}
use Rattle.uefi_node_steps.specs.declared.steps.Items.{Items}

-- the text of steps is that of their leaf
pub steps_are : (lists : Items → ByteLeaf) (data_ : Parts) (steps : List Step) → steps_text lists data_ steps ≡ (steps_leaf (step_leaf lists) steps).text (map (part_of data_) steps)
steps_are lists data_ [] = refl
steps_are lists data_ (step ∷ steps) = ap (λ (t : List ℕ). (step_leaf lists step).text (part_of data_ step) ++ t) (steps_are lists data_ steps)

pub items_are : (item : Laid) (items : List (List ℕ)) → items_text item.steps items ≡ many_text (item_leaf item) items
items_are item [] = refl
items_are item (bytes ∷ items) = λ i. steps_are no_list (bytes, []) item.steps i ++ items_are item items i

-- items of one size
pub suc_times : (k n : ℕ) → suc k * n ≡ n + k * n
suc_times k n = grind arith

chunks_suc : (n k : ℕ) (xs : List ℕ) → first_chunks n (suc k) xs ≡ first_chunks n k xs ++ take n (drop (k * n) xs) ∷ []
chunks_suc n zero xs = ap (λ (m : ℕ). take n (drop m xs) ∷ []) {x = 0} {y = 0 * n} (omega arith)
chunks_suc n (suc k) xs = ap (λ (l : List (List ℕ)). take n xs ∷ l) (chunks_suc n k (drop n xs)
    ∙ ap (λ (l : List ℕ). first_chunks n k (drop n xs) ++ take n l ∷ []) (drop-drop (k * n) n xs ∙ ap (λ (m : ℕ). drop m xs) (sym (suc_times k n))))

pub items_more : (steps : List Step) (n k : ℕ) (bytes rest first : List ℕ) → rest ≡ drop (k * n) bytes → first ≡ take n rest
    → items_text steps (first_chunks n k bytes) ++ steps_text no_list (first, []) steps ≡ items_text steps (first_chunks n (k + 1) bytes)
items_more steps n k bytes rest first e f =
    ap (λ (l : List ℕ). items_text steps (first_chunks n k bytes) ++ steps_text no_list (l, []) steps) (f ∙ ap (λ (l : List ℕ). take n l) e)
    ∙ flat_map_more (λ (item : List ℕ). steps_text no_list (item, []) steps) [] (first_chunks n k bytes) (take n (drop (k * n) bytes))
    ∙ ap (λ (l : List (List ℕ)). items_text steps l) (sym (chunks_suc n k bytes))
    ∙ ap (λ (m : ℕ). items_text steps (first_chunks n m bytes)) (sym (add-one k))

pub rest_more : (n k : ℕ) (bytes rest : List ℕ) → rest ≡ drop (k * n) bytes → drop n rest ≡ drop ((k + 1) * n) bytes
rest_more n k bytes rest e = ap (λ (l : List ℕ). drop n l) e ∙ drop-drop n (k * n) bytes
    ∙ ap (λ (m : ℕ). drop m bytes) {x = k * n + n} {y = (k + 1) * n} (grind arith)

pub item_left : (n k : ℕ) (bytes rest : List ℕ) → 0 < n → k < length bytes / n → rest ≡ drop (k * n) bytes → n ≤ length rest
item_left n k bytes rest some l e =
    let within : (k + 1) * n ≤ length bytes = (le-div_iff_mul-le some).0 (omega arith) in
    let size : length rest ≡ length bytes - k * n = ap length e ∙ length-drop (k * n) bytes in
    let more : (k + 1) * n ≡ k * n + n = grind arith in
    omega arith
