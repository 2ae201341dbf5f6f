-- Items of a list, one after the other.
use Rattle.std.proofs.Common.{◌≡◌, ℕ, zero, suc, ◌+◌, ◌-◌, ◌*◌, ◌/◌, ◌<◌, ◌≤◌, List, [], ◌∷◌, ◌++◌, length, take, drop, sym, ap, ◌∙◌, add-one, arith, length-drop}
use Rattle.std.specs.List.{flat_map}
use Rattle.std.specs.Simd.{first_chunks}
use Rattle.std.proofs.Math.Nat.{le-div_iff_mul-le}
use Rattle.std.proofs.lemmas.List.{drop-drop, flat_map_more}
use Rattle.uefi_device_nodes.specs.Rows.{Item, item_text}

suc_times : (k n : ℕ) → suc k * n ≡ n + k * n
suc_times k n = grind arith

-- one item more
chunks_suc : (n k : ℕ) (xs : List ℕ) → first_chunks n (suc k) xs ≡ first_chunks n k xs ++ take n (drop (k * n) xs) ∷ []
chunks_suc n zero xs = ap (λ (m : ℕ). take n (drop m xs) ∷ []) {x = 0} {y = 0 * n} (omega arith)
chunks_suc n (suc k) xs = ap (λ (l : List (List ℕ)). take n xs ∷ l) (chunks_suc n k (drop n xs)
    ∙ ap (λ (l : List ℕ). first_chunks n k (drop n xs) ++ take n l ∷ []) (drop-drop (k * n) n xs ∙ ap (λ (m : ℕ). drop m xs) (sym (suc_times k n))))

-- the text of one item more
pub items_more : (item : Item) (k : ℕ) (bytes rest first : List ℕ) → rest ≡ drop (k * item.size) bytes → first ≡ take item.size rest
    → flat_map (item_text item) (first_chunks item.size k bytes) ++ item_text item first ≡ flat_map (item_text item) (first_chunks item.size (k + 1) bytes)
items_more item k bytes rest first e f =
    ap (λ (l : List ℕ). flat_map (item_text item) (first_chunks item.size k bytes) ++ item_text item l) (f ∙ ap (λ (l : List ℕ). take item.size l) e)
    ∙ flat_map_more (item_text item) [] (first_chunks item.size k bytes) (take item.size (drop (k * item.size) bytes))
    ∙ ap (λ (l : List (List ℕ)). flat_map (item_text item) l) (sym (chunks_suc item.size k bytes))
    ∙ ap (λ (m : ℕ). flat_map (item_text item) (first_chunks item.size m bytes)) (sym (add-one k))

-- what is left after one item more
pub rest_more : (n k : ℕ) (bytes rest : List ℕ) → rest ≡ drop (k * n) bytes → drop n rest ≡ drop ((k + 1) * n) bytes
rest_more n k bytes rest e = ap (λ (l : List ℕ). drop n l) e ∙ drop-drop n (k * n) bytes
    ∙ ap (λ (m : ℕ). drop m bytes) {x = k * n + n} {y = (k + 1) * n} (grind arith)

-- an item is left
pub item_left : (n k : ℕ) (bytes rest : List ℕ) → 0 < n → k < length bytes / n → rest ≡ drop (k * n) bytes → n ≤ length rest
item_left n k bytes rest some l e =
    let within : (k + 1) * n ≤ length bytes = (le-div_iff_mul-le some).0 (omega arith) in
    let size : length rest ≡ length bytes - k * n = ap length e ∙ length-drop (k * n) bytes in
    let more : (k + 1) * n ≡ k * n + n = grind arith in
    omega arith
