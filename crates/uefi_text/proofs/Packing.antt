-- Items that lie packed in bytes, place by place.
use Rattle.std.specs.Prelude.{slice_get, slice_range}
use Rattle.std.specs.List.{position, position_or_len}
use Rattle.std.specs.Simd.{first_chunks}
use Rattle.std.proofs.Common.{Bool, inl, inr, ◌≡◌, ℕ, zero, suc, ◌+◌, ◌-◌, ◌*◌, ◌<◌, ◌≤◌, sym, ◌∷◌, List, length, take, drop, get_or, Some, refl, ap, ◌∙◌, arith}
use Rattle.std.proofs.Math.Nat.{add-mul, mul-le-mul_right, suc-mul, zero-mul, add_comm}
use Rattle.std.proofs.lemmas.Bool.{cases_Bool}
use Rattle.std.proofs.lemmas.Grind.{common_steps}
use Rattle.std.proofs.lemmas.List.{drop-drop}
use Rattle.std.proofs.lemmas.Option.{slice_get-get_or, slice_get_past}
use Rattle.uefi_text.specs.Packed.{little_endian, packed_items}

pub length-packed_items : (size count : ℕ) (bytes : List ℕ) → length (packed_items size count bytes) ≡ count
length-packed_items size zero bytes = refl
length-packed_items size (suc count) bytes = ap suc (length-packed_items size count (drop size bytes))

-- an item is the number of its block of bytes
pub get_or-packed_items : (size count : ℕ) (bytes : List ℕ) (i : ℕ) → i < count
    → get_or (packed_items size count bytes) i 0 ≡ little_endian (take size (drop (i * size) bytes))
get_or-packed_items size zero bytes i within = absurd (omega arith)
get_or-packed_items size (suc count) bytes zero within = rw zero-mul refl
get_or-packed_items size (suc count) bytes (suc i) within =
    let behind = get_or-packed_items size count (drop size bytes) i (omega arith) in
    rw (suc-mul i size, add_comm (i * size) size, ← drop-drop (i * size) size bytes) behind

-- the same, with the block as a part of the bytes
pub slice_get-packed_items : (size count : ℕ) (bytes : List ℕ) (i : ℕ) → i < count
    → slice_get (packed_items size count bytes) i ≡ Some (little_endian (slice_range bytes (i * size) (i * size + size)))
slice_get-packed_items size count bytes i within =
    let inside : i < length (packed_items size count bytes) = rw (length-packed_items size count bytes) within in
    let long : i * size + size - i * size ≡ size = omega arith in
    slice_get-get_or (packed_items size count bytes) i 0 inside ∙ rw (get_or-packed_items size count bytes i within, long) refl

-- the first items are those of fewer blocks
pub packed_items-take : (size n count : ℕ) (bytes : List ℕ) → n ≤ count → take n (packed_items size count bytes) ≡ packed_items size n bytes
packed_items-take size zero count bytes within = refl
packed_items-take size (suc n) zero bytes within = absurd (omega arith)
packed_items-take size (suc n) (suc count) bytes within =
    ap (λ items. little_endian (take size bytes) ∷ items) (packed_items-take size n count (drop size bytes) (omega arith))

-- the others are those of the bytes after theirs
packed_items-drop : (size n count : ℕ) (bytes : List ℕ) → n ≤ count → drop n (packed_items size count bytes) ≡ packed_items size (count - n) (drop (n * size) bytes)
packed_items-drop size zero count bytes within = let all : count - 0 ≡ count = omega arith in rw (zero-mul, all) refl
packed_items-drop size (suc n) zero bytes within = absurd (omega arith)
packed_items-drop size (suc n) (suc count) bytes within =
    let behind = packed_items-drop size n count (drop size bytes) (omega arith) in
    let left : suc count - suc n ≡ count - n = omega arith in
    rw (left, suc-mul n size, add_comm (n * size) size, ← drop-drop (n * size) size bytes) behind

-- a part of the items is the items of a part of the bytes
pub packed_items-part : (size start end count : ℕ) (bytes : List ℕ) → start ≤ end → end ≤ count
    → packed_items size (end - start) (drop (start * size) bytes) ≡ slice_range (packed_items size count bytes) start end
packed_items-part size start end count bytes ordered within =
    let others = packed_items-drop size start count bytes (omega arith) in
    sym (ap (take (end - start)) others ∙ packed_items-take size (end - start) (count - start) (drop (start * size) bytes) (omega arith))

-- and lies within the bytes that are left
pub part-fits : (size start end count room : ℕ) → start ≤ end → end ≤ count → count * size ≤ room → (end - start) * size ≤ room - start * size
part-fits size start end count room ordered within fits =
    let whole : (end - start) + start ≡ end = omega arith in
    let sum : (end - start) * size + start * size ≡ end * size = sym (add-mul (end - start) start size) ∙ ap (λ n. n * size) whole in
    let below : end * size ≤ count * size = mul-le-mul_right size within in
    omega arith

-- an item is the number of its chunk, so a search among the chunks finds what a search among the items does
length-first_chunks : (size count : ℕ) (bytes : List ℕ) → length (first_chunks size count bytes) ≡ count
length-first_chunks size zero bytes = refl
length-first_chunks size (suc count) bytes = ap suc (length-first_chunks size count (drop size bytes))

position_or_len-chunks : (p : ℕ → Bool) (size count : ℕ) (bytes : List ℕ)
    → position_or_len (λ chunk. p (little_endian chunk)) (first_chunks size count bytes) ≡ position_or_len p (packed_items size count bytes)
position_or_len-chunks p size zero bytes = refl
position_or_len-chunks p size (suc count) bytes = elim (cases_Bool (p (little_endian (take size bytes)))) [
  | inl passes ↦ grind (arith, common_steps)
  | inr fails ↦ let rest = position_or_len-chunks p size count (drop size bytes) in grind (arith, common_steps)
]

pub position-chunks : (p : ℕ → Bool) (size count : ℕ) (bytes : List ℕ)
    → position (λ chunk. p (little_endian chunk)) (first_chunks size count bytes) ≡ position p (packed_items size count bytes)
position-chunks p size count bytes =
    rw (position_or_len-chunks p size count bytes, length-first_chunks size count bytes, length-packed_items size count bytes) refl

pub ruleset packing = (length-packed_items, get_or-packed_items, slice_get-packed_items, slice_get-get_or, slice_get_past)
