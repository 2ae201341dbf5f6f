-- Bytes are split at one NUL alone.
use Rattle.std.proofs.Common.{◌≡◌, ◌≢◌, ◌∙◌, ap, sym, refl, subst, ℕ, zero, suc, ◌+◌, ◌*◌, ◌/◌, ◌<◌, ◌≤◌, List, [], ◌∷◌, ◌++◌, All, None, Some, get_or, length, take, arith, inl, inr}
use Rattle.std.specs.List.{position, position_or_len}
use Rattle.std.proofs.lemmas.Bool.{cases_Bool}
use Rattle.std.proofs.lemmas.Grind.{common_steps}
use Rattle.std.proofs.lemmas.List.{get_or-take, length-take-le, take_more}
use Rattle.std.proofs.lemmas.List.Elements.{All-from_get_or, All-head, All-tail}
use Rattle.std.proofs.lemmas.List.Quantifiers.{position-Some}
use Rattle.uefi_text.proofs.Packing.{length-packed_items, packed_items-take}
use Rattle.uefi_text.proofs.Texts.{without_nul-nul_terminated}
use Rattle.uefi_text.proofs.UnitBytes.{units_front}
use Rattle.uefi_text.specs.Packed.{little_endian, packed_items}
use Rattle.uefi_text.specs.UnitBytes.{unit_bytes, units_of_bytes}
use Rattle.uefi_text.specs.Units.{IsNulTerminated, is_nul, nul_terminated, without_nul}
use Rattle.uefi_text.specs.PackedStrings.{SplitsUntilNul}

-- no units' bytes begin others', where exactly their last is a NUL
pub bytes_once : (t s x y : List ℕ) → All (λ u. u ≢ 0) t → All (λ u. u ≢ 0) s
    → unit_bytes (nul_terminated t) ++ x ≡ unit_bytes (nul_terminated s) ++ y → (t ≡ s) × (x ≡ y)
bytes_once [] [] x y t_is s_is e = (refl, cc)
bytes_once [] (u ∷ s) x y t_is s_is e =
    absurd (All-head (λ u. u ≢ 0) u s s_is (omega (arith, ap (λ bs. get_or bs 0 0) e, ap (λ bs. get_or bs 1 0) e)))
bytes_once (u ∷ t) [] x y t_is s_is e =
    absurd (All-head (λ u. u ≢ 0) u t t_is (omega (arith, ap (λ bs. get_or bs 0 0) e, ap (λ bs. get_or bs 1 0) e)))
bytes_once (u ∷ t) (v ∷ s) x y t_is s_is e =
    let first : u ≡ v = omega (arith, ap (λ bs. get_or bs 0 0) e, ap (λ bs. get_or bs 1 0) e) in
    let tails : unit_bytes (nul_terminated t) ++ x ≡ unit_bytes (nul_terminated s) ++ y = cc in
    let others = bytes_once t s x y (All-tail (λ u. u ≢ 0) u t t_is) (All-tail (λ u. u ≢ 0) v s s_is) tails in
    let rest = others.0 in
    let same : (u ∷ t) ≡ (v ∷ s) = cc in
    (same, others.1)

pub split_once : (bytes units rest others more : List ℕ) → SplitsUntilNul bytes units rest → SplitsUntilNul bytes others more
    → (others ≡ units) × (more ≡ rest)
split_once bytes units rest others more one other =
    let t = without_nul others in
    let s = without_nul units in
    let left : bytes ≡ unit_bytes (nul_terminated t) ++ more = other.join ∙ ap (λ us. unit_bytes us ++ more) other.ends.0 in
    let right : bytes ≡ unit_bytes (nul_terminated s) ++ rest = one.join ∙ ap (λ us. unit_bytes us ++ rest) one.ends.0 in
    let both = bytes_once t s more rest other.ends.1 one.ends.1 (sym left ∙ right) in
    (other.ends.0 ∙ ap nul_terminated both.0 ∙ sym one.ends.0, both.1)

nul_within : (text x : List ℕ) → position_or_len is_nul (nul_terminated text ++ x) < length (nul_terminated text ++ x)
nul_within [] x = omega arith
nul_within (u ∷ text) x =
    elim (cases_Bool (is_nul u)) [ inl nul ↦ rw nul (omega arith) | inr other ↦ rw other (omega (arith, nul_within text x)) ]

has_nul : (text x : List ℕ) → position is_nul (nul_terminated text ++ x) ≢ None
has_nul text x e =
    let within = nul_within text x in
    grind (arith, common_steps)

-- where no NUL is among the units there is no split
pub no_split : (bytes units rest : List ℕ) → position is_nul (units_of_bytes bytes) ≡ None → SplitsUntilNul bytes units rest → ⊥
no_split bytes units rest none split =
    let us : units_of_bytes bytes ≡ nul_terminated (without_nul units) ++ units_of_bytes rest =
    ap units_of_bytes split.join ∙ units_front units rest ∙ ap (λ vs. vs ++ units_of_bytes rest) split.ends.0 in
    has_nul (without_nul units) (units_of_bytes rest) (ap (position is_nul) (sym us) ∙ none)

-- the first units lie in the first bytes
front_units : (n count : ℕ) (bytes : List ℕ) → n ≤ count → count * 2 ≤ length bytes
    → packed_items 2 n (take (n * 2) bytes) ≡ take n (packed_items 2 count bytes)
front_units zero count bytes few fits = refl
front_units (suc n) zero bytes few fits = absurd (omega arith)
front_units (suc n) (suc count) [] few fits = absurd (omega arith)
front_units (suc n) (suc count) (b ∷ []) few fits = absurd (omega arith)
front_units (suc n) (suc count) (b ∷ c ∷ bytes) few fits =
    let double : suc n * 2 ≡ suc (suc (n * 2)) = omega arith in
    let others = front_units n count bytes (omega arith) (omega arith) in
    ap (λ k. packed_items 2 (suc n) (take k (b ∷ c ∷ bytes))) double ∙ ap (λ us. little_endian (b ∷ c ∷ []) ∷ us) others

-- and so they are the units of these bytes
pub units_of_front : (count : ℕ) (bytes : List ℕ) → count * 2 ≤ length bytes → units_of_bytes (take (2 * count) bytes) ≡ packed_items 2 count bytes
units_of_front count bytes fits =
    let long : length (take (2 * count) bytes) ≡ 2 * count = length-take-le (2 * count) bytes (omega (arith, fits)) in
    let half : length (take (2 * count) bytes) / 2 ≡ count = omega (arith, long) in
    let twice : 2 * count ≡ count * 2 = omega arith in
    ap (λ k. packed_items 2 k (take (2 * count) bytes)) half
    ∙ ap (λ k. packed_items 2 count (take k bytes)) twice
    ∙ front_units count count bytes (omega arith) fits
    ∙ packed_items-take 2 count count bytes (omega arith)

-- units up to and with their first NUL
pub IsNulTerminated-front : (units : List ℕ) (i : ℕ) → position is_nul units ≡ Some i → IsNulTerminated (take (i + 1) units)
IsNulTerminated-front units i place =
    let found = position-Some is_nul units i 0 place in
    let zero : get_or units i 0 ≡ 0 = grind (arith, common_steps, found.1) in
    let ended : take (i + 1) units ≡ nul_terminated (take i units) = take_more units i 0 found.0 ∙ ap (λ u. take i units ++ u ∷ []) zero in
    let text : without_nul (take (i + 1) units) ≡ take i units = ap without_nul ended ∙ without_nul-nul_terminated (take i units) in
    let none : All (λ u. u ≢ 0) (take i units) = All-from_get_or (λ u. u ≢ 0) (take i units) 0 (λ k h.
    let below : k < i = omega (arith, length-take-le i units (omega (arith, found.0))) in
    let same : get_or (take i units) k 0 ≡ get_or units k 0 = get_or-take i units k 0 below in
    λ e. let other = found.2 k below in grind (arith, common_steps)) in
    (rw text ended, rw text none)

-- the units of bytes up to and with the first NUL
pub IsNulTerminated-bytes : (bytes : List ℕ) (i : ℕ) → position is_nul (units_of_bytes bytes) ≡ Some i
    → (2 * i + 2 ≤ length bytes) × IsNulTerminated (units_of_bytes (take (2 * i + 2) bytes))
IsNulTerminated-bytes bytes i place =
    let inside = (position-Some is_nul (units_of_bytes bytes) i 0 place).0 in
    let count = length-packed_items 2 (length bytes / 2) bytes in
    let fits : 2 * i + 2 ≤ length bytes = omega (arith, inside, count) in
    let long : length (take (2 * i + 2) bytes) ≡ 2 * i + 2 = length-take-le (2 * i + 2) bytes fits in
    let half : length (take (2 * i + 2) bytes) / 2 ≡ i + 1 = omega (arith, long) in
    let twice : 2 * i + 2 ≡ (i + 1) * 2 = omega arith in
    let front : units_of_bytes (take (2 * i + 2) bytes) ≡ take (i + 1) (units_of_bytes bytes) =
    ap (λ k. packed_items 2 k (take (2 * i + 2) bytes)) half
    ∙ ap (λ k. packed_items 2 (i + 1) (take k bytes)) twice
    ∙ front_units (i + 1) (length bytes / 2) bytes (omega (arith, fits)) (omega arith) in
    (fits, subst IsNulTerminated (sym front) (IsNulTerminated-front (units_of_bytes bytes) i place))
