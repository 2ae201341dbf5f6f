-- The laws of numbers in bytes, of bytes with letters between them, of GUIDs, and of IP addresses.
use Rattle.std.proofs.Common.{◌≡◌, ℕ, zero, suc, ◌+◌, ◌*◌, ◌/◌, ◌%◌, ◌^◌, ◌<◌, Bool, true, not, List, [], ◌∷◌, ◌++◌, length, take, drop, reverse, refl, ap, sym, subst, arith, length-append, length-drop}
use native.Mathlib.Nat.{pow-suc, pow-zero}
use Rattle.std.proofs.lemmas.List.{append-nil, drop-drop, length-take, take-append-drop, take_all}
use Rattle.std.specs.List.{flat_map, join_by}
use Rattle.std.specs.Prelude.{codes}
use Rattle.uefi_text.specs.Packed.{little_endian}
use Rattle.uefi_device_nodes.specs.FieldTexts.{dashed_back, hex_bytes, hex_two}
use Rattle.uefi_device_nodes.specs.Guids.{guid_text}
use Rattle.uefi_node_steps.specs.Leaves.{ByteLeaf, FitBeside, IsBytes, Leaf, Number, after, apart, backwards, behind_each, beside, between, dashed, decimal, ends_at, from_digits, guid, guid_parts, have_no_blank, in_bytes, groups, ipv4, is_blank, low_bytes, nothing, pairs}
use Rattle.uefi_node_steps.proofs.DataLaws.{Begins, are_small, back_begins, backwards_keeps, begins_more, each_append, from_digits_keeps, hex_begins, pairs_keeps, reversed}
use Rattle.uefi_node_steps.proofs.LeafLaws.{after_keeps}
use Rattle.uefi_node_steps.proofs.Combinations.{Keeps, beside_keeps, keeps_as, mapped_keeps, nothing_keeps}
use Rattle.uefi_node_steps.proofs.Numbers.{decimal_keeps}

-- the bytes of numbers
low_are : (width n : ℕ) → IsBytes width (low_bytes width n)
low_are zero n = (refl, tt)
low_are (suc width) n = let others = low_are width (n / 256) in (omega (arith, others.0), (omega arith, others.1))

pub low_is : (width n : ℕ) → n < 256 ^ width → little_endian (low_bytes width n) ≡ n
low_is zero n l = omega (arith, pow-zero 256)
low_is (suc width) n l = let others = low_is width (n / 256) (omega (arith, pow-suc 256 width)) in omega (arith, others)

pub number_small : (width : ℕ) (bytes : List ℕ) → IsBytes width bytes → little_endian bytes < 256 ^ width
number_small zero [] f = omega (arith, pow-zero 256)
number_small zero (b ∷ bytes) f = absurd (omega (arith, f.0))
number_small (suc width) [] f = absurd (omega (arith, f.0))
number_small (suc width) (b ∷ bytes) f = omega (arith, pow-suc 256 width, f.1.0, number_small width bytes (omega (arith, f.0), f.1.1))

number_is : (width : ℕ) (bytes : List ℕ) → IsBytes width bytes → low_bytes width (little_endian bytes) ≡ bytes
number_is zero [] f = refl
number_is zero (b ∷ bytes) f = absurd (omega (arith, f.0))
number_is (suc width) [] f = absurd (omega (arith, f.0))
number_is (suc width) (b ∷ bytes) f =
    let low : (b + 256 * little_endian bytes) % 256 ≡ b = omega (arith, f.1.0) in
    let high : (b + 256 * little_endian bytes) / 256 ≡ little_endian bytes = omega (arith, f.1.0) in
    rw (low, high) (ap (λ x. b ∷ x) (number_is width bytes (omega (arith, f.0), f.1.1)))

-- a number in the bytes of a field
pub in_bytes_keeps : (width : ℕ) (leaf : Leaf ℕ) (Fits : ℕ → Type 0) (ends : List ℕ → Bool) → Keeps leaf Fits ends → ((n : ℕ) → Fits n → n < 256 ^ width)
    → Keeps (in_bytes width leaf) (λ bytes. IsBytes width bytes × Fits (little_endian bytes)) ends
in_bytes_keeps width leaf Fits ends keeps small = mapped_keeps (low_bytes width) little_endian leaf Fits (λ bytes. IsBytes width bytes × Fits (little_endian bytes)) ends keeps
    (λ n f. let same = low_is width n (small n f) in ((low_are width n, rw same f), same)) (λ bytes f. (f.1, number_is width bytes f.0))

pub number_keeps : (width : ℕ) (leaf : Leaf ℕ) → Keeps leaf (λ n. n < 256 ^ width) (ends_at Number) → Keeps (in_bytes width leaf) (IsBytes width) (ends_at Number)
number_keeps width leaf keeps = mapped_keeps (low_bytes width) little_endian leaf (λ n. n < 256 ^ width) (IsBytes width) (ends_at Number) keeps
    (λ n f. (low_are width n, low_is width n f)) (λ bytes f. (number_small width bytes f, number_is width bytes f))

-- the first bytes, and the others
each_front : (xs ys : List ℕ) → are_small (xs ++ ys) → are_small xs × are_small ys
each_front [] ys f = (tt, f)
each_front (x ∷ xs) ys f = let others = each_front xs ys f.1 in ((f.0, others.0), others.1)

split_bytes : (m n : ℕ) (bytes : List ℕ) → IsBytes (m + n) bytes → FitBeside m (IsBytes m) (IsBytes n) bytes
split_bytes m n bytes f =
    let small = each_front (take m bytes) (drop m bytes) (subst are_small (sym (take-append-drop m bytes)) f.1) in
    ((omega (arith, length-take m bytes, f.0), small.0), (omega (arith, length-drop m bytes, f.0), small.1))

join_bytes : (m n : ℕ) (bytes : List ℕ) → FitBeside m (IsBytes m) (IsBytes n) bytes → IsBytes (m + n) bytes
join_bytes m n bytes f =
    subst (IsBytes (m + n)) (take-append-drop m bytes)
    (omega (arith, length-append (take m bytes) (drop m bytes), f.0.0, f.1.0), each_append (take m bytes) (drop m bytes) f.0.1 f.1.1)

pub beside_bytes : (m n : ℕ) (a b : ByteLeaf) (ends_a ends_b ends : List ℕ → Bool) → Keeps a (IsBytes m) ends_a → Keeps b (IsBytes n) ends_b
    → ((vs rest : List ℕ) → ends rest ≡ true → ends_a (b.text vs ++ rest) ≡ true) → ((rest : List ℕ) → ends rest ≡ true → ends_b rest ≡ true)
    → Keeps (beside m a b) (IsBytes (m + n)) ends
beside_bytes m n a b ends_a ends_b ends ka kb follows last = keeps_as (beside m a b) (beside m a b).text (FitBeside m (IsBytes m) (IsBytes n)) (IsBytes (m + n)) ends
    (beside_keeps m a b (IsBytes m) (IsBytes n) ends_a ends_b ends ka kb (λ v f. f.0) (λ vs rest f e. follows vs rest e) last)
    (λ v f. (split_bytes m n v f, refl)) (λ v f. (join_bytes m n v f, refl))

-- the same where nothing continues a value
pub beside_closed : (m n : ℕ) (a b : ByteLeaf) → Keeps a (IsBytes m) (λ rest. true) → Keeps b (IsBytes n) (λ rest. true) → Keeps (beside m a b) (IsBytes (m + n)) (λ rest. true)
beside_closed m n a b ka kb = beside_bytes m n a b (λ rest. true) (λ rest. true) (λ rest. true) ka kb (λ vs rest e. refl) (λ rest e. refl)

no_bytes : (ends : List ℕ → Bool) → Keeps (nothing {V = ℕ}) (IsBytes 0) ends
no_bytes ends = record { again = λ v rest f e. none.again v rest f refl; goes = none.goes }
  where
    empty : (v : List ℕ) → length v ≡ 0 → v ≡ []
    empty [] e = refl
    empty (x ∷ xs) e = absurd (omega (arith, e))

    none : Keeps (nothing {V = ℕ}) (IsBytes 0) (λ rest. true)
    none = keeps_as nothing (λ vs. []) (λ vs. vs ≡ []) (IsBytes 0) (λ rest. true) nothing_keeps (λ v f. (empty v f.0, refl)) (λ v f. (rw f (refl, tt), refl))

-- values with letters between each two
module _ (c : ℕ) (cs : List ℕ) (blanks : have_no_blank (c ∷ cs) ≡ true) (width : ℕ) (leaf : ByteLeaf) (ends : List ℕ → Bool)
    (keeps : Keeps leaf (IsBytes width) ends) (first : (rest : List ℕ) → ends (c ∷ rest) ≡ true) where
  follows : (count : ℕ) (vs rest : List ℕ) → ends rest ≡ true → ends ((behind_each (c ∷ cs) width leaf count).text vs ++ rest) ≡ true
  follows zero vs rest e = e
  follows (suc count) vs rest e = first _

  behind_keeps : (count : ℕ) → Keeps (behind_each (c ∷ cs) width leaf count) (IsBytes (count * width)) ends
  behind_keeps zero = let none : 0 ≡ 0 * width = grind arith in subst (λ (n : ℕ). Keeps (nothing {V = ℕ}) (IsBytes n) ends) none (no_bytes ends)
  behind_keeps (suc count) =
      let more : width + count * width ≡ suc count * width = grind arith in
      subst (λ (n : ℕ). Keeps (behind_each (c ∷ cs) width leaf (suc count)) (IsBytes n) ends) more
      (beside_bytes width (count * width) (after (c ∷ cs) leaf) (behind_each (c ∷ cs) width leaf count) ends ends ends (after_keeps (c ∷ cs) blanks leaf (IsBytes width) ends keeps)
      (behind_keeps count)
      (follows count) (λ rest e. e))

  pub between_keeps : (count : ℕ) → Keeps (between (c ∷ cs) width leaf count) (IsBytes (width + count * width)) ends
  between_keeps count = beside_bytes width (count * width) leaf (behind_each (c ∷ cs) width leaf count) ends ends ends keeps (behind_keeps count) (follows count) (λ rest e. e)

-- bytes with letters between them
front_begins : (m : ℕ) (n : ℕ) (bytes : List ℕ) → 0 < m → IsBytes (m + n) bytes → Begins (hex_bytes (take m bytes))
front_begins m n bytes l f = let front = (split_bytes m n bytes f).0 in hex_begins (take m bytes) (omega (arith, front.0, l)) front.1

pub apart_keeps : (c count : ℕ) → not (is_blank c) ≡ true → Keeps (apart (c ∷ []) count) (IsBytes count) (λ rest. true)
apart_keeps c zero blank = no_bytes (λ rest. true)
apart_keeps c (suc count) blank =
    let all : 1 + count * 1 ≡ suc count = omega arith in
    let no_blank : have_no_blank (c ∷ []) ≡ true = rw blank refl in
    from_digits_keeps (between (c ∷ []) 1 (pairs 1) count) (IsBytes (suc count)) (λ rest. true)
    (subst (λ (n : ℕ). Keeps (between (c ∷ []) 1 (pairs 1) count) (IsBytes n) (λ rest. true)) all (between_keeps c [] no_blank 1 (pairs 1) (λ rest. true) (pairs_keeps 1) (λ rest. refl) count))
    (λ v f. begins_more _ _ (front_begins 1 count v (omega arith) (omega (arith, f.0), f.1)))

dashes : (count : ℕ) (bytes : List ℕ) → length bytes ≡ count → (behind_each (codes "-") 1 (pairs 1) count).text bytes ≡ flat_map (λ b. codes "-" ++ hex_two b) bytes
unfolding hex_bytes
dashes zero [] l = refl
dashes zero (b ∷ bytes) l = absurd (omega (arith, l))
dashes (suc count) [] l = absurd (omega (arith, l))
dashes (suc count) (b ∷ bytes) l = λ i. 45 ∷ (append-nil (hex_two b) i ++ dashes count bytes (omega (arith, l)) i)

apart_is : (count : ℕ) (bytes : List ℕ) → length bytes ≡ count → (apart (codes "-") count).text bytes ≡ join_by hex_two (codes "-") bytes
unfolding hex_bytes
apart_is zero [] l = refl
apart_is zero (b ∷ bytes) l = absurd (omega (arith, l))
apart_is (suc count) [] l = absurd (omega (arith, l))
apart_is (suc count) (b ∷ bytes) l = λ i. append-nil (hex_two b) i ++ dashes count bytes (omega (arith, l)) i

pub dashed_keeps : (count : ℕ) → Keeps (dashed count) (IsBytes count) (λ rest. true)
unfolding dashed_back
dashed_keeps count = keeps_as turned dashed_back (IsBytes count) (IsBytes count) (λ rest. true)
    (mapped_keeps reverse reverse (apart (codes "-") count) (IsBytes count) (IsBytes count) (λ rest. true) (apart_keeps 45 count refl) (reversed count) (reversed count))
    (λ v f. (f, sym (same v f))) (λ v f. (f, same v f))
  where
    turned : ByteLeaf
    turned = record { text = λ v. (apart (codes "-") count).text (reverse v); read = (dashed count).read }

    same : (v : List ℕ) → IsBytes count v → (apart (codes "-") count).text (reverse v) ≡ join_by hex_two (codes "-") (reverse v)
    same v f = apart_is count (reverse v) (reversed count v f).0.0

-- a GUID
guid_is : (bytes : List ℕ) → length bytes ≡ 16 → guid_parts.text bytes ≡ guid_text bytes
unfolding guid_text
guid_is bytes l =
    let second : drop 2 (drop 4 bytes) ≡ drop 6 bytes = drop-drop 2 4 bytes in
    let third : drop 2 (drop 6 bytes) ≡ drop 8 bytes = drop-drop 2 6 bytes in
    let fourth : drop 2 (drop 8 bytes) ≡ drop 10 bytes = drop-drop 2 8 bytes in
    let all : take 6 (drop 10 bytes) ≡ drop 10 bytes = take_all 6 (drop 10 bytes) (omega (arith, l, length-drop 10 bytes)) in
    rw (second, third, fourth, all) refl

parts_keep : Keeps guid_parts (IsBytes 16) (λ rest. true)
parts_keep = beside_closed 4 12 (backwards 4) _ (backwards_keeps 4) (beside_closed 2 10 _ _ (dash 2 (backwards 2) (backwards_keeps 2)) (beside_closed 2 8 _ _ (dash 2 (backwards 2) (backwards_keeps 2))
    (beside_closed 2 6 _ _ (dash 2 (pairs 2) (pairs_keeps 2)) (dash 6 (pairs 6) (pairs_keeps 6)))))
  where
    dash : (width : ℕ) (leaf : ByteLeaf) → Keeps leaf (IsBytes width) (λ rest. true) → Keeps (after (codes "-") leaf) (IsBytes width) (λ rest. true)
    dash width leaf keeps = after_keeps (codes "-") refl leaf (IsBytes width) (λ rest. true) keeps

pub guid_keeps : Keeps guid (IsBytes 16) (λ rest. true)
guid_keeps = keeps_as (from_digits guid_parts) guid_text (IsBytes 16) (IsBytes 16) (λ rest. true)
    (from_digits_keeps guid_parts (IsBytes 16) (λ rest. true) parts_keep
    (λ v f. let front = (split_bytes 4 12 v f).0 in begins_more _ _ (back_begins (take 4 v) (omega (arith, front.0)) front.1)))
    (λ v f. (f, sym (guid_is v f.0))) (λ v f. (f, guid_is v f.0))

-- addresses
pub ipv4_keeps : Keeps ipv4 (IsBytes 4) (ends_at Number)
ipv4_keeps = between_keeps 46 [] refl 1 (in_bytes 1 (decimal 256)) (ends_at Number) (number_keeps 1 (decimal 256) (decimal_keeps 256 (omega arith) (omega arith))) (λ rest. refl) 3

pub groups_keep : Keeps groups (IsBytes 16) (λ rest. true)
groups_keep = from_digits_keeps (between (codes ":") 2 (pairs 2) 7) (IsBytes 16) (λ rest. true) (between_keeps 58 [] refl 2 (pairs 2) (λ rest. true) (pairs_keeps 2) (λ rest. refl) 7)
    (λ v f. begins_more _ _ (front_begins 2 14 v (omega arith) f))
