-- Bytes that are put into a buffer one after the other, and counted.
use Rattle.std.proofs.Common.{◌≡◌, ℕ, zero, suc, ◌+◌, ◌-◌, ◌^◌, ◌<◌, ◌≤◌, min, set, take, drop, Bool, true, false, ltb, leb, List, [], ◌∷◌, ◌++◌, length, length-append, refl, sym, ap, ◌∙◌, append_assoc, arith}
use Rattle.std.proofs.lemmas.List.{append-nil, drop-set-lt, drop_all, length-set, length-take-le, set_past, take_all, take_at, take_more_set, take-append-drop}
use Rattle.std.proofs.Math.Seq.{take-append-add}
use Rattle.std.proofs.lemmas.Bool.{leb-false, leb-true, ltb-false, ltb-true}
use Rattle.uefi_node_reader.specs.CountedBytes.{pushed_bytes, pushed_byte}

-- first some, and then others
pub pushed_bytes-append : (state : List ℕ × ℕ) (xs ys : List ℕ) → pushed_bytes state (xs ++ ys) ≡ pushed_bytes (pushed_bytes state xs) ys
pushed_bytes-append state [] ys = refl
pushed_bytes-append state (x ∷ xs) ys = pushed_bytes-append (pushed_byte state x) xs ys

-- a byte, before the count is as high as it gets
step : (p : List ℕ) (n b : ℕ) → n + 1 ≤ 2 ^ 64 - 1 → pushed_byte (p, n) b ≡ (set p n b, n + 1)
step p n b few = let same : min (n + 1) (2 ^ 64 - 1) ≡ n + 1 = omega (arith, few) in ap (λ (k : ℕ). (set p n b, k)) same

-- bytes for which there is no room are only counted
pub past : (c p : List ℕ) (n : ℕ) → length p ≤ n → n ≤ 2 ^ 64 - 1 → pushed_bytes (p, n) c ≡ (p, min (n + length c) (2 ^ 64 - 1))
past [] p n l small = ap (λ (k : ℕ). (p, k)) {x = n} {y = min (n + 0) (2 ^ 64 - 1)} (omega (arith, small))
past (b ∷ bs) p n l small =
    let next : ℕ = min (n + 1) (2 ^ 64 - 1) in
    ap (λ (q : List ℕ). pushed_bytes (q, next) bs) (set_past p n b l)
    ∙ past bs p next (omega (arith, l, small)) (omega arith)
    ∙ ap (λ (k : ℕ). (p, k)) {x = min (next + length bs) (2 ^ 64 - 1)} {y = min (n + length (b ∷ bs)) (2 ^ 64 - 1)} (omega arith)

no_bytes : (k : ℕ) → ◌≡◌ {A = List ℕ} [] (take k [])
no_bytes zero = refl
no_bytes (suc k) = refl

-- bytes from a place of a buffer on
pub pushed_is : (c p : List ℕ) (n : ℕ) → n ≤ length p → n + length c ≤ 2 ^ 64 - 1
    → pushed_bytes (p, n) c ≡ (take n p ++ (take (length p - n) c ++ drop (n + length c) p), n + length c)
pushed_is [] p n l few =
    (λ i. (sym (take-append-drop n p) i, n)) ∙ ap (λ (k : ℕ). (take n p ++ ([] ++ drop k p), k)) {x = n} {y = n + 0} (omega arith)
    ∙ ap (λ (f : List ℕ). (take n p ++ (f ++ drop (n + 0) p), n + 0)) (no_bytes (length p - n))
pushed_is (b ∷ bs) p n l few = by (ltb n (length p)) refl (pushed_is bs (set p n b) (n + 1))
  where
    by : (t : Bool) → ltb n (length p) ≡ t → (n + 1 ≤ length (set p n b) → n + 1 + length bs ≤ 2 ^ 64 - 1
        → pushed_bytes (set p n b, n + 1) bs ≡ (take (n + 1) (set p n b) ++ (take (length (set p n b) - (n + 1)) bs ++ drop (n + 1 + length bs) (set p n b)), n + 1 + length bs))
        → pushed_bytes (pushed_byte (p, n) b) bs ≡ (take n p ++ (take (length p - n) (b ∷ bs) ++ drop (n + length (b ∷ bs)) p), n + length (b ∷ bs))
    by true e others =
        let h : n < length p = ltb-true n (length p) e in
        let q : List ℕ = set p n b in
        let size : length q ≡ length p = length-set p n b in
        let left : length p - n ≡ suc (length p - (n + 1)) = omega (arith, h) in
        let rest : List ℕ = take (length p - (n + 1)) bs ++ drop (n + 1 + length bs) p in
        ap (λ (s : List ℕ × ℕ). pushed_bytes s bs) (step p n b (omega (arith, few)))
        ∙ others (omega (arith, h, size)) (omega (arith, few))
        ∙ (λ i. (take_more_set p n b h i ++ (take (size i - (n + 1)) bs ++ drop-set-lt (n + 1 + length bs) p n b (omega arith) i), n + 1 + length bs))
        ∙ ap (λ (f : List ℕ). (f, n + 1 + length bs)) (append_assoc (take n p) (b ∷ []) rest)
        ∙ ap (λ (k : ℕ). (take n p ++ (b ∷ (take (length p - (n + 1)) bs ++ drop k p)), k)) {x = n + 1 + length bs} {y = n + suc (length bs)} (omega arith)
        ∙ ap (λ (k : ℕ). (take n p ++ (take k (b ∷ bs) ++ drop (n + suc (length bs)) p), n + suc (length bs))) (sym left)
    by false e others =
        let h : length p ≤ n = ltb-false n (length p) e in
        let none : length p - n ≡ 0 = omega (arith, h) in
        past (b ∷ bs) p n h (omega (arith, few))
        ∙ ap (λ (k : ℕ). (p, k)) {x = min (n + length (b ∷ bs)) (2 ^ 64 - 1)} {y = n + length (b ∷ bs)} (omega (arith, few))
        ∙ ap (λ (f : List ℕ). (f, n + length (b ∷ bs))) (sym (append-nil p))
        ∙ (λ i. (sym (take_all n p h) i ++ ([] ++ sym (drop_all (n + length (b ∷ bs)) p (omega (arith, h))) i), n + length (b ∷ bs)))
        ∙ ap (λ (k : ℕ). (take n p ++ (take k (b ∷ bs) ++ drop (n + length (b ∷ bs)) p), n + length (b ∷ bs))) (sym none)

-- what stands before the place is kept
pub front_kept : (c p : List ℕ) (n : ℕ) → n ≤ length p → n + length c ≤ 2 ^ 64 - 1 → take n (pushed_bytes (p, n) c).0 ≡ take n p
front_kept c p n l few =
    ap (λ (s : List ℕ × ℕ). take n s.0) (pushed_is c p n l few)
    ∙ take_at (take n p) (take (length p - n) c ++ drop (n + length c) p) n (length-take-le n p l)

-- the first bytes of a part and those after it, as many as there is room for
pub first_shown : (c p : List ℕ) (n : ℕ) → n ≤ length p → n + length c ≤ 2 ^ 64 - 1
    → take (n + length c) (pushed_bytes (p, n) c).0 ≡ take (length p) (take n p ++ c)
first_shown c p n l few = ap (λ (s : List ℕ × ℕ). take (n + length c) s.0) (pushed_is c p n l few) ∙ by (leb (n + length c) (length p)) refl
  where
    size : length (take n p) ≡ n
    size = length-take-le n p l

    by : (t : Bool) → leb (n + length c) (length p) ≡ t
        → take (n + length c) (take n p ++ (take (length p - n) c ++ drop (n + length c) p)) ≡ take (length p) (take n p ++ c)
    by true e =
        let h : n + length c ≤ length p = leb-true (n + length c) (length p) e in
        let both : length (take n p ++ c) ≡ n + length c = length-append (take n p) c ∙ ap (λ (k : ℕ). k + length c) size in
        ap (λ (x : List ℕ). take (n + length c) (take n p ++ (x ++ drop (n + length c) p))) (take_all (length p - n) c (omega (arith, h)))
        ∙ ap (λ (x : List ℕ). take (n + length c) x) (sym (append_assoc (take n p) c (drop (n + length c) p)))
        ∙ take_at (take n p ++ c) (drop (n + length c) p) (n + length c) both
        ∙ sym (take_all (length p) (take n p ++ c) (omega (arith, h, both)))
    by false e =
        let h : length p < n + length c = leb-false (n + length c) (length p) e in
        let short : List ℕ = take n p ++ take (length p - n) c in
        let some : length (take (length p - n) c) ≡ length p - n = length-take-le (length p - n) c (omega (arith, h, l)) in
        let room : length short ≡ length p = length-append (take n p) (take (length p - n) c) ∙ (λ i. size i + some i) ∙ omega (arith, l) in
        let sum : length (take n p) + (length p - n) ≡ length p = ap (λ (k : ℕ). k + (length p - n)) size ∙ omega (arith, l) in
        ap (λ (x : List ℕ). take (n + length c) (take n p ++ (take (length p - n) c ++ x))) (drop_all (n + length c) p (omega (arith, h)))
        ∙ ap (λ (x : List ℕ). take (n + length c) (take n p ++ x)) (append-nil (take (length p - n) c))
        ∙ take_all (n + length c) short (omega (arith, h, room))
        ∙ sym (take-append-add (take n p) c (length p - n)) ∙ ap (λ (k : ℕ). take k (take n p ++ c)) sum

-- a whole buffer is what was put into it
pub whole_written : (a c p : List ℕ) → length p ≡ length (a ++ c) → length p ≤ 2 ^ 64 - 1 → (pushed_bytes (pushed_bytes (p, 0) a) c).0 ≡ a ++ c
whole_written a c p same few =
    let all : List ℕ = a ++ c in
    ap (λ (s : List ℕ × ℕ). s.0) (sym (pushed_bytes-append (p, 0) a c) ∙ pushed_is all p 0 (omega arith) (omega (arith, same, few)))
    ∙ (λ i. take_all (length p - 0) all (omega (arith, same)) i ++ drop_all (0 + length all) p (omega (arith, same)) i)
    ∙ append-nil all

-- how many bytes were put, as far as they are counted
pub counted : (c p : List ℕ) (n : ℕ) → n ≤ 2 ^ 64 - 1 → (pushed_bytes (p, n) c).1 ≡ min (n + length c) (2 ^ 64 - 1)
counted [] p n l = omega (arith, l)
counted (b ∷ bs) p n l =
    let next : ℕ = min (n + 1) (2 ^ 64 - 1) in
    let small : next ≤ 2 ^ 64 - 1 = omega arith in
    counted bs (set p n b) next small ∙ omega (arith, l)

-- bytes that were put at the start of a longer buffer
pub copied : (old new bytes : List ℕ) (len : ℕ) → (new, len) ≡ pushed_bytes (old, 0) bytes → length bytes ≤ length old
    → length bytes ≤ 2 ^ 64 - 1 → (len ≤ length old) × (take len new ≡ bytes)
copied old new bytes len e l few =
    let count : len ≡ min (0 + length bytes) (2 ^ 64 - 1) = ap (λ (s : List ℕ × ℕ). s.1) e ∙ counted bytes old 0 (omega arith) in
    let exact : len ≡ 0 + length bytes = omega (arith, few, count) in (
      omega (arith, exact, l),
      (λ i. take (exact i) (e i).0) ∙ first_shown bytes old 0 (omega arith) (omega (arith, few))
          ∙ take_all (length old) bytes l,
    )

-- four parts one after the other
pub four_put : (z a b m g : List ℕ) (s t u v : List ℕ × ℕ) → s ≡ pushed_bytes (z, 0) a → t ≡ pushed_bytes s b → u ≡ pushed_bytes t m
    → v ≡ pushed_bytes u g → length a + (length b + (length m + length g)) ≤ 56 → length z ≡ 56 → (v.1 ≤ 56) × (take v.1 v.0 ≡ a ++ (b ++ (m ++ g)))
four_put z a b m g s t u v e f h k size room =
    let all : List ℕ = a ++ (b ++ (m ++ g)) in
    let whole : length all ≡ length a + (length b + (length m + length g)) =
    length-append a (b ++ (m ++ g)) ∙ ap (λ (n : ℕ). length a + n) (length-append b (m ++ g) ∙ ap (λ (n : ℕ). length b + n) (length-append m g)) in
    let put : v ≡ pushed_bytes (z, 0) all =
    k ∙ ap (λ (x : List ℕ × ℕ). pushed_bytes x g) (h ∙ ap (λ (x : List ℕ × ℕ). pushed_bytes x m) (f ∙ ap (λ (x : List ℕ × ℕ). pushed_bytes x b) e))
    ∙ sym (pushed_bytes-append (z, 0) a (b ++ (m ++ g)) ∙ pushed_bytes-append (pushed_bytes (z, 0) a) b (m ++ g) ∙ pushed_bytes-append (pushed_bytes (pushed_bytes (z, 0) a) b) m g) in
    let is = copied z v.0 all v.1 put (omega (arith, whole, size, room)) (omega (arith, whole, size)) in
    (omega (arith, is.0, room), is.1)
