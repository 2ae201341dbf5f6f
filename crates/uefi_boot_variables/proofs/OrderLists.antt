-- Lists in which numbers stand at most once.
use Rattle.std.proofs.Common.{◌≡◌, ◌≢◌, ℕ, suc, ◌+◌, ◌<◌, ◌≤◌, ◌↔◌, ◌∙◌, ap, sym, subst, refl, inl, inr, Bool, true, false, ◌&&◌, ◌||◌, not, cond, eqb, List, [], ◌∷◌, ◌++◌, length, set, take, drop, get_or, Contains, append_assoc, arith}
use Rattle.std.proofs.lemmas.Bool.{cases_Bool, cond_both, eq-eqb, eqb-true, false≢true, ne_eqb, or_parts}
use Rattle.std.proofs.lemmas.Cmp.{nat_eq_equiv}
use Rattle.std.proofs.lemmas.List.{append-nil, length-append, take-append-drop, take_more}
use Rattle.std.proofs.lemmas.List.Edits.{get_or-insert_at}
use Rattle.std.proofs.lemmas.List.Elements.{filter-append, filter_more}
use Rattle.std.proofs.lemmas.List.Folds.{Any-from_list_any, list_any_at, list_any_none}
use Rattle.std.proofs.lemmas.List.Kept.{AllPairs-cons, AllPairs-filter}
use Rattle.std.proofs.lemmas.List.Sorted.{IsPermutation-insert}
use Rattle.std.proofs.lemmas.List.Sums.{count_by-le-length, length-filter}
use Rattle.std.proofs.lemmas.Map.Keys.{IsDistinct-IsPermutation}
use Rattle.std.proofs.lemmas.Map.Made.{AllPairs-from_IsDistinct, IsDistinct-from_AllPairs}
use Rattle.std.proofs.lemmas.Map.Views.{any-filter_same}
use Rattle.std.proofs.lemmas.Grind.{common_steps, elements}
use Rattle.std.specs.Cmp.{unsigned_Decides}
use Rattle.std.specs.Prelude.{insert}
use Rattle.uefi_boot_variables.specs.Orders.{NoTwice, once_each, over, stands_in, with_at, with_front, without}

-- a number stands in a list exactly where the list contains it
pub stands_is_contains : (n : ℕ) (xs : List ℕ) → (stands_in n xs ≡ true) ↔ Contains xs n
stands_is_contains n xs = (
  λ e. let a = Any-from_list_any (λ other. eqb other n) xs e in subst (Contains xs) (eqb-true a.1 n a.4) (a.0, a.2, a.3),
  λ c. list_any_at (λ other. eqb other n) xs c.0 n c.1 (eq-eqb (get_or xs c.0 n) n c.2),
)

-- what stands in a list without a number
stands-without : (m n : ℕ) (xs : List ℕ) → stands_in m (without n xs) ≡ (not (eqb m n) && stands_in m xs)
stands-without m n =
    any-filter_same (λ other. eqb other m) (λ other. not (eqb other n)) (not (eqb m n)) (λ k t. ap (λ j. not (eqb j n)) (eqb-true k m t))

pub gone : (n : ℕ) (xs : List ℕ) → stands_in n (without n xs) ≡ false
gone n xs = stands-without n n xs ∙ ap (λ b. not b && stands_in n xs) (eq-eqb n n refl)

pub others_stay : (m n : ℕ) (xs : List ℕ) → m ≢ n → stands_in m (without n xs) ≡ stands_in m xs
others_stay m n xs ne = stands-without m n xs ∙ ap (λ b. not b && stands_in m xs) (ne_eqb m n ne)

-- a list without a number that does not stand in it is the list
pub without_absent : (n : ℕ) (xs : List ℕ) → stands_in n xs ≡ false → without n xs ≡ xs
without_absent n [] e = refl
without_absent n (x ∷ xs) e =
    let parts = or_parts (eqb x n) (stands_in n xs) e in
    rw parts.0 (ap (λ l. x ∷ l) (without_absent n xs parts.1))

-- lists in which no number stands twice
put_first : (n : ℕ) (xs : List ℕ) → stands_in n xs ≡ false → NoTwice xs → NoTwice (n ∷ xs)
put_first n xs absent =
    AllPairs-cons (λ a b. a ≢ b) n xs
    (λ k d inside same. false≢true (sym absent ∙ list_any_at (λ other. eqb other n) xs k d inside (eq-eqb (get_or xs k d) n (sym same))))

pub put_among : (n : ℕ) (xs : List ℕ) (place : ℕ) → NoTwice xs → stands_in n xs ≡ false → NoTwice (insert xs place n)
put_among n xs place once absent =
    AllPairs-from_IsDistinct unsigned_Decides (insert xs place n)
    (IsDistinct-IsPermutation eqb nat_eq_equiv.symm (n ∷ xs) (insert xs place n) (IsPermutation-insert xs place n)
    (IsDistinct-from_AllPairs unsigned_Decides (n ∷ xs) (put_first n xs absent once)))

first_absent : (x : ℕ) (xs : List ℕ) → NoTwice (x ∷ xs) → stands_in x xs ≡ false
first_absent x xs once =
    list_any_none (λ other. eqb other x) xs
    (λ k d inside. ne_eqb (get_or xs k d) x (λ same. once 0 (suc k) d (omega arith) (omega (arith, inside)) (sym same)))

rest_once : (x : ℕ) (xs : List ℕ) → NoTwice (x ∷ xs) → NoTwice xs
rest_once x xs once = λ i j d below inside. once (suc i) (suc j) d (omega (arith, below)) (omega (arith, inside))

pub without_once : (n : ℕ) (xs : List ℕ) → NoTwice xs → NoTwice (without n xs)
without_once n = AllPairs-filter (λ a b. a ≢ b) (λ other. not (eqb other n))

pub with_at_once : (place n : ℕ) (xs : List ℕ) → NoTwice xs → NoTwice (with_at place n xs)
with_at_once place n xs once = put_among n (without n xs) place (without_once n xs once) (gone n xs)

pub with_front_once : (n : ℕ) (xs : List ℕ) → NoTwice xs → NoTwice (with_front n xs)
with_front_once n xs once =
    cond_both (stands_in n xs) (n ∷ without n xs) xs NoTwice (λ _. put_first n (without n xs) (gone n xs) (without_once n xs once)) (λ _. once)

pub once_each_once : (xs : List ℕ) → NoTwice (once_each xs)
once_each_once [] = λ i j d below inside. absurd (omega arith)
once_each_once (x ∷ xs) = put_first x (without x (once_each xs)) (gone x (once_each xs)) (without_once x (once_each xs) (once_each_once xs))

pub once_each-same : (xs : List ℕ) → NoTwice xs → once_each xs ≡ xs
once_each-same [] once = refl
once_each-same (x ∷ xs) once =
    ap (λ l. x ∷ l) (ap (without x) (once_each-same xs (rest_once x xs once)) ∙ without_absent x xs (first_absent x xs once))

-- each number of a list stands in the list with each once
later : (b s : Bool) → (b || (not b && s)) ≡ (b || s)
later true s = refl
later false s = refl

pub stands-once_each : (m : ℕ) (xs : List ℕ) → stands_in m (once_each xs) ≡ stands_in m xs
stands-once_each m [] = refl
stands-once_each m (x ∷ xs) =
    ap (λ s. eqb x m || s) (stands-without m x (once_each xs) ∙ rw (nat_eq_equiv.symm m x) (ap (λ s. not (eqb x m) && s) (stands-once_each m xs)))
    ∙ later (eqb x m) (stands_in m xs)

-- one number more, unless it stands there already
last : (b s : Bool) (n : ℕ) → cond s [] (cond (not b) (n ∷ []) []) ≡ cond (b || s) [] (n ∷ [])
last true true n = refl
last true false n = refl
last false s n = refl

once_each-push : (xs : List ℕ) (n : ℕ) → once_each (xs ++ n ∷ []) ≡ once_each xs ++ cond (stands_in n xs) [] (n ∷ [])
once_each-push [] n = refl
once_each-push (x ∷ xs) n =
    ap (λ l. x ∷ l) (ap (without x) (once_each-push xs n) ∙ filter-append (λ other. not (eqb other x)) (once_each xs) (cond (stands_in n xs) [] (n ∷ []))
    ∙ ap (λ l. without x (once_each xs) ++ l) (split (stands_in n xs)))
  where
    split : (s : Bool) → without x (cond s [] (n ∷ [])) ≡ cond (eqb x n || s) [] (n ∷ [])
    split true = last (eqb x n) true n
    split false = rw (nat_eq_equiv.symm n x) (last (eqb x n) false n)

pub pushed : (xs : List ℕ) (n : ℕ) (stands : Bool) → NoTwice xs → stands_in n xs ≡ stands → once_each (xs ++ n ∷ []) ≡ xs ++ cond stands [] (n ∷ [])
pushed xs n stands once e =
    once_each-push xs n ∙ ap (λ l. l ++ cond (stands_in n xs) [] (n ∷ [])) (once_each-same xs once) ∙ ap (λ b. xs ++ cond b [] (n ∷ [])) e

-- a beginning with the next number
pub next : (all : List ℕ) (i n : ℕ) → i < length all → n ≡ get_or all i 0
    → once_each (take (i + 1) all) ≡ once_each (take i all) ++ cond (stands_in n (take i all)) [] (n ∷ [])
next all i n inside here =
    ap once_each (take_more all i 0 inside ∙ ap (λ m. take i all ++ m ∷ []) (sym here)) ∙ once_each-push (take i all) n

-- a beginning has no more different numbers than the list
grows : (xs ys : List ℕ) → length (once_each xs) ≤ length (once_each (xs ++ ys))
grows xs [] = omega (arith, ap (λ l. length (once_each l)) (append-nil xs))
grows xs (y ∷ ys) =
    omega (
      arith,
      ap length (once_each-push xs y),
      length-append (once_each xs) (cond (stands_in y xs) [] (y ∷ [])),
      grows (xs ++ y ∷ []) ys,
      ap (λ l. length (once_each l)) (append_assoc xs (y ∷ []) ys),
    )

pub next_fits : (all : List ℕ) (i n : ℕ) → i < length all → n ≡ get_or all i 0 → stands_in n (take i all) ≡ false
    → length (once_each (take i all)) < length (once_each all)
next_fits all i n inside here absent =
    omega (
      arith,
      ap length (next all i n inside here ∙ ap (λ b. once_each (take i all) ++ cond b [] (n ∷ [])) absent),
      length-append (once_each (take i all)) (n ∷ []),
      grows (take (i + 1) all) (drop (i + 1) all),
      ap (λ l. length (once_each l)) (take-append-drop (i + 1) all),
    )

-- the lengths of lists without a number, and with each once
pub within : (n : ℕ) (xs : List ℕ) → length (without n xs) ≤ length xs
within n xs = grind (arith, length-filter (λ other. not (eqb other n)) xs, count_by-le-length (λ other. not (eqb other n)) xs)

pub once_each-short : (xs : List ℕ) → length (once_each xs) ≤ length xs
once_each-short [] = omega arith
once_each-short (x ∷ xs) = omega (arith, within x (once_each xs), once_each-short xs)

-- the others keep their order where a number is put among them
without-insert : (n : ℕ) (ys : List ℕ) (p : ℕ) → without n (take p ys ++ n ∷ drop p ys) ≡ without n ys
without-insert n ys p =
    filter-append (λ other. not (eqb other n)) (take p ys) (n ∷ drop p ys)
    ∙ rw (eq-eqb n n refl) (sym (filter-append (λ other. not (eqb other n)) (take p ys) (drop p ys)) ∙ ap (without n) (take-append-drop p ys))

pub others_keep_order : (place number : ℕ) (numbers : List ℕ) → without number (with_at place number numbers) ≡ without number numbers
others_keep_order place number numbers =
    without-insert number (without number numbers) place ∙ without_absent number (without number numbers) (gone number numbers)

-- a number that is put at a place stands there
pub put_where_asked : (place number : ℕ) (numbers : List ℕ) → place ≤ length (without number numbers)
    → get_or (with_at place number numbers) place 0 ≡ number
put_where_asked place number numbers = get_or-insert_at (without number numbers) place number 0

-- how many numbers are left
pub left_of : (n : ℕ) (xs : List ℕ) → stands_in n xs ≡ true → length (without n xs) < length xs
left_of n [] stands = absurd (false≢true stands)
left_of n (x ∷ xs) stands = elim (cases_Bool (eqb x n)) [
  | inl here ↦ rw here (omega (arith, within n xs))
  | inr other ↦ rw other (omega (arith, left_of n xs (rw other at stands)))
]

pub one_less : (n : ℕ) (xs : List ℕ) → NoTwice xs → stands_in n xs ≡ true → length (without n xs) + 1 ≡ length xs
one_less n [] once stands = absurd (false≢true stands)
one_less n (x ∷ xs) once stands = elim (cases_Bool (eqb x n)) [
  | inl here ↦ rw here (omega (arith, ap length (without_absent n xs (subst (λ m. stands_in m xs ≡ false) (eqb-true x n here) (first_absent x xs once)))))
  | inr other ↦ rw other (omega (arith, one_less n xs (rest_once x xs once) (rw other at stands)))
]

-- the number at a place that the numbers that are kept don't reach
pub not_reached : (front xs places : List ℕ) (k p : ℕ) → k ≡ length front → k ≤ p → places ≡ over front xs → get_or places p 0 ≡ get_or xs p 0
not_reached front xs places k p len within e = rw e (grind (arith, common_steps))

-- a number that stays takes the first place after those before it
moved_on : (front xs : List ℕ) (x : ℕ) → length front < length xs → set (over front xs) (length front) x ≡ over (front ++ x ∷ []) xs
moved_on front xs x below = grind (arith, elements, length-append front (x ∷ []))

one_more : (n : ℕ) (xs : List ℕ) (p : ℕ) → p < length xs
    → without n (take (p + 1) xs) ≡ without n (take p xs) ++ cond (not (eqb (get_or xs p 0) n)) (get_or xs p 0 ∷ []) []
one_more n xs p = filter_more (λ other. not (eqb other n)) xs p 0

pub stays : (n : ℕ) (xs places : List ℕ) (k p : ℕ) → p < length xs → k ≡ length (without n (take p xs)) → k ≤ p
    → places ≡ over (without n (take p xs)) xs → get_or places p 0 ≢ n
    → (k + 1 ≡ length (without n (take (p + 1) xs))) × (set places k (get_or places p 0) ≡ over (without n (take (p + 1) xs)) xs)
stays n xs places k p inside len below e other =
    let here = not_reached (without n (take p xs)) xs places k p len below e in
    let all = one_more n xs p inside ∙ ap (λ b. without n (take p xs) ++ cond (not b) (get_or xs p 0 ∷ []) []) (ne_eqb (get_or xs p 0) n (λ same. other (here ∙ same))) in (
      omega (arith, ap length all, length-append (without n (take p xs)) (get_or xs p 0 ∷ [])),
      rw (here, all, e, len) (moved_on (without n (take p xs)) xs (get_or xs p 0) (omega (arith, len, below))),
    )

pub goes : (n : ℕ) (xs places : List ℕ) (k p : ℕ) → p < length xs → k ≡ length (without n (take p xs)) → k ≤ p
    → places ≡ over (without n (take p xs)) xs → get_or places p 0 ≡ n → without n (take (p + 1) xs) ≡ without n (take p xs)
goes n xs places k p inside len below e same =
    let here = not_reached (without n (take p xs)) xs places k p len below e in
    one_more n xs p inside ∙ ap (λ b. without n (take p xs) ++ cond (not b) (get_or xs p 0 ∷ []) []) (eq-eqb (get_or xs p 0) n (sym here ∙ same))
    ∙ append-nil (without n (take p xs))
