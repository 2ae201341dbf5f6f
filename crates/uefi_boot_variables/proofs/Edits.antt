-- Edits of an order in the first of its places.
use Rattle.std.proofs.Common.{◌≡◌, ℕ, sym, ◌+◌, ◌<◌, ◌≤◌, ◌∙◌, ap, subst, refl, inl, inr, false, cond, ltb, List, [], ◌∷◌, ◌++◌, length, take, drop, min, arith, get_or, set, ◌-◌}
use Rattle.std.proofs.lemmas.Bool.{cases_Bool, le-ltb, lt-ltb}
use Rattle.std.proofs.lemmas.Grind.{common_steps}
use Rattle.std.proofs.lemmas.List.Edits.{insert_end}
use Rattle.std.proofs.lemmas.List.{append-nil, drop-take, drop_all, drop_more, length-append, length-drop, length-take, length-take-le, set_at, take-take}
use Rattle.std.proofs.lemmas.Slice.{drop-append-drop}
use Rattle.std.specs.Prelude.{insert}
use Rattle.uefi_boot_variables.proofs.OrderLists.{left_of, next, stands-once_each, within, without_absent}
use Rattle.uefi_boot_variables.specs.Orders.{NoTwice, once_each, over, stands_in, with_front, without}

-- whether a number stands in a list, by how many numbers are left without it
stands_by_length : (n : ℕ) (xs : List ℕ) → stands_in n xs ≡ ltb (length (without n xs)) (length xs)
stands_by_length n xs = elim (cases_Bool (stands_in n xs)) [
  | inl stands ↦ stands ∙ sym (lt-ltb (length (without n xs)) (length xs) (left_of n xs stands))
  | inr absent ↦ absent ∙ sym (le-ltb (length (without n xs)) (length xs) (omega (arith, ap length (without_absent n xs absent))))
]

pub stood_by_length : (n k len : ℕ) (xs : List ℕ) → k ≡ length (without n xs) → len ≡ length xs → ltb k len ≡ stands_in n xs
stood_by_length n k len xs left all = rw (left, all) (sym (stands_by_length n xs))

pub absent_by_length : (n : ℕ) (xs : List ℕ) → length xs ≤ length (without n xs) → stands_in n xs ≡ false
absent_by_length n xs all = stands_by_length n xs ∙ le-ltb (length (without n xs)) (length xs) all

pub front_same : (n : ℕ) (xs : List ℕ) → length xs ≤ length (without n xs) → with_front n xs ≡ without n xs
front_same n xs all =
    let absent = absent_by_length n xs all in ap (λ b. cond b (n ∷ without n xs) xs) absent ∙ sym (without_absent n xs absent)

pub front_moved : (n : ℕ) (xs : List ℕ) → length (without n xs) < length xs → with_front n xs ≡ n ∷ without n xs
front_moved n xs less =
    ap (λ b. cond b (n ∷ without n xs) xs) (stands_by_length n xs ∙ lt-ltb (length (without n xs)) (length xs) less)

-- numbers over others, of which there are no more
pub over_again : (xs ys places : List ℕ) → length ys ≤ length xs → over xs (over ys places) ≡ over xs places
over_again xs ys places shorter =
    ap (λ (l : List ℕ). xs ++ l) (drop-append-drop (length ys) places ys (length xs) shorter refl)

pub over_length : (xs places : List ℕ) → length xs ≤ length places → length (over xs places) ≡ length places
over_length xs places fits = grind (arith, common_steps)

pub over_front : (xs places : List ℕ) (k : ℕ) → k ≡ length xs → take k (over xs places) ≡ xs
over_front xs places k e = grind (arith, common_steps)

-- the first places over themselves
pub over_same : (len : ℕ) (places : List ℕ) → over (take len places) places ≡ places
over_same len places = grind (arith, common_steps)

-- a place beyond the end is the end
pub insert_min : (xs : List ℕ) (k place n : ℕ) → k ≡ length xs → insert xs (min place k) n ≡ insert xs place n
insert_min xs k place n e = grind (arith, common_steps)

pub insert_length : (xs : List ℕ) (place n : ℕ) → length (insert xs place n) ≡ length xs + 1
insert_length xs place n = grind (arith, common_steps)

-- what an edit makes of places whose first ones hold the numbers without the one that it is about
pub put_over : (xs places made : List ℕ) (k place n : ℕ) → k ≡ length xs → made ≡ over (insert (take k (over xs places)) place n) (over xs places)
    → made ≡ over (insert xs place n) places
put_over xs places made k place n e is =
    is ∙ ap (λ (l : List ℕ). over (insert l place n) (over xs places)) (over_front xs places k e)
    ∙ over_again (insert xs place n) xs places (omega (arith, insert_length xs place n))

-- how many numbers and places there are, with and without a number
pub counts : (n len : ℕ) (places : List ℕ)
    → (length (over (without n (take len places)) places) ≡ length places)
    × (length (take len places) ≡ min len (length places)) × (length (without n (take len places)) ≤ length (take len places))
counts n len places =
    let count = length-take len places in
    let less = within n (take len places) in
    (over_length (without n (take len places)) places (omega (arith, less, count)), count, less)

-- the numbers of the order that an edit leaves
pub edited : (xs places made : List ℕ) (len : ℕ) → made ≡ over xs places → len ≡ length xs → NoTwice xs → (len ≤ length made) × NoTwice (take len made)
edited xs places made len is e once = (
  omega (arith, ap length is, length-append xs (drop (length xs) places), e),
  subst NoTwice (sym (ap (take len) is ∙ over_front xs places len e)) once,
)

-- numbers of which the last goes to a place, where another takes its place
pub rotated : (xs old new after : List ℕ) (place n : ℕ) → place < length xs → old ≡ drop place xs → after ≡ []
    → new ≡ drop (length old - 1) old ++ take (length old - 1) old → set (take place xs ++ (new ++ after)) place n ≡ insert (take (length xs - 1) xs) place n
rotated xs old new after place n inside rest none is =
    let k : ℕ = length old - 1 in
    let count : length old ≡ length xs - place = ap length rest ∙ length-drop place xs in
    let last : drop k old ≡ get_or old k 0 ∷ [] = drop_more old k 0 (omega (arith, count)) ∙ ap (λ (l : List ℕ). get_or old k 0 ∷ l) (drop_all (k + 1) old (omega arith)) in
    let front : take place (take (length xs - 1) xs) ≡ take place xs = take-take place (length xs - 1) xs (omega arith) in
    let back : drop place (take (length xs - 1) xs) ≡ take k (drop place xs) =
    ap (λ (m : ℕ). drop place (take m xs)) {x = length xs - 1} {y = place + k} (omega (arith, count)) ∙ drop-take place k xs in
    ap (λ (l : List ℕ). set (take place xs ++ l) place n)
    ((λ i. is i ++ none i) ∙ append-nil (drop k old ++ take k old) ∙ ap (λ (l : List ℕ). l ++ take k old) last)
    ∙ set_at (take place xs) (get_or old k 0) (take k old) n place (length-take-le place xs (omega arith))
    ∙ (λ i. take place xs ++ n ∷ take k (rest i))
    ∙ sym (λ i. front i ++ n ∷ back i)

-- a number stands in the places that an order was copied to so far exactly where it stood before in the order
pub stood_before : (all old places : List ℕ) (i len n : ℕ) → len ≡ length (once_each (take i all))
    → places ≡ over (once_each (take i all)) old → stands_in n (take i all) ≡ stands_in n (take len places)
stood_before all old places i len n counted so_far =
    sym (stands-once_each n (take i all)) ∙ ap (stands_in n) (sym (ap (take len) so_far ∙ over_front (once_each (take i all)) old len counted))

-- places after one more number of an order
pub copied_new : (all old places made : List ℕ) (i len n : ℕ) → i < length all → n ≡ get_or all i 0
    → len ≡ length (once_each (take i all)) → places ≡ over (once_each (take i all)) old → stands_in n (take i all) ≡ false
    → made ≡ over (insert (take len places) len n) places
    → (len + 1 ≡ length (once_each (take (i + 1) all))) × (made ≡ over (once_each (take (i + 1) all)) old)
copied_new all old places made i len n inside here counted so_far absent e =
    let zs = once_each (take i all) in
    let more : once_each (take (i + 1) all) ≡ zs ++ n ∷ [] = next all i n inside here ∙ ap (λ b. zs ++ cond b [] (n ∷ [])) absent in (
      omega (arith, ap length more, length-append zs (n ∷ [])),
      put_over zs old made len len n counted (rw (← so_far) e)
          ∙ ap (λ l. over l old) (ap (λ k. insert zs k n) counted ∙ insert_end zs n ∙ sym more),
    )
