-- Trimming: once is enough, and upper case makes no difference to it.
use Rattle.std.proofs.Common.{◌≡◌, ◌+◌, ◌-◌, ◌≤◌, ◌<◌, ℕ, zero, suc, Bool, true, false, cond, List, [], ◌∷◌, ◌++◌, map, take, drop, length, reverse, arith, ap, sym, refl, subst, ◌∙◌, get_or, append_assoc, inl, inr, length-drop}
use Rattle.std.specs.List.{AllPass, prefix_len, suffix_len}
use mathlib.Core.List.{reverse_aux}
use Rattle.std.proofs.lemmas.Bool.{cases_Bool, cases_lt, cond-false, cond-true, false_from_ne_true}
use Rattle.std.proofs.lemmas.Bool.Decides.{nat_tests}
use Rattle.std.proofs.lemmas.List.{drop-map, get_or-drop, get_or-reverse, length-map, length-reverse, reverse-append, take-append-drop, take-map, take_all}
use Rattle.std.proofs.lemmas.List.Elements.{All-cons, All-from_get_or, All-nil}
use Rattle.std.proofs.lemmas.List.Sums.{prefix_len-drop_all, prefix_len-drop_no, prefix_len_passes, prefix_len_stops, suffix_len-le-length, suffix_len-take_no}
use Rattle.uefi_text.specs.Case.{upper, uppers}
use Rattle.uefi_fat.specs.Trimming.{is_space, is_space_or_dot, trimmed, without_leading, without_trailing}

-- nothing is left to be trimmed at the start
none_leading : (p : ℕ → Bool) (xs : List ℕ) → prefix_len p (without_leading p xs) ≡ 0
none_leading p xs =
    elim (cases_lt (prefix_len p xs) (length xs)) [
      | inl inside ↦ prefix_len-drop_no p xs (prefix_len p xs) 0 inside (prefix_len_stops p xs 0 inside)
      | inr all ↦ prefix_len-drop_all p xs (prefix_len p xs) all
    ]

-- nor at the end
none_trailing : (p : ℕ → Bool) (xs : List ℕ) → suffix_len p (without_trailing p xs) ≡ 0
none_trailing p xs =
    let many = suffix_len p xs in
    let few : many ≤ length xs = suffix_len-le-length p xs in
    elim (cases_lt many (length xs)) [
      | inl inside ↦
          let turned : many < length (reverse xs) = omega (arith, length-reverse xs) in
          let end : length xs - 1 - many ≡ length xs - many - 1 = omega arith in
          let fails : p (get_or xs (length xs - many - 1) 0) ≡ false =
          subst (λ i. p (get_or xs i 0) ≡ false) end
          (subst (λ x. p x ≡ false) (get_or-reverse xs many 0 inside) (prefix_len_stops p (reverse xs) 0 turned)) in
          suffix_len-take_no p xs (length xs - many) 0 (omega arith) (omega arith) fails
      | inr all ↦
          let none : length xs - many ≡ 0 = omega arith in
          subst (λ n. suffix_len p (take n xs) ≡ 0) (sym none) refl
    ]

-- a beginning begins as the whole does
begins : (p : ℕ → Bool) (xs : List ℕ) (n : ℕ) → prefix_len p xs ≡ 0 → prefix_len p (take n xs) ≡ 0
begins p [] zero e = refl
begins p [] (suc n) e = refl
begins p (x ∷ xs) zero e = refl
begins p (x ∷ xs) (suc n) e =
    elim (cases_Bool (p x)) [
      | inl passes ↦
          let more : prefix_len p (x ∷ xs) ≡ 1 + prefix_len p xs = cond-true (p x) (1 + prefix_len p xs) 0 passes in
          absurd (omega (arith, more, e))
      | inr fails ↦ cond-false (p x) (1 + prefix_len p (take n xs)) 0 fails
    ]

pub trimmed_once : (name : List ℕ) → trimmed (trimmed name) ≡ trimmed name
trimmed_once name =
    let rest = without_leading is_space name in
    let part = trimmed name in
    let leading : without_leading is_space part ≡ part =
    ap (λ n. drop n part) (begins is_space rest (length rest - suffix_len is_space_or_dot rest) (none_leading is_space name)) in
    let none : suffix_len is_space_or_dot part ≡ 0 = none_trailing is_space_or_dot rest in
    let whole : length part ≤ length part - suffix_len is_space_or_dot part = omega (arith, none) in
    ap (without_trailing is_space_or_dot) leading ∙ take_all (length part - suffix_len is_space_or_dot part) part whole

-- a test that a map leaves alone counts the same
prefix_len-map : (p : ℕ → Bool) (f : ℕ → ℕ) → ((x : ℕ) → p (f x) ≡ p x) → (xs : List ℕ)
    → prefix_len p (map f xs) ≡ prefix_len p xs
prefix_len-map p f same [] = refl
prefix_len-map p f same (x ∷ xs) =
    ap (λ b. cond b (1 + prefix_len p (map f xs)) 0) (same x)
    ∙ ap (λ n. cond (p x) (1 + n) 0) (prefix_len-map p f same xs)

reverse_aux-map : (f : ℕ → ℕ) (xs ys : List ℕ) → reverse_aux (map f xs) (map f ys) ≡ map f (reverse_aux xs ys)
reverse_aux-map f [] ys = refl
reverse_aux-map f (x ∷ xs) ys = reverse_aux-map f xs (x ∷ ys)

suffix_len-map : (p : ℕ → Bool) (f : ℕ → ℕ) → ((x : ℕ) → p (f x) ≡ p x) → (xs : List ℕ)
    → suffix_len p (map f xs) ≡ suffix_len p xs
suffix_len-map p f same xs = ap (prefix_len p) (reverse_aux-map f xs []) ∙ prefix_len-map p f same (reverse xs)

upper-space : (u : ℕ) → is_space (upper u) ≡ is_space u
upper-space u = grind (arith, nat_tests)

upper-space_or_dot : (u : ℕ) → is_space_or_dot (upper u) ≡ is_space_or_dot u
upper-space_or_dot u = grind (arith, nat_tests)

uppers-leading : (xs : List ℕ) → uppers (without_leading is_space xs) ≡ without_leading is_space (uppers xs)
uppers-leading xs =
    sym (drop-map upper (prefix_len is_space xs) xs)
    ∙ ap (λ n. drop n (uppers xs)) (sym (prefix_len-map is_space upper upper-space xs))

uppers-trailing : (xs : List ℕ) → uppers (without_trailing is_space_or_dot xs) ≡ without_trailing is_space_or_dot (uppers xs)
uppers-trailing xs =
    sym (take-map upper (length xs - suffix_len is_space_or_dot xs) xs)
    ∙ ap (λ n. take (n - suffix_len is_space_or_dot xs) (uppers xs)) (sym (length-map xs upper))
    ∙ ap (λ n. take (length (uppers xs) - n) (uppers xs)) (sym (suffix_len-map is_space_or_dot upper upper-space_or_dot xs))

uppers-trimmed : (name : List ℕ) → uppers (trimmed name) ≡ trimmed (uppers name)
uppers-trimmed name =
    uppers-trailing (without_leading is_space name) ∙ ap (without_trailing is_space_or_dot) (uppers-leading name)

pub same_without_case : (name other : List ℕ) → uppers name ≡ uppers other → uppers (trimmed name) ≡ uppers (trimmed other)
same_without_case name other e = uppers-trimmed name ∙ ap trimmed e ∙ sym (uppers-trimmed other)

-- what is trimmed off passes the tests
leading_pass : (p : ℕ → Bool) (xs : List ℕ) → AllPass p (take (prefix_len p xs) xs)
leading_pass p [] = All-nil (λ x. p x ≡ true)
leading_pass p (x ∷ xs) =
    elim (cases_Bool (p x)) [
      | inl passes ↦
          let more : prefix_len p (x ∷ xs) ≡ suc (prefix_len p xs) =
          cond-true (p x) (1 + prefix_len p xs) 0 passes ∙ omega arith in
          subst (λ n. AllPass p (take n (x ∷ xs))) (sym more)
          (All-cons (λ y. p y ≡ true) x (take (prefix_len p xs) xs) passes (leading_pass p xs))
      | inr fails ↦
          subst (λ n. AllPass p (take n (x ∷ xs))) (sym (cond-false (p x) (1 + prefix_len p xs) 0 fails))
          (All-nil (λ y. p y ≡ true))
    ]

trailing_pass : (p : ℕ → Bool) (xs : List ℕ) → AllPass p (drop (length xs - suffix_len p xs) xs)
trailing_pass p xs =
    let many = suffix_len p xs in
    let start = length xs - many in
    let few : many ≤ length xs = suffix_len-le-length p xs in
    All-from_get_or (λ x. p x ≡ true) (drop start xs) 0 (λ i inside.
    let below : i < many = omega (arith, inside, length-drop start xs) in
    let turned : many - 1 - i < length xs = omega arith in
    let place : length xs - 1 - (many - 1 - i) ≡ start + i = omega arith in
    subst (λ x. p x ≡ true) (sym (get_or-drop start xs i 0))
    (subst (λ k. p (get_or xs k 0) ≡ true) place
    (subst (λ x. p x ≡ true) (get_or-reverse xs (many - 1 - i) 0 turned)
    (prefix_len_passes p (reverse xs) (many - 1 - i) 0 (omega arith)))))

pub between : (name : List ℕ) → (front : List ℕ) × (back : List ℕ)
    × AllPass is_space front × AllPass is_space_or_dot back × (name ≡ front ++ trimmed name ++ back)
between name =
    let spaces = prefix_len is_space name in
    let rest = without_leading is_space name in
    let end = length rest - suffix_len is_space_or_dot rest in
    let front = take spaces name in
    let back = drop end rest in
    let cut : front ++ (trimmed name ++ back) ≡ name =
    ap (λ us. front ++ us) (take-append-drop end rest) ∙ take-append-drop spaces name in (
      front,
      back,
      leading_pass is_space name,
      trailing_pass is_space_or_dot rest,
      sym cut ∙ sym (append_assoc front (trimmed name) back),
    )

-- no unit at either end of a trimmed name passes the test there
first_fails : (p : ℕ → Bool) (x : ℕ) (xs : List ℕ) → prefix_len p (x ∷ xs) ≡ 0 → p x ≡ false
first_fails p x xs none =
    false_from_ne_true (p x) (λ passes.
    let more : prefix_len p (x ∷ xs) ≡ 1 + prefix_len p xs = cond-true (p x) (1 + prefix_len p xs) 0 passes in
    omega (arith, more, none))

last_fails : (p : ℕ → Bool) (x : ℕ) (xs : List ℕ) → suffix_len p (xs ++ x ∷ []) ≡ 0 → p x ≡ false
last_fails p x xs none = first_fails p x (reverse xs) (sym (ap (prefix_len p) (reverse-append xs (x ∷ []))) ∙ none)

pub neither_end : (name : List ℕ)
    → ((first : ℕ) (rest : List ℕ) → trimmed name ≡ first ∷ rest → is_space first ≡ false)
    × ((front : List ℕ) (last : ℕ) → trimmed name ≡ front ++ last ∷ [] → is_space_or_dot last ≡ false)
neither_end name =
    let rest = without_leading is_space name in
    let start : prefix_len is_space (trimmed name) ≡ 0 =
    begins is_space rest (length rest - suffix_len is_space_or_dot rest) (none_leading is_space name) in
    let end : suffix_len is_space_or_dot (trimmed name) ≡ 0 = none_trailing is_space_or_dot rest in (
      λ first others is. first_fails is_space first others (sym (ap (prefix_len is_space) is) ∙ start),
      λ front last is. last_fails is_space_or_dot last front (sym (ap (suffix_len is_space_or_dot) is) ∙ end),
    )
