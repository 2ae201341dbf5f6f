-- Literals that a text begins with, and texts that differ.
use Rattle.std.proofs.Common.{◌≡◌, ℕ, Bool, true, false, cond, eqb, List, [], ◌∷◌, ◌++◌, refl, sym, ap, ◌∙◌}
use Rattle.std.proofs.lemmas.Bool.{and_parts}
use Rattle.std.specs.Prelude.{Option, Some, None, Result, Ok, Err, option_and_then}
use Rattle.std.specs.Option.{ok_or, option_map}
use Rattle.std.specs.Result.{result_map_both, result_ok, result_unwrap_or}
use borrow.Author.Tests.{eq-eqb, eqb-true}
use Rattle.uefi_node_reader.specs.FieldReading.{◌>>=◌}
use Rattle.uefi_node_reader.specs.Stops.{◌>?◌}
use Rattle.uefi_node_reader.specs.WordReading.{after, clash, same_text}

-- what a first step read, where a second read something after it
pub bind_some : {A B : Type 0} (r : Option A) (f : A → Option B) (y : B) → (r >>= f) ≡ Some y → (x : A) × (r ≡ Some x) × (f x ≡ Some y)
bind_some None f y e = cc
bind_some (Some x) f y e = (x, refl, e)

-- the same of readings that may stop
pub bind_ok : {A B E : Type 0} (r : Result A E) (f : A → Result B E) (y : B) → (r >? f) ≡ Ok y → (x : A) × (r ≡ Ok x) × (f x ≡ Ok y)
bind_ok (Err stop) f y e = cc
bind_ok (Ok x) f y e = (x, refl, e)

pub ok_same : {A E : Type 0} (r : Result A E) (x y : A) → r ≡ Ok x → r ≡ Ok y → x ≡ y
ok_same r x y e f = ap (λ o. result_unwrap_or o x) (sym e ∙ f)

pub ok_some : {A E : Type 0} (o : Option A) (stop : E) (x : A) → ok_or o stop ≡ Ok x → o ≡ Some x
ok_some None stop x e = cc
ok_some (Some y) stop x e = ap (λ z. Some z) (ok_same (Ok x) y x (sym e) refl)

pub map_ok : {A B D E : Type 0} (f : A → B) (g : D → E) (r : Result A D) (y : B) → result_map_both f g r ≡ Ok y
    → (x : A) × (r ≡ Ok x) × (f x ≡ y)
map_ok f g (Err stop) y e = cc
map_ok f g (Ok x) y e = (x, refl, ok_same (Ok y) (f x) y (sym e) refl)

pub read_ok : {A B E : Type 0} (f : A → B) (r : Result A E) (o : Result B E) → result_map_both f (λ (e : E). e) r ≡ o
    → option_map f (result_ok r) ≡ result_ok o
read_ok {A} {B} {E} f r o e = by r ∙ ap result_ok e
  where
    by : (r : Result A E) → option_map f (result_ok r) ≡ result_ok (result_map_both f (λ (e : E). e) r)
    by (Ok x) = refl
    by (Err e) = refl

-- the second step, after what the first read
pub after_some : {A B : Type 0} (r : Option A) (f : A → Option B) (x : A) → r ≡ Some x → (r >>= f) ≡ f x
after_some r f x e = ap (λ o. option_and_then f o) e

pub after_again : (literal rest : List ℕ) → after literal (literal ++ rest) ≡ Some rest
after_again [] rest = refl
after_again (c ∷ cs) rest = ap (λ (t : Bool). cond t (after cs (cs ++ rest)) None) (eq-eqb c c refl) ∙ after_again cs rest

pub after_takes : (literal text rest : List ℕ) → after literal text ≡ Some rest → text ≡ literal ++ rest
after_takes [] text rest e = cc
after_takes (c ∷ cs) [] rest e = cc
after_takes (c ∷ cs) (t ∷ ts) rest e = by (eqb c t) refl e (after_takes cs ts rest)
  where
    by : (b : Bool) → eqb c t ≡ b → cond b (after cs ts) None ≡ Some rest → (after cs ts ≡ Some rest → ts ≡ cs ++ rest)
        → t ∷ ts ≡ c ∷ (cs ++ rest)
    by false p q h = cc
    by true p q h = let same = eqb-true c t p in let others = h q in cc

-- texts that differ
pub clash_none : (one other rest : List ℕ) → clash one other ≡ true → after one (other ++ rest) ≡ None
clash_none [] other rest e = cc
clash_none (c ∷ cs) [] rest e = cc
clash_none (c ∷ cs) (d ∷ ds) rest e = by (eqb c d) refl e (clash_none cs ds rest)
  where
    by : (b : Bool) → eqb c d ≡ b → cond b (clash cs ds) true ≡ true → (clash cs ds ≡ true → after cs (ds ++ rest) ≡ None)
        → cond (eqb c d) (after cs (ds ++ rest)) None ≡ None
    by true p q h = ap (λ (b : Bool). cond b (after cs (ds ++ rest)) None) p ∙ h q
    by false p q h = ap (λ (b : Bool). cond b (after cs (ds ++ rest)) None) p

-- texts that are the same
pub same_is : (one other : List ℕ) → same_text one other ≡ true → one ≡ other
same_is [] [] e = refl
same_is [] (d ∷ ds) e = cc
same_is (c ∷ cs) [] e = cc
same_is (c ∷ cs) (d ∷ ds) e =
    let parts = and_parts (eqb c d) (same_text cs ds) e in λ i. eqb-true c d parts.0 i ∷ same_is cs ds parts.1 i
