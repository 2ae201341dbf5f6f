-- Lists of items, each of which begins with a comma.
use Rattle.std.proofs.Common.{◌≡◌, ℕ, zero, suc, ◌<◌, ◌≤◌, Bool, true, false, cond, List, [], ◌∷◌, ◌++◌, length, refl, ap, ◌∙◌, append_assoc, arith, length-append}
use Rattle.std.specs.Prelude.{Ok, Err}
use Rattle.uefi_node_steps.specs.Leaves.{Each, FitBoth, Leaf, Read, both, many, many_read, both_text, many_text, repeat, repeat_read}
use Rattle.uefi_node_steps.proofs.Combinations.{Goes, Keeps, both_keeps, keeps_as}

-- values of a list, at most as many
abbrev pub FitMany : {V : Type 0} → (V → Type 0) → ℕ → List V → Type 0
FitMany Fits most [] = Unit {0}
FitMany Fits zero (v ∷ vs) = ⊥
FitMany Fits (suc most) (v ∷ vs) = Fits v × FitMany Fits most vs

-- this many values
abbrev pub FitCount : {V : Type 0} → (V → Type 0) → ℕ → List V → Type 0
FitCount Fits count vs = (length vs ≡ count) × Each Fits vs

module _ {V : Type 0} (leaf : Leaf V) (Fits : V → Type 0) (keeps : Keeps leaf Fits (λ rest. true)) where
  no_value : (vs : List V) (rest : List ℕ) → length vs ≡ 0 → repeat_read leaf zero (many_text leaf vs ++ rest) ≡ Ok (vs, rest)
  no_value [] rest l = refl
  no_value (v ∷ vs) rest l = absurd (omega (arith, l))

  one_more : (count : ℕ) (vs : List V) → FitCount Fits (suc count) vs
      → FitBoth Fits (FitCount Fits count) vs × (many_text leaf vs ≡ both_text leaf (repeat count leaf) vs)
  one_more count [] f = absurd (omega (arith, f.0))
  one_more count (v ∷ vs) f = ((f.1.0, (omega (arith, f.0), f.1.1)), refl)

  from_one : (count : ℕ) (vs : List V) → FitBoth Fits (FitCount Fits count) vs
      → FitCount Fits (suc count) vs × (both_text leaf (repeat count leaf) vs ≡ many_text leaf vs)
  from_one count [] f = absurd f
  from_one count (v ∷ vs) f = ((omega (arith, f.1.0), (f.0, f.1.1)), refl)

  pub repeat_keeps : (count : ℕ) → Keeps (repeat count leaf) (FitCount Fits count) (λ rest. true)
  repeat_keeps zero = record {
    again = λ vs rest f e. no_value vs rest f.0;
    goes = λ text. ((refl, tt), omega arith);
  }
  repeat_keeps (suc count) = keeps_as (both leaf (repeat count leaf)) (many_text leaf) (FitBoth Fits (FitCount Fits count)) (FitCount Fits (suc count)) (λ rest. true)
      (both_keeps leaf (repeat count leaf) Fits (FitCount Fits count) (λ rest. true) (λ rest. true) (λ rest. true) keeps (repeat_keeps count) (λ vs rest f e. refl) (λ rest e. refl))
      (one_more count) (from_one count)

-- what is used of the test for one more value
pub record Tests {V : Type 0} (test : List ℕ → Bool) (leaf : Leaf V) (Fits : V → Type 0) (ends last : List ℕ → Bool) : Type 0 where
  pub no_more : (text : List ℕ) → last text ≡ true → test text ≡ false
  pub begins : (v : V) (rest : List ℕ) → Fits v → test (leaf.text v ++ rest) ≡ true
  pub uses : (v : V) → Fits v → 0 < length (leaf.text v)
  pub at_more : (v : V) (rest : List ℕ) → Fits v → ends (leaf.text v ++ rest) ≡ true
  pub at_end : (text : List ℕ) → last text ≡ true → ends text ≡ true

module _ {V : Type 0} (test : List ℕ → Bool) (leaf : Leaf V) (Fits : V → Type 0) (ends last : List ℕ → Bool)
    (keeps : Keeps leaf Fits ends) (is : Tests test leaf Fits ends last) where
  abbrev some : ℕ → Leaf (List V)
  some most = record { text = many_text leaf; read = λ text. many_read test leaf most text }

  -- what is read where a comma is next, and where none is
  more : (most : ℕ) (text : List ℕ) → test text ≡ true
      → many_read test leaf (suc most) text ≡ (both leaf (some most)).read text
  more most text e = ap (λ b. cond b ((both leaf (some most)).read text) (Ok ([], text))) e

  none : (most : ℕ) (text : List ℕ) → test text ≡ false → many_read test leaf most text ≡ Ok ([], text)
  none zero text e = refl
  none (suc most) text e = ap (λ b. cond b ((both leaf (some most)).read text) (Ok ([], text))) e

  follows : (most : ℕ) (vs : List V) (rest : List ℕ) → FitMany Fits most vs → last rest ≡ true → ends (many_text leaf vs ++ rest) ≡ true
  follows most [] rest f e = is.at_end rest e
  follows zero (v ∷ vs) rest f e = absurd f
  follows (suc most) (v ∷ vs) rest f e = rw append_assoc (is.at_more v _ f.0)

  -- one more
  module _ (most : ℕ) (others : Keeps (both leaf (some most)) (FitBoth Fits (FitMany Fits most)) last) where
    again : (vs : List V) (rest : List ℕ) → FitMany Fits (suc most) vs → last rest ≡ true
        → many_read test leaf (suc most) (many_text leaf vs ++ rest) ≡ Ok (vs, rest)
    again [] rest f e = none (suc most) rest (is.no_more rest e)
    again (v ∷ vs) rest f e = more most _ (rw append_assoc (is.begins v _ f.0)) ∙ others.again (v ∷ vs) rest f e

    wider : (text : List ℕ) (r : Read (List V)) → Goes (FitBoth Fits (FitMany Fits most)) text r → Goes (FitMany Fits (suc most)) text r
    wider text (Err stop) g = g
    wider text (Ok ([], rest)) g = absurd g.0
    wider text (Ok (v ∷ vs, rest)) g = g

    goes : (text : List ℕ) (b : Bool) → test text ≡ b → Goes (FitMany Fits (suc most)) text (many_read test leaf (suc most) text)
    goes text true h = rw (more most text h) (wider text _ (others.goes text))
    goes text false h = rw (none (suc most) text h) (tt, omega arith)

  no_more : (vs : List V) (rest : List ℕ) → FitMany Fits zero vs → many_read test leaf zero (many_text leaf vs ++ rest) ≡ Ok (vs, rest)
  no_more [] rest f = refl
  no_more (v ∷ vs) rest f = absurd f

  some_keeps : (most : ℕ) → Keeps (some most) (FitMany Fits most) last
  some_keeps zero = record {
    again = λ vs rest f e. no_more vs rest f;
    goes = λ text. (tt, omega arith);
  }
  some_keeps (suc most) =
      let others = both_keeps leaf (some most) Fits (FitMany Fits most) ends last last keeps (some_keeps most) (follows most) (λ rest e. e) in
      record {
        again = again most others;
        goes = λ text. goes most others text (test text) refl;
      }

  -- as many as there are letters are enough
  each : (most : ℕ) (vs : List V) → FitMany Fits most vs → Each Fits vs
  each most [] f = tt
  each zero (v ∷ vs) f = absurd f
  each (suc most) (v ∷ vs) f = (f.0, each most vs f.1)

  enough : (most : ℕ) (vs : List V) → Each Fits vs → length (many_text leaf vs) ≤ most → FitMany Fits most vs
  enough most [] f l = tt
  enough zero (v ∷ vs) f l = absurd (omega (arith, length-append (leaf.text v) (many_text leaf vs), is.uses v f.0))
  enough (suc most) (v ∷ vs) f l = (f.0, enough most vs f.1 (omega (arith, length-append (leaf.text v) (many_text leaf vs), is.uses v f.0)))

  any : (most : ℕ) (text : List ℕ) (r : Read (List V)) → Goes (FitMany Fits most) text r → Goes (Each Fits) text r
  any most text (Err stop) g = g
  any most text (Ok read) g = (each most read.0 g.0, g.1)

  pub many_keeps : Keeps (many test leaf) (Each Fits) last
  many_keeps = record {
    again = λ vs rest f e. (some_keeps (length (many_text leaf vs ++ rest))).again vs rest (enough _ vs f (omega (arith, length-append (many_text leaf vs) rest))) e;
    goes = λ text. any _ text _ ((some_keeps (length text)).goes text);
  }
