-- The laws of a leaf, and the combinations that keep them.
use Rattle.std.proofs.Common.{◌≡◌, ℕ, ◌≤◌, Bool, true, false, cond, not, List, [], ◌∷◌, ◌++◌, length, take, drop, refl, ap, ◌∙◌, append_assoc, arith}
use Rattle.std.proofs.lemmas.List.{drop_at, take-append-drop, take_at}
use Rattle.std.specs.Prelude.{Option, Some, None, Result, Ok, Err}
use Rattle.uefi_node_steps.specs.Leaves.{ByteLeaf, FitBeside, FitBoth, Leaf, Read, ◌>>=◌, beside, both, expect, mapped, nothing, only, printed, tested}
use Rattle.uefi_node_steps.specs.declared.steps.Expected.{Expected}
use Rattle.uefi_node_steps.specs.declared.steps.Stop.{Stop}

-- what comes of reading a text: a value that fits and no longer a text, or a stop within the text
abbrev pub Goes : {V : Type 0} → (V → Type 0) → List ℕ → Read V → Type 0
Goes Fits text (Ok read) = Fits read.0 × (length read.1 ≤ length text)
Goes Fits text (Err stop) = stop.left ≤ length text

-- the laws of a leaf
pub record Keeps {V : Type 0} (leaf : Leaf V) (Fits : V → Type 0) (ends : List ℕ → Bool) : Type 0 where
  pub again : (v : V) (rest : List ℕ) → Fits v → ends rest ≡ true → leaf.read (leaf.text v ++ rest) ≡ Ok (v, rest)
  pub goes : (text : List ℕ) → Goes Fits text (leaf.read text)

pub no_is : (b : Bool) → not b ≡ true → b ≡ false
no_is true e = cc
no_is false e = refl

-- what holds of both parts of a choice
pub if_case : {A : Type 0} (P : A → Type 0) (b : Bool) (x y : A) → (b ≡ true → P x) → (b ≡ false → P y) → P (cond b x y)
if_case P true x y f g = f refl
if_case P false x y f g = g refl

-- the next reading
pub next : {A B : Type 0} (r : Result A Stop) (x : A) (f : A → Result B Stop) (y : Result B Stop) → r ≡ Ok x → f x ≡ y → (r >>= f) ≡ y
next r x f y e h = ap (λ r. r >>= f) e ∙ h

pub goes_next : {V W : Type 0} (Fits : V → Type 0) (Then : W → Type 0) (text : List ℕ) (r : Read V) (f : V × List ℕ → Read W)
    → Goes Fits text r → ((v : V) (rest : List ℕ) → Fits v → Goes Then rest (f (v, rest))) → Goes Then text (r >>= f)
goes_next Fits Then text (Err stop) f g h = g
goes_next Fits Then text (Ok read) f g h = longer (f read) (h read.0 read.1 g.0)
  where
    longer : (r : Read _) → Goes Then read.1 r → Goes Then text r
    longer (Ok other) l = (l.0, omega (arith, l.1, g.1))
    longer (Err stop) l = omega (arith, l, g.1)

-- a reading of the rest of a text
pub goes_longer : {V : Type 0} (Fits : V → Type 0) (text rest : List ℕ) (r : Read V) → length rest ≤ length text → Goes Fits rest r → Goes Fits text r
goes_longer Fits text rest (Ok read) l g = (g.0, omega (arith, g.1))
goes_longer Fits text rest (Err stop) l g = omega (arith, l, g)

-- a value, and then others that end it
module _ {V : Type 0} (a : Leaf V) (b : Leaf (List V)) (Fits : V → Type 0) (Others : List V → Type 0)
    (ends_a ends_b ends : List ℕ → Bool) (ka : Keeps a Fits ends_a) (kb : Keeps b Others ends_b)
    (follows : (vs : List V) (rest : List ℕ) → Others vs → ends rest ≡ true → ends_a (b.text vs ++ rest) ≡ true)
    (last : (rest : List ℕ) → ends rest ≡ true → ends_b rest ≡ true) where
  both_again : (vs : List V) (rest : List ℕ) → FitBoth Fits Others vs → ends rest ≡ true
      → (both a b).read ((both a b).text vs ++ rest) ≡ Ok (vs, rest)
  both_again [] rest f e = absurd f
  both_again (v ∷ vs) rest f e = rw append_assoc (next _ _ _ _ (ka.again v (b.text vs ++ rest) f.0 (follows vs rest f.1 e))
      (next _ _ _ _ (kb.again vs rest f.1 (last rest e)) refl))

  pub both_keeps : Keeps (both a b) (FitBoth Fits Others) ends
  both_keeps = record {
    again = both_again;
    goes = λ text. goes_next Fits (FitBoth Fits Others) text (a.read text) _ (ka.goes text)
        (λ v rest f. goes_next Others (FitBoth Fits Others) rest (b.read rest) _ (kb.goes rest)
        (λ vs others g. ((f, g), omega arith)));
  }

-- bytes, and then others that end them
module _ (width : ℕ) (a b : ByteLeaf) (Fits Others : List ℕ → Type 0) (ends_a ends_b ends : List ℕ → Bool)
    (ka : Keeps a Fits ends_a) (kb : Keeps b Others ends_b) (long : (v : List ℕ) → Fits v → length v ≡ width)
    (follows : (vs rest : List ℕ) → Others vs → ends rest ≡ true → ends_a (b.text vs ++ rest) ≡ true)
    (last : (rest : List ℕ) → ends rest ≡ true → ends_b rest ≡ true) where
  beside_fit : (v vs : List ℕ) → Fits v → Others vs → FitBeside width Fits Others (v ++ vs)
  beside_fit v vs f g = (rw (take_at v vs width (long v f)) f, rw (drop_at v vs width (long v f)) g)

  pub beside_keeps : Keeps (beside width a b) (FitBeside width Fits Others) ends
  beside_keeps = record {
    again = λ bytes rest f e. rw append_assoc (next _ _ _ _ (ka.again (take width bytes) (b.text (drop width bytes) ++ rest) f.0 (follows _ rest f.1 e))
        (next _ _ _ _ (kb.again (drop width bytes) rest f.1 (last rest e)) (ap (λ (x : List ℕ). Ok (x, rest)) (take-append-drop width bytes))));
    goes = λ text. goes_next Fits (FitBeside width Fits Others) text (a.read text) _ (ka.goes text)
        (λ v rest f. goes_next Others (FitBeside width Fits Others) rest (b.read rest) _ (kb.goes rest)
        (λ vs others g. (beside_fit v vs f g, omega arith)));
  }

-- no value
nothing_again : {V : Type 0} (vs : List V) (rest : List ℕ) → vs ≡ [] → (nothing {V = V}).read rest ≡ Ok (vs, rest)
nothing_again [] rest f = refl
nothing_again (v ∷ vs) rest f = cc

pub nothing_keeps : {V : Type 0} → Keeps (nothing {V = V}) (λ vs. vs ≡ []) (λ rest. true)
nothing_keeps = record { again = λ vs rest f e. nothing_again vs rest f; goes = λ text. (refl, omega arith) }

-- values that are one to one with those of a leaf
module _ {V W : Type 0} (to : V → W) (from : W → V) (leaf : Leaf V) (Fits : V → Type 0) (Then : W → Type 0)
    (ends : List ℕ → Bool) (keeps : Keeps leaf Fits ends)
    (back : (v : V) → Fits v → Then (to v) × (from (to v) ≡ v)) (forth : (w : W) → Then w → Fits (from w) × (to (from w) ≡ w)) where
  pub mapped_keeps : Keeps (mapped to from leaf) Then ends
  mapped_keeps = record {
    again = λ w rest f e. next _ _ _ _ (keeps.again (from w) rest (forth w f).0 e) (ap (λ x. Ok (x, rest)) (forth w f).1);
    goes = λ text. goes_next Fits Then text (leaf.read text) _ (keeps.goes text) (λ v rest f. ((back v f).0, omega arith));
  }

-- the same leaf, in other words
module _ {V : Type 0} (leaf : Leaf V) (text : V → List ℕ) (Fits Then : V → Type 0) (ends : List ℕ → Bool) (keeps : Keeps leaf Fits ends)
    (to : (v : V) → Then v → Fits v × (text v ≡ leaf.text v)) (from : (v : V) → Fits v → Then v × (leaf.text v ≡ text v)) where
  keeps_as_goes : (whole : List ℕ) (r : Read V) → Goes Fits whole r → Goes Then whole r
  keeps_as_goes whole (Err stop) g = g
  keeps_as_goes whole (Ok v) g = ((from v.0 g.0).0, g.1)

  pub keeps_as : Keeps (printed text leaf) Then ends
  keeps_as = record {
    again = λ v rest f e. ap (λ x. leaf.read (x ++ rest)) (to v f).1 ∙ keeps.again v rest (to v f).0 e;
    goes = λ whole. keeps_as_goes whole _ (keeps.goes whole);
  }

-- the values that pass a test
module _ {V : Type 0} (test : V → Bool) (what : Expected) (leaf : Leaf V) (Fits : V → Type 0) (ends : List ℕ → Bool) (keeps : Keeps leaf Fits ends) where
  abbrev Passes : V → Type 0
  Passes v = Fits v × (test v ≡ true)

  passed : (text : List ℕ) (v : V × List ℕ) (b : Bool) → test v.0 ≡ b → Fits v.0 → length v.1 ≤ length text → Goes Passes text (tested b v.0 v.1 text what)
  passed text v true e f l = ((f, e), l)
  passed text v false e f l = omega arith

  only_goes : (text : List ℕ) (r : Read V) → Goes Fits text r → Goes Passes text (r >>= λ v. tested (test v.0) v.0 v.1 text what)
  only_goes text (Err stop) g = g
  only_goes text (Ok v) g = passed text v (test v.0) refl g.0 g.1

  pub only_keeps : Keeps (only test what leaf) Passes ends
  only_keeps = record {
    again = λ v rest f e. next _ _ _ _ (keeps.again v rest f.0 e) (ap (λ b. tested b v rest (leaf.text v ++ rest) what) f.1);
    goes = λ text. only_goes text _ (keeps.goes text);
  }

-- a leaf that does not say where it stops
abbrev pub OptionGoes : {V : Type 0} → (V → Type 0) → List ℕ → Option (V × List ℕ) → Type 0
OptionGoes Fits text (Some read) = Fits read.0 × (length read.1 ≤ length text)
OptionGoes Fits text None = Unit {0}

pub option_longer : {V : Type 0} (Fits : V → Type 0) (text rest : List ℕ) (r : Option (V × List ℕ)) → length rest ≤ length text → OptionGoes Fits rest r → OptionGoes Fits text r
option_longer Fits text rest None l g = tt
option_longer Fits text rest (Some read) l g = (g.0, omega (arith, g.1))

pub record Reads {V : Type 0} (print : V → List ℕ) (read : List ℕ → Option (V × List ℕ)) (Fits : V → Type 0) (ends : List ℕ → Bool) : Type 0 where
  pub again : (v : V) (rest : List ℕ) → Fits v → ends rest ≡ true → read (print v ++ rest) ≡ Some (v, rest)
  pub goes : (text : List ℕ) → OptionGoes Fits text (read text)

module _ {V : Type 0} (what : Expected) (print : V → List ℕ) (read : List ℕ → Option (V × List ℕ)) (Fits : V → Type 0) (ends : List ℕ → Bool)
    (reads : Reads print read Fits ends) where
  abbrev expecting : Leaf V
  expecting = record { text = print; read = λ text. expect what text (read text) }

  gone : (text : List ℕ) (r : Option (V × List ℕ)) → OptionGoes Fits text r → Goes Fits text (expect what text r)
  gone text None g = omega arith
  gone text (Some v) g = g

  pub expect_keeps : Keeps expecting Fits ends
  expect_keeps = record {
    again = λ v rest f e. ap (expect what _) (reads.again v rest f e);
    goes = λ text. gone text _ (reads.goes text);
  }
