-- What a pattern matches, by its first unit.
use Rattle.std.proofs.Common.{◌≡◌, ◌≢◌, ◌∙◌, ℕ, List, [], ◌∷◌, ◌++◌, ap, sym, subst, refl, arith}
use Rattle.uefi_text.specs.Case.{upper}
use Rattle.uefi_text.specs.Patterns.{HasNoEnd, IsInSet, Matches, Nothing, Any, One, OneOf, Itself}

-- a text that begins with any units, and goes on with what a pattern matches
pub record Cut (pattern text : List ℕ) : Type 0 where
  pub front : List ℕ
  pub back : List ℕ
  pub whole : text ≡ front ++ back
  pub goes_on : Matches pattern back

-- a text that begins with one unit that a test takes, and goes on with what a pattern matches
pub record CutOne (takes : ℕ → Type 0) (pattern text : List ℕ) : Type 0 where
  pub first : ℕ
  pub back : List ℕ
  pub whole : text ≡ first ∷ back
  pub taken : takes first
  pub goes_on : Matches pattern back

pub apart : {c d : ℕ} {cs ds : List ℕ} → c ∷ cs ≡ d ∷ ds → c ≢ d → ⊥
apart e ne = ne (cc)

tails : {c d : ℕ} {cs ds : List ℕ} → c ∷ cs ≡ d ∷ ds → cs ≡ ds
tails e = cc

along : {pattern other text : List ℕ} → pattern ≡ other → Matches pattern text → Matches other text
along {text = text} e m = subst (λ us. Matches us text) e m

nothing_of : (written text : List ℕ) → Matches written text → written ≡ [] → text ≡ []
nothing_of written text Nothing e = refl
nothing_of written text (Any front m) e = absurd (cc)
nothing_of written text (One unit m) e = absurd (cc)
nothing_of written text (OneOf set unit none takes m) e = absurd (cc)
nothing_of written text (Itself c unit no_any no_one no_set is m) e = absurd (cc)

pub only_nothing : (text : List ℕ) → Matches [] text → text ≡ []
only_nothing text m = nothing_of [] text m refl

any_of : (written pattern text : List ℕ) → Matches written text → written ≡ 42 ∷ pattern → Cut pattern text
any_of written pattern text Nothing e = absurd (cc)
any_of written pattern text (Any {back = back} front m) e = record { front = front; back = back; whole = refl; goes_on = along (tails e) m }
any_of written pattern text (One unit m) e = absurd (apart e (λ n. omega (arith, n)))
any_of written pattern text (OneOf set unit none takes m) e = absurd (apart e (λ n. omega (arith, n)))
any_of written pattern text (Itself c unit no_any no_one no_set is m) e = absurd (apart e no_any)

pub any_cut : (pattern text : List ℕ) → Matches (42 ∷ pattern) text → Cut pattern text
any_cut pattern text m = any_of (42 ∷ pattern) pattern text m refl

one_by : (written pattern text : List ℕ) → Matches written text → written ≡ 63 ∷ pattern → CutOne (λ _. Unit {0}) pattern text
one_by written pattern text Nothing e = absurd (cc)
one_by written pattern text (Any front m) e = absurd (apart e (λ n. omega (arith, n)))
one_by written pattern text (One {back = back} unit m) e = record { first = unit; back = back; whole = refl; taken = tt; goes_on = along (tails e) m }
one_by written pattern text (OneOf set unit none takes m) e = absurd (apart e (λ n. omega (arith, n)))
one_by written pattern text (Itself c unit no_any no_one no_set is m) e = absurd (apart e no_one)

pub one_cut : (pattern text : List ℕ) → Matches (63 ∷ pattern) text → CutOne (λ _. Unit {0}) pattern text
one_cut pattern text m = one_by (63 ∷ pattern) pattern text m refl

same_of : (written : List ℕ) (c : ℕ) (pattern text : List ℕ) → c ≢ 42 → c ≢ 63 → c ≢ 91 → Matches written text → written ≡ c ∷ pattern
    → CutOne (λ unit. upper c ≡ upper unit) pattern text
same_of written c pattern text no_any no_one no_set Nothing e = absurd (cc)
same_of written c pattern text no_any no_one no_set (Any front m) e = absurd (apart (sym e) no_any)
same_of written c pattern text no_any no_one no_set (One unit m) e = absurd (apart (sym e) no_one)
same_of written c pattern text no_any no_one no_set (OneOf set unit none takes m) e = absurd (apart (sym e) no_set)
same_of written c pattern text no_any no_one no_set (Itself {back = back} d unit _ _ _ is m) e =
    let first : d ≡ c = cc in
    record { first = unit; back = back; whole = refl; taken = ap upper (sym first) ∙ is; goes_on = along (tails e) m }

pub same_cut : (c : ℕ) (pattern text : List ℕ) → c ≢ 42 → c ≢ 63 → c ≢ 91 → Matches (c ∷ pattern) text
    → CutOne (λ unit. upper c ≡ upper unit) pattern text
same_cut c pattern text no_any no_one no_set m = same_of (c ∷ pattern) c pattern text no_any no_one no_set m refl

-- the first `]` ends a set
pub split_once : (set other rest after : List ℕ) → HasNoEnd set → HasNoEnd other → set ++ 93 ∷ rest ≡ other ++ 93 ∷ after
    → (set ≡ other) × (rest ≡ after)
split_once [] [] rest after none no_other e = (refl, cc)
split_once [] (d ∷ ds) rest after none no_other e = absurd (no_other.0 (cc))
split_once (c ∷ cs) [] rest after none no_other e = absurd (none.0 (cc))
split_once (c ∷ cs) (d ∷ ds) rest after none no_other e =
    let first : c ≡ d = cc in
    let both = split_once cs ds rest after none.1 no_other.1 (tails e) in
    (λ i. first i ∷ both.0 i, both.1)

one_of_of : (written set pattern text : List ℕ) → HasNoEnd set → Matches written text → written ≡ 91 ∷ (set ++ 93 ∷ pattern)
    → CutOne (IsInSet set) pattern text
one_of_of written set pattern text none Nothing e = absurd (cc)
one_of_of written set pattern text none (Any front m) e = absurd (apart e (λ n. omega (arith, n)))
one_of_of written set pattern text none (One unit m) e = absurd (apart e (λ n. omega (arith, n)))
one_of_of written set pattern text none (OneOf {pattern = rest} {back = back} other unit no_other takes m) e =
    let both = split_once other set rest pattern no_other none (tails e) in
    record { first = unit; back = back; whole = refl; taken = subst (λ us. IsInSet us unit) both.0 takes; goes_on = along both.1 m }
one_of_of written set pattern text none (Itself c unit no_any no_one no_set is m) e = absurd (apart e no_set)

pub one_of_cut : (set pattern text : List ℕ) → HasNoEnd set → Matches (91 ∷ (set ++ 93 ∷ pattern)) text → CutOne (IsInSet set) pattern text
one_of_cut set pattern text none m = one_of_of (91 ∷ (set ++ 93 ∷ pattern)) set pattern text none m refl

-- a set with no `]` matches nothing
no_end_before : (set rest : List ℕ) → HasNoEnd (set ++ 93 ∷ rest) → ⊥
no_end_before [] rest none = none.0 refl
no_end_before (c ∷ cs) rest none = no_end_before cs rest none.1

open_of : (written set text : List ℕ) → HasNoEnd set → Matches written text → written ≡ 91 ∷ set → ⊥
open_of written set text none Nothing e = cc
open_of written set text none (Any front m) e = apart e (λ n. omega (arith, n))
open_of written set text none (One unit m) e = apart e (λ n. omega (arith, n))
open_of written set text none (OneOf {pattern = rest} other unit no_other takes m) e =
    no_end_before other rest (subst HasNoEnd (sym (tails e)) none)
open_of written set text none (Itself c unit no_any no_one no_set is m) e = apart e no_set

pub open_set : (set text : List ℕ) → HasNoEnd set → Matches (91 ∷ set) text → ⊥
open_set set text none m = open_of (91 ∷ set) set text none m refl
