-- Patterns ignore case.
use Rattle.std.proofs.Common.{◌≡◌, ◌∙◌, ◌⊎◌, ℕ, List, [], ◌∷◌, ◌++◌, ap, sym, subst, refl}
use Rattle.std.proofs.lemmas.List.{map-append}
use Rattle.uefi_text.specs.Case.{upper, uppers}
use Rattle.uefi_text.specs.PatternLaws.{HasNoWildcards}
use Rattle.uefi_text.specs.Patterns.{HasRange, HasUnit, Matches, Nothing, Any, One, OneOf, Itself}
use Rattle.uefi_text.proofs.PatternCuts.{only_nothing, same_cut}

pub plain_same : (pattern text : List ℕ) → HasNoWildcards pattern → Matches pattern text → uppers pattern ≡ uppers text
plain_same [] text plain m = sym (ap uppers (only_nothing text m))
plain_same (c ∷ cs) text plain m =
    let cut = same_cut c cs text plain.0.0 plain.0.1 plain.0.2 m in
    let rest = plain_same cs cut.back plain.1 cut.goes_on in
    let both : uppers (c ∷ cs) ≡ uppers (cut.first ∷ cut.back) = λ i. cut.taken i ∷ rest i in
    both ∙ ap uppers (sym cut.whole)

pub same_plain : (pattern text : List ℕ) → HasNoWildcards pattern → uppers pattern ≡ uppers text → Matches pattern text
same_plain [] [] plain e = Nothing
same_plain [] (u ∷ us) plain e = absurd (cc)
same_plain (c ∷ cs) [] plain e = absurd (cc)
same_plain (c ∷ cs) (u ∷ us) plain e =
    let first : upper c ≡ upper u = cc in
    let rest : uppers cs ≡ uppers us = cc in
    Itself c u plain.0.0 plain.0.1 plain.0.2 first (same_plain cs us plain.1 rest)

-- a text whose upper case is cut is cut there
record Split (piece rest other : List ℕ) : Type 0 where
  front : List ℕ
  back : List ℕ
  whole : other ≡ front ++ back
  same_front : uppers piece ≡ uppers front
  same_back : uppers rest ≡ uppers back

split : (piece rest other : List ℕ) → uppers piece ++ uppers rest ≡ uppers other → Split piece rest other
split [] rest other e = record { front = []; back = other; whole = refl; same_front = refl; same_back = e }
split (c ∷ cs) rest [] e = absurd (cc)
split (c ∷ cs) rest (d ∷ ds) e =
    let first : upper c ≡ upper d = cc in
    let tails : uppers cs ++ uppers rest ≡ uppers ds = cc in
    let both = split cs rest ds tails in
    record {
      front = d ∷ both.front;
      back = both.back;
      whole = ap (λ us. d ∷ us) both.whole;
      same_front = λ i. first i ∷ both.same_front i;
      same_back = both.same_back;
    }

no_units : (other : List ℕ) → [] ≡ uppers other → other ≡ []
no_units [] e = refl
no_units (u ∷ us) e = absurd (cc)

-- a text that begins with a unit without case
record Begins (unit : ℕ) (rest other : List ℕ) : Type 0 where
  first : ℕ
  back : List ℕ
  whole : other ≡ first ∷ back
  same : upper unit ≡ upper first
  same_back : uppers rest ≡ uppers back

begins : (unit : ℕ) (rest other : List ℕ) → uppers (unit ∷ rest) ≡ uppers other → Begins unit rest other
begins unit rest [] e = absurd (cc)
begins unit rest (v ∷ vs) e = record { first = v; back = vs; whole = refl; same = cc; same_back = cc }

on : {pattern text other : List ℕ} → other ≡ text → Matches pattern text → Matches pattern other
on {pattern = pattern} e m = subst (λ us. Matches pattern us) (sym e) m

ignored : {pattern text : List ℕ} (other : List ℕ) → Matches pattern text → uppers text ≡ uppers other → Matches pattern other
ignored other Nothing e = on (no_units other e) Nothing
ignored other (Any {back = back} front m) e =
    let cut = split front back other (sym (map-append upper front back) ∙ e) in
    on cut.whole (Any cut.front (ignored cut.back m cut.same_back))
ignored other (One {back = back} unit m) e = let cut = begins unit back other e in on cut.whole (One cut.first (ignored cut.back m cut.same_back))
ignored other (OneOf {back = back} set unit none takes m) e =
    let cut = begins unit back other e in
    let taken : HasUnit set (upper cut.first) ⊎ HasRange 0 set (upper cut.first) = subst (λ c. HasUnit set c ⊎ HasRange 0 set c) cut.same takes in
    on cut.whole (OneOf set cut.first none taken (ignored cut.back m cut.same_back))
ignored other (Itself {back = back} c unit no_any no_one no_set is m) e =
    let cut = begins unit back other e in
    on cut.whole (Itself c cut.first no_any no_one no_set (is ∙ cut.same) (ignored cut.back m cut.same_back))

pub case_is_ignored : (pattern text other : List ℕ) → uppers text ≡ uppers other → Matches pattern text → Matches pattern other
case_is_ignored pattern text other e m = ignored other m e
