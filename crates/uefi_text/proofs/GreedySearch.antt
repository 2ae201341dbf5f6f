-- Why going back to the last `*` alone is enough.
--
-- A search stands at a place of the pattern and at a place of the text. `Later` is what was not tried
-- yet: that the last `*` takes more units. The pattern matches the text exactly where it matches from
-- here, or later. What makes earlier stars needless is `leads`: whatever the units after the last `*`
-- match begins with as many units as the search went since. So a match that begins later reaches this
-- place of the pattern later in the text, and at a `*` (or at the text's end) what matches later in the
-- text matches here.
use Rattle.std.proofs.Common.{inl, inr, ◌⊎◌, ◌≡◌, ◌∙◌, ◌+◌, ◌-◌, ◌≤◌, ℕ, List, [], ◌∷◌, ◌++◌, ap, sym, subst, refl, take, drop, length, arith, append_assoc, length-append, Some, None, Option}
use Rattle.std.proofs.lemmas.List.{drop-append-le, drop-drop, take-append-drop}
use Rattle.uefi_text.specs.Patterns.{Matches, Any}
use Rattle.uefi_text.specs.PatternParts.{Refuses, TakesOne}
use Rattle.uefi_text.specs.declared.patterns.Star.{Star}
use Rattle.uefi_text.proofs.PatternCuts.{any_cut}

-- the last `*` takes one unit more, or several
abbrev pub Later : List ℕ → List ℕ → Option Star → Type 0
Later pattern text None = ⊥
Later pattern text (Some star) = Matches (42 ∷ drop star.after pattern) (drop (star.tried + 1) text)

-- a text that begins with a number of units, and goes on with what a pattern matches
pub record After (n : ℕ) (pattern text : List ℕ) : Type 0 where
  pub front : List ℕ
  pub back : List ℕ
  pub whole : text ≡ front ++ back
  pub width : length front ≡ n
  pub goes_on : Matches pattern back

-- what matches after the last `*` reaches the place in the pattern after as many units as the search
abbrev pub Leads : List ℕ → Option Star → ℕ → ℕ → Type 0
Leads pattern None at place = Unit {0}
Leads pattern (Some star) at place =
    (star.tried ≤ place) × ((text : List ℕ) → Matches (drop star.after pattern) text → After (place - star.tried) (drop at pattern) text)

-- a search: the pattern matches the text exactly where it does so from here, or later
pub record Searching (pattern text : List ℕ) (at place : ℕ) (star : Option Star) : Type 0 where
  pub here : Matches (drop at pattern) (drop place text) → Matches pattern text
  pub later : Later pattern text star → Matches pattern text
  pub complete : Matches pattern text → Matches (drop at pattern) (drop place text) ⊎ Later pattern text star
  pub leads : Leads pattern star at place

-- where the last `*` was tried, and 0 before the first
abbrev pub tried : Option Star → ℕ
tried None = 0
tried (Some star) = star.tried

-- a `*` stands in the pattern, and was tried before the place in the text
abbrev pub StarWithin : Option Star → ℕ → ℕ → Type 0
StarWithin None pattern place = Unit {0}
StarWithin (Some star) pattern place = (star.after ≤ pattern) × (star.tried ≤ place)

pub within_more : (star : Option Star) (pattern place : ℕ) → StarWithin star pattern place → StarWithin star pattern (place + 1)
within_more None pattern place within = tt
within_more (Some star) pattern place within = (within.0, omega arith)

pub within_at : (star : Option Star) (last : Star) (pattern place : ℕ) → star ≡ Some last → StarWithin star pattern place
    → (last.after ≤ pattern) × (last.tried ≤ place)
within_at star last pattern place is within = subst (λ s. StarWithin s pattern place) is within

-- `*` takes more units in front
longer : (pattern more text : List ℕ) → Matches (42 ∷ pattern) text → Matches (42 ∷ pattern) (more ++ text)
longer pattern more text m =
    let cut = any_cut pattern text m in
    let is : (more ++ cut.front) ++ cut.back ≡ more ++ text = append_assoc more cut.front cut.back ∙ ap (λ us. more ++ us) (sym cut.whole) in
    subst (λ us. Matches (42 ∷ pattern) us) is (Any (more ++ cut.front) cut.goes_on)

-- what matches one unit later matches here
drop_one_more : (text : List ℕ) (n : ℕ) → drop n text ≡ take 1 (drop n text) ++ drop (n + 1) text
drop_one_more text n = sym (take-append-drop 1 (drop n text)) ∙ ap (λ us. take 1 (drop n text) ++ us) (drop-drop 1 n text)

pub one_earlier : (pattern text : List ℕ) (n : ℕ) → Matches (42 ∷ pattern) (drop (n + 1) text) → Matches (42 ∷ pattern) (drop n text)
one_earlier pattern text n m =
    subst (λ us. Matches (42 ∷ pattern) us) (sym (drop_one_more text n)) (longer pattern (take 1 (drop n text)) (drop (n + 1) text) m)

-- `*` takes no unit, or one and maybe more
none_or_more : (pattern front back : List ℕ) → Matches pattern back
    → Matches pattern (front ++ back) ⊎ Matches (42 ∷ pattern) (drop 1 (front ++ back))
none_or_more pattern [] back m = inl m
none_or_more pattern (u ∷ front) back m = inr (Any front m)

pub here_or_later : (pattern text : List ℕ) (n : ℕ) → Matches (42 ∷ pattern) (drop n text)
    → Matches pattern (drop n text) ⊎ Matches (42 ∷ pattern) (drop (n + 1) text)
here_or_later pattern text n m =
    let cut = any_cut pattern (drop n text) m in
    let both = none_or_more pattern cut.front cut.back cut.goes_on in
    let next : drop 1 (cut.front ++ cut.back) ≡ drop (n + 1) text = ap (drop 1) (sym cut.whole) ∙ drop-drop 1 n text in
    elim both [
      | inl at_once ↦ inl (subst (λ us. Matches pattern us) (sym cut.whole) at_once)
      | inr more ↦ inr (subst (λ us. Matches (42 ∷ pattern) us) next more)
    ]

-- two stars are one
two_stars : (pattern text : List ℕ) → Matches (42 ∷ 42 ∷ pattern) text → Matches (42 ∷ pattern) text
two_stars pattern text m =
    let cut = any_cut (42 ∷ pattern) text m in
    subst (λ us. Matches (42 ∷ pattern) us) (sym cut.whole) (longer pattern cut.front cut.back cut.goes_on)

-- **what matches later reaches this place of the pattern later in the text**
regroup : (a b c d rest more : List ℕ) → rest ≡ b ++ more → more ≡ c ++ d → a ++ rest ≡ ((a ++ b) ++ c) ++ d
regroup a b c d rest more first second =
    ap (λ us. a ++ us) (first ∙ ap (λ us. b ++ us) second) ∙ sym (append_assoc a b (c ++ d)) ∙ sym (append_assoc (a ++ b) c d)

reaches_by : (pattern text : List ℕ) (tried place : ℕ) (before front back : List ℕ) → tried ≤ place → length front ≡ place - tried
    → drop tried text ≡ (before ++ front) ++ back → Matches pattern back → Matches (42 ∷ pattern) (drop place text)
reaches_by pattern text tried place before front back ordered width whole m =
    let at : tried + (place - tried) ≡ place = omega arith in
    let inside : place - tried ≤ length (before ++ front) = omega (arith, length-append before front) in
    let is : drop (place - tried) (before ++ front) ++ back ≡ drop place text =
    sym (drop-append-le (place - tried) (before ++ front) back inside) ∙ ap (drop (place - tried)) (sym whole)
    ∙ drop-drop (place - tried) tried text ∙ ap (λ k. drop k text) at in
    subst (λ us. Matches (42 ∷ pattern) us) is (Any (drop (place - tried) (before ++ front)) m)

reaches : (pattern text : List ℕ) (at place : ℕ) (star : Option Star) → Leads pattern star at place → Later pattern text star
    → Matches (42 ∷ drop at pattern) (drop place text)
reaches pattern text at place None leads later = absurd later
reaches pattern text at place (Some star) leads later =
    let cut = any_cut (drop star.after pattern) (drop (star.tried + 1) text) later in
    let after = leads.1 cut.back cut.goes_on in
    let one : List ℕ = take 1 (drop star.tried text) in
    let whole : drop star.tried text ≡ ((one ++ cut.front) ++ after.front) ++ after.back =
    drop_one_more text star.tried ∙ regroup one cut.front after.front after.back (drop (star.tried + 1) text) cut.back cut.whole after.whole in
    reaches_by (drop at pattern) text star.tried place (one ++ cut.front) after.front after.back leads.0 after.width whole after.goes_on

-- at a `*`, that one is the last from now on
pub at_star : (pattern text : List ℕ) (at place : ℕ) (star : Option Star) → Searching pattern text at place star
    → drop at pattern ≡ 42 ∷ drop (at + 1) pattern → Searching pattern text (at + 1) place (Some (record { after = at + 1; tried = place }))
at_star pattern text at place star s is =
    let from = λ (m : Matches (42 ∷ drop (at + 1) pattern) (drop place text)). s.here (subst (λ us. Matches us (drop place text)) (sym is) m) in
    record {
      here = λ m. from (Any [] m);
      later = λ m. from (one_earlier (drop (at + 1) pattern) text place m);
      complete = λ m.
          let star_here : Matches (42 ∷ drop (at + 1) pattern) (drop place text) = elim (s.complete m) [
            | inl now ↦ subst (λ us. Matches us (drop place text)) is now
            | inr later ↦ two_stars (drop (at + 1) pattern) (drop place text)
                (subst (λ us. Matches (42 ∷ us) (drop place text)) is (reaches pattern text at place star s.leads later))
          ] in
          here_or_later (drop (at + 1) pattern) text place star_here;
      leads = (omega arith, λ text m. record { front = []; back = text; whole = refl; width = omega arith; goes_on = m });
    }

-- a part takes a unit
takes_leads : (pattern : List ℕ) (at next place unit : ℕ) (star : Option Star) → TakesOne (drop at pattern) (drop next pattern) unit
    → Leads pattern star at place → Leads pattern star next (place + 1)
takes_leads pattern at next place unit None takes leads = tt
takes_leads pattern at next place unit (Some star) takes leads = (
  omega (arith, leads.0),
  λ text m.
      let after = leads.1 text m in
      let step = takes.only after.back after.goes_on in
      record {
        front = after.front ++ step.first ∷ [];
        back = step.back;
        whole = after.whole ∙ ap (λ us. after.front ++ us) step.whole ∙ sym (append_assoc after.front (step.first ∷ []) step.back);
        width = length-append after.front (step.first ∷ []) ∙ omega (arith, after.width, leads.0);
        goes_on = step.goes_on;
      },
)

pub takes : (pattern text : List ℕ) (at next place unit : ℕ) (star : Option Star) → Searching pattern text at place star
    → TakesOne (drop at pattern) (drop next pattern) unit → drop place text ≡ unit ∷ drop (place + 1) text
    → Searching pattern text next (place + 1) star
takes pattern text at next place unit star s step is = record {
  here = λ m. s.here (subst (λ us. Matches (drop at pattern) us) (sym is) (step.one (drop (place + 1) text) m));
  later = s.later;
  complete = λ m. elim (s.complete m) [
    | inl now ↦
        let then = step.only (drop place text) now in
        let same : then.back ≡ drop (place + 1) text = cc in
        inl (subst (λ us. Matches (drop next pattern) us) same then.goes_on)
    | inr later ↦ inr later
  ];
  leads = takes_leads pattern at next place unit star step s.leads;
}

-- a part refuses a unit: the last `*` takes one unit more
pub goes_back : (pattern text : List ℕ) (at place unit : ℕ) (star : Star) → Searching pattern text at place (Some star)
    → Refuses (drop at pattern) unit → drop place text ≡ unit ∷ drop (place + 1) text
    → Searching pattern text star.after (star.tried + 1) (Some (record { after = star.after; tried = star.tried + 1 }))
goes_back pattern text at place unit star s refuses is = record {
  here = λ m. s.later (Any [] m);
  later = λ m. s.later (one_earlier (drop star.after pattern) text (star.tried + 1) m);
  complete = λ m. elim (s.complete m) [
    | inl now ↦ absurd (refuses (drop (place + 1) text) (subst (λ us. Matches (drop at pattern) us) is now))
    | inr later ↦ here_or_later (drop star.after pattern) text (star.tried + 1) later
  ];
  leads = (omega arith, λ text m. record { front = []; back = text; whole = refl; width = omega arith; goes_on = m });
}

-- at the end of the text
empty_back : (front back : List ℕ) → [] ≡ front ++ back → back ≡ []
empty_back [] back e = sym e
empty_back (u ∷ front) back e = absurd (cc)

pub star_at_end : (pattern : List ℕ) → Matches (42 ∷ pattern) [] → Matches pattern []
star_at_end pattern m =
    let cut = any_cut pattern [] m in
    let none : cut.back ≡ [] = empty_back cut.front cut.back cut.whole in
    subst (λ us. Matches pattern us) none cut.goes_on

pub ends : (pattern text : List ℕ) (at place : ℕ) (star : Option Star) → Searching pattern text at place star → drop place text ≡ []
    → (Matches (drop at pattern) [] → Matches pattern text) × (Matches pattern text → Matches (drop at pattern) [])
ends pattern text at place star s is = (
  λ m. s.here (subst (λ us. Matches (drop at pattern) us) (sym is) m),
  λ m. elim (s.complete m) [
    | inl now ↦ subst (λ us. Matches (drop at pattern) us) is now
    | inr later ↦ star_at_end (drop at pattern) (subst (λ us. Matches (42 ∷ drop at pattern) us) is (reaches pattern text at place star s.leads later))
  ],
)
