-- Which paths are valid, and why and where the others are refused.
use Rattle.std.proofs.Common.{◌≡◌, ◌≢◌, ℕ, List, [], ◌∷◌, All, true, false, None, inl, inr, ap, sym, subst, ◌∙◌, ◌⊎◌, arith, IsOk, Result, refl, ◌==◌, ◌↔◌, ◌≤◌, ◌+◌, zero, suc, ◌++◌, Option, Some, append_assoc, map}
use Rattle.std.proofs.lemmas.Bool.{cases_Bool, eqb-true, true≢false, false_from_ne_true, false≢true}
use Rattle.std.proofs.lemmas.List.Elements.{All-append, All-cons, All-head, All-nil, All-tail, All-weaker}
use Rattle.uefi_text.proofs.Finding.{All-found_none, unmapped, found_none}
use Rattle.uefi_path.specs.Components.{IsPiece, components_of, joined}
use Rattle.uefi_path.specs.Parents.{is_non_empty}
use Rattle.uefi_path.specs.Pushing.{needs_separator, pushed}
use Rattle.uefi_path.specs.Separators.{IsPlain, canonical, separator, slash}
use Rattle.uefi_path.specs.Verdicts.{IsGood, first_fault, is_denied, verdict, IsFileName, IsValid, denied, fault, fault_at}
use Rattle.uefi_path.proofs.Rewriting.{Accepted, Accepted-append, good_components, accepted_climbs, climbs_accepted, AcceptedAt, first_accepted, with_first, kind-DotDot}
use Rattle.uefi_path.proofs.Joining.{canonical-no, canonical-yes, components_of-pushed, IsFull, open_joined, separator_is_plain, AreComponents-components_of}
use Rattle.std.specs.List.{Contains}
use Rattle.std.specs.Option.{option_map, option_or}
use Rattle.std.specs.Result.{result_err}
use Rattle.std.proofs.lemmas.List.Folds.{Any-from_list_any}
use Rattle.uefi_path.specs.declared.validation.PathError.{PathError}
use Rattle.uefi_path.specs.declared.validation.PathError.TheVariants.{IllegalChar, ClimbsAboveRoot, Empty}
use Rattle.std.proofs.lemmas.Option.{same_Some}
use Rattle.uefi_path.specs.Climbing.{counted_dot_dot, counted_name, depth_after, dot_dots, names}
use Rattle.uefi_path.specs.Laws.{IsRefusedFor}
use Rattle.uefi_path.specs.NormalForms.{dot_dot, kind}
use Rattle.uefi_path.specs.declared.splitting.component_kinds.Kind.{Kind}
use Rattle.uefi_path.specs.declared.splitting.component_kinds.Kind.TheVariants.{Dot, DotDot, Name}
use Rattle.std.proofs.lemmas.Grind.{common_steps}
use Rattle.std.proofs.lemmas.List.{append-nil}
use Rattle.uefi_path.specs.ComponentIndices.{BeginAtPlaces}
use Rattle.uefi_path.specs.FaultPlaces.{IsRefusedAt}

-- the verdict on a text that is not empty is that on its components
pub verdict_from : (text : List ℕ) → text ≢ [] → verdict text ≡ first_fault (components_of text) 0
verdict_from text h1 = grind arith

-- a valid text is not empty, and has components that are accepted, which are good
pub valid-non_empty : (text : List ℕ) → verdict text ≡ None → text ≢ []
valid-non_empty text h1 = grind arith

pub valid-accepted : (text : List ℕ) → verdict text ≡ None → Accepted (components_of text) 0
valid-accepted text valid = sym (verdict_from text (valid-non_empty text valid)) ∙ valid

pub valid-components : (text : List ℕ) → verdict text ≡ None → All IsGood (components_of text)
valid-components text valid = good_components (components_of text) 0 (valid-accepted text valid)

-- any text like that is valid
pub valid-from : (text : List ℕ) → text ≢ [] → Accepted (components_of text) 0 → verdict text ≡ None
valid-from text non_empty accepted = verdict_from text non_empty ∙ accepted

-- a good component is not empty
pub good-non_empty : (c : List ℕ) → IsGood c → is_non_empty c ≡ true
good-non_empty c h1 = grind arith

-- and none of its units is denied
good-units : (c : List ℕ) → IsGood c → All (λ u. is_denied u ≡ false) c
good-units c good = grind (arith, All-nil, All-found_none, unmapped)

not_slash : (u : ℕ) → is_denied u ≡ false → u ≢ slash
not_slash u allowed e = true≢false (sym (ap is_denied e) ∙ allowed)

not_separator : (u : ℕ) → is_denied u ≡ false → u ≢ separator
not_separator u allowed e = true≢false (sym (ap is_denied e) ∙ allowed)

-- nor does it hold a slash
pub good-plain : (c : List ℕ) → IsGood c → IsPlain c
good-plain c good =
    All-weaker (λ u. is_denied u ≡ false) (λ u. u ≢ slash) not_slash c (good-units c good)

-- or a separator
good-piece : (c : List ℕ) → IsGood c → IsPiece c
good-piece c good =
    All-weaker (λ u. is_denied u ≡ false) (λ u. u ≢ separator) not_separator c (good-units c good)

pub All-good_non_empty : (cs : List (List ℕ)) → All IsGood cs → All (λ c. is_non_empty c ≡ true) cs
All-good_non_empty cs good = All-weaker IsGood (λ c. is_non_empty c ≡ true) good-non_empty cs good

pub All-good_plain : (cs : List (List ℕ)) → All IsGood cs → All IsPlain cs
All-good_plain cs good = All-weaker IsGood IsPlain good-plain cs good

pub All-good_piece : (cs : List (List ℕ)) → All IsGood cs → All IsPiece cs
All-good_piece cs good = All-weaker IsGood IsPiece good-piece cs good

-- what holds of the separator and of each unit of all pieces holds of what they join to
pub All-joined : (P : ℕ → Type 0) (ps : List (List ℕ)) → P separator → All (All P) ps
    → All P (joined ps)
All-joined P [] of_separator all = All-nil P
All-joined P (p ∷ []) of_separator all = All-head (All P) p [] all
All-joined P (p ∷ q ∷ ps) of_separator all =
    All-append P p (separator ∷ joined (q ∷ ps)) (All-head (All P) p (q ∷ ps) all)
    (All-cons P separator (joined (q ∷ ps)) of_separator
    (All-joined P (q ∷ ps) of_separator (All-tail (All P) p (q ∷ ps) all)))

All-from_canonical : (P : ℕ → Type 0) (text : List ℕ) → P separator → All P (canonical text) → All P text
All-from_canonical P text h1 h2 = grind (arith, cases_Bool, All-cons, eqb-true, canonical-yes, canonical-no)

-- a valid text is plain
pub valid-plain : (text : List ℕ) → verdict text ≡ None → IsPlain text
valid-plain text valid =
    let pieces = All-good_plain (components_of text) (valid-components text valid) in
    let whole = All-joined (λ u. u ≢ slash) (components_of text) separator_is_plain pieces in
    All-from_canonical (λ u. u ≢ slash) text separator_is_plain
    (subst IsPlain (AreComponents-components_of text).join whole)

open_canonical : (text : List ℕ) → needs_separator (canonical text) ≡ true → needs_separator text ≡ true
open_canonical text h1 = grind arith

open_pieces : (text : List ℕ) (cs : List (List ℕ)) → joined cs ≡ canonical text → All IsPiece cs → All IsFull cs
    → (canonical text ≡ []) ⊎ (needs_separator text ≡ true)
open_pieces text [] e pieces full = inl (sym e)
open_pieces text (c ∷ cs) e pieces full = inr (open_canonical text (ap needs_separator (sym e) ∙ open_joined c cs pieces full))

-- a text whose components are not empty has none, or ends in no separator
pub full-open : (text : List ℕ) → All IsFull (components_of text) → (canonical text ≡ []) ⊎ (needs_separator text ≡ true)
full-open text full = grind (arith, AreComponents-components_of, open_pieces)

-- a valid text has no component or ends in no separator
pub valid-open : (text : List ℕ) → verdict text ≡ None
    → (canonical text ≡ []) ⊎ (needs_separator text ≡ true)
valid-open text valid = full-open text (All-good_non_empty (components_of text) (valid-components text valid))

pushed-not_empty : (text part : List ℕ) → part ≢ [] → pushed text part ≢ []
pushed-not_empty text part h1 = grind arith

-- a valid path pushed onto another, unless it begins with a separator
pub valid-pushed : (text part : List ℕ) → verdict text ≡ None → verdict part ≡ None
    → canonical part ≡ part → verdict (pushed text part) ≡ None
valid-pushed text part valid valid_part front =
    let both =
    components_of-pushed text part (valid-plain part valid_part) (valid-open text valid) front
    in grind (arith, valid-from, pushed-not_empty, valid-non_empty, Accepted, Accepted-append, valid-accepted, both)

-- a unit that none of those denied is, and the test that says so
none_denied : (unit : ℕ) → is_denied unit ≡ false → ¬ Contains denied unit
none_denied unit allowed found = grind arith

denied_unit : (unit : ℕ) → is_denied unit ≡ true → Contains denied unit
denied_unit unit tested =
    let found = Any-from_list_any (λ other. other == unit) denied tested in
    subst (Contains denied) (eqb-true found.1 unit found.4) (found.0, found.2, found.3)

not_denied : (unit : ℕ) → ¬ Contains denied unit → is_denied unit ≡ false
not_denied unit none = false_from_ne_true (is_denied unit) (λ tested. none (denied_unit unit tested))

-- a component without a fault is a name, and the other way round
good_name : (c : List ℕ) → IsFileName c → IsGood c
good_name [] name = absurd (name.not_empty refl)
good_name (u ∷ us) name =
    ap (option_map IllegalChar)
    (found_none is_denied (u ∷ us)
    (All-weaker (λ unit. ¬ Contains denied unit) (λ unit. is_denied unit ≡ false) not_denied (u ∷ us)
    name.none_denied))

name_good : (c : List ℕ) → IsGood c → IsFileName c
name_good c good = record {
  not_empty = grind arith;
  none_denied = All-weaker (λ unit. is_denied unit ≡ false) (λ unit. ¬ Contains denied unit) none_denied c (good-units c good);
}

pub valid_unrefused : (text : List ℕ) → IsValid text ↔ (verdict text ≡ None)
valid_unrefused text = (
  grind (arith, valid-from, climbs_accepted, All-weaker, good_name),
  λ unrefused. record {
    not_empty = valid-non_empty text unrefused;
    file_names =
        All-weaker IsGood IsFileName name_good (components_of text) (valid-components text unrefused);
    none_climbs = accepted_climbs (components_of text) (valid-accepted text unrefused);
  },
)

-- what is accepted is what is not refused
accepted : {T : Type 0} (result : Result T PathError) → IsOk result ↔ (result_err result ≡ None)
accepted h1 = grind (arith, false≢true)

pub accepted_valid : {T : Type 0} (result : Result T PathError) (text : List ℕ) → result_err result ≡ verdict text
    → IsOk result ↔ IsValid text
accepted_valid result text e = grind (arith, valid_unrefused, false≢true)

-- the component that decides, where this many names are left before all of them
abbrev IsDecider : List (List ℕ) → List ℕ → ℕ → PathError → Type 0
IsDecider front component depth error = (fault component ≡ Some error)
    ⊎ ((component ≡ dot_dot) × (names front + depth ≤ dot_dots front) × (error ≡ ClimbsAboveRoot))

record Refused (components : List (List ℕ)) (depth : ℕ) (error : PathError) : Type 0 where
  front : List (List ℕ)
  component : List ℕ
  rest : List (List ℕ)
  split : components ≡ front ++ component ∷ rest
  accepted : Accepted front depth
  why : IsDecider front component depth error

-- a good component before those that are refused
module _ (c : List ℕ) (cs : List (List ℕ)) (depth : ℕ) (error : PathError) (good : fault c ≡ None) where
  past : (left : ℕ) → depth_after (kind c) depth ≡ Some left
      → ((front : List (List ℕ)) → names front + left ≤ dot_dots front → names (c ∷ front) + depth ≤ dot_dots (c ∷ front))
      → Refused cs left error → Refused (c ∷ cs) depth error
  past left is counts later = record {
    front = c ∷ later.front;
    component = later.component;
    rest = later.rest;
    split = ap (λ ps. c ∷ ps) later.split;
    accepted = with_first c later.front depth good (subst (AcceptedAt later.front) (sym is) later.accepted);
    why = grind arith;
  }

  -- by its kind
  at : (k : Kind) → kind c ≡ k → ((left : ℕ) → first_fault cs left ≡ Some error → Refused cs left error)
      → fault_at (depth_after k depth) (first_fault cs) ≡ Some error → Refused (c ∷ cs) depth error
  at Dot e rest refused = grind (arith, common_steps, past)
  at Name e rest refused = grind (arith, past)
  at DotDot e rest refused = at_dots depth refl refused
    where
      at_dots : (n : ℕ) → depth ≡ n → fault_at (depth_after DotDot n) (first_fault cs) ≡ Some error → Refused (c ∷ cs) depth error
      at_dots zero none refused = record {
        front = [];
        component = c;
        rest = cs;
        split = refl;
        accepted = refl;
        why = inr (kind-DotDot c e, omega (arith, none), sym (same_Some ClimbsAboveRoot error refused));
      }
      at_dots (suc left) some refused =
          past left (ap (λ k. depth_after k depth) e ∙ ap (depth_after DotDot) some)
          (λ front less. omega (arith, ap counted_name e, ap counted_dot_dot e, less, some)) (rest left refused)

by_fault : (c : List ℕ) (cs : List (List ℕ)) (depth : ℕ) (error : PathError)
    → ((left : ℕ) → first_fault cs left ≡ Some error → Refused cs left error) → (found : Option PathError) → fault c ≡ found
    → option_or found (fault_at (depth_after (kind c) depth) (first_fault cs)) ≡ Some error → Refused (c ∷ cs) depth error
by_fault c cs depth error rest None good refused = at c cs depth error good (kind c) refl rest refused
by_fault c cs depth error rest (Some other) bad refused = record {
  front = [];
  component = c;
  rest = cs;
  split = refl;
  accepted = refl;
  why = inl (bad ∙ refused);
}

refused_front : (cs : List (List ℕ)) (depth : ℕ) (error : PathError) → first_fault cs depth ≡ Some error → Refused cs depth error
refused_front [] depth error refused = absurd (cc)
refused_front (c ∷ cs) depth error refused =
    by_fault c cs depth error (λ left. refused_front cs left error) (fault c) refl refused

-- and back: what is refused for a component is refused whatever follows it
decided : (c : List ℕ) (rest : List (List ℕ)) (depth : ℕ) (error : PathError) → IsDecider [] c depth error
    → first_fault (c ∷ rest) depth ≡ Some error
decided c rest depth error h1 = grind arith

module _ (f : List ℕ) (fs : List (List ℕ)) (c : List ℕ) (rest : List (List ℕ)) (error : PathError)
    (others : (left : ℕ) → Accepted fs left → IsDecider fs c left error → first_fault (fs ++ c ∷ rest) left ≡ Some error) where
  later : (left depth : ℕ) → ((names (f ∷ fs) + depth ≤ dot_dots (f ∷ fs)) → names fs + left ≤ dot_dots fs)
      → IsDecider (f ∷ fs) c depth error → IsDecider fs c left error
  later left depth h1 h2 = grind arith

  onwards : (k : Kind) → kind f ≡ k → (depth : ℕ) → AcceptedAt fs (depth_after k depth) → IsDecider (f ∷ fs) c depth error
      → fault_at (depth_after k depth) (first_fault (fs ++ c ∷ rest)) ≡ Some error
  onwards k h1 depth h2 h3 = grind arith

front_refused : (front : List (List ℕ)) (c : List ℕ) (rest : List (List ℕ)) (depth : ℕ) (error : PathError) → Accepted front depth
    → IsDecider front c depth error → first_fault (front ++ c ∷ rest) depth ≡ Some error
front_refused [] c rest depth error accepted why = decided c rest depth error why
front_refused (f ∷ fs) c rest depth error accepted why =
    let first = first_accepted f fs depth accepted in
    ap (λ o. option_or o (fault_at (depth_after (kind f) depth) (first_fault (fs ++ c ∷ rest)))) first.0
    ∙ onwards f fs c rest error (λ left. front_refused fs c rest left error) (kind f) refl depth first.1 why

not_empty : (text : List ℕ) (error : PathError) → text ≢ [] → verdict text ≡ Some error → IsRefusedFor (components_of text) error
not_empty text error some refused =
    let found = refused_front (components_of text) 0 error (sym (verdict_from text some) ∙ refused) in
    record {
      front = found.front;
      component = found.component;
      rest = found.rest;
      split = found.split;
      good = good_components found.front 0 found.accepted;
      none_climbs = accepted_climbs found.front found.accepted;
      why = grind (arith, found);
    }

pub refused_first : (text : List ℕ) (error : PathError) → verdict text ≡ Some error
    → (((text ≡ []) × (error ≡ Empty)) ⊎ ((text ≢ []) × IsRefusedFor (components_of text) error))
refused_first text error h1 = grind (arith, same_Some, not_empty)

pub first_refused : (text : List ℕ) (error : PathError)
    → (((text ≡ []) × (error ≡ Empty)) ⊎ ((text ≢ []) × IsRefusedFor (components_of text) error)) → verdict text ≡ Some error
first_refused text error (inl empty) = ap verdict empty.0 ∙ ap Some (sym empty.1)
first_refused text error (inr (some, found)) =
    let why : IsDecider found.front found.component 0 error = grind arith in
    verdict_from text some ∙ ap (λ ps. first_fault ps 0) found.split
    ∙ front_refused found.front found.component found.rest 0 error (climbs_accepted found.front found.good found.none_climbs) why

-- some components were passed: whatever follows them is judged as what is left
pub record IsWalkAt (text : List ℕ) (depth : ℕ) (left : List (ℕ × List ℕ)) : Type 0 where
  pub before : List (List ℕ)
  pub whole : components_of text ≡ before ++ map (λ item. item.1) left
  pub passed : (others : List (List ℕ)) → first_fault (before ++ others) 0 ≡ first_fault others depth
  pub places : BeginAtPlaces text left

module _ (text : List ℕ) (depth : ℕ) (all : List (ℕ × List ℕ)) (walk : IsWalkAt text depth all) (place : ℕ) (c : List ℕ)
    (more : List (ℕ × List ℕ)) (here : all ≡ (place, c) ∷ more) where
  abbrev cs : List (List ℕ)
  cs = map (λ item. item.1) more

  whole : components_of text ≡ walk.before ++ c ∷ cs
  whole = walk.whole ∙ ap (λ items. walk.before ++ map (λ item. item.1) items) here

  places : BeginAtPlaces text ((place, c) ∷ more)
  places = subst (BeginAtPlaces text) here walk.places

  pub step : (left : ℕ) → fault c ≡ None → depth_after (kind c) depth ≡ Some left → IsWalkAt text left more
  step left good is = grind (arith, whole, append_assoc walk.before (c ∷ []) cs, append_assoc, places)

  -- the component is at fault
  pub stop : (error : PathError) → ((others : List (List ℕ)) → first_fault (c ∷ others) depth ≡ Some error) → text ≢ []
      → IsRefusedAt text (record { error = error; place = place })
  stop error refused non_empty = record {
    error = verdict_from text non_empty ∙ ap (λ ps. first_fault ps 0) whole ∙ walk.passed (c ∷ cs) ∙ refused cs;
    place = inr (record {
      before = walk.before;
      component = c;
      after = cs;
      components = whole;
      accepted = ap (λ ps. first_fault ps 0) (sym (append-nil walk.before)) ∙ walk.passed [];
      refused = walk.passed (c ∷ []) ∙ refused [];
      within = places.0;
      begins = places.1.0;
    });
  }

pub refused_by_name : (c : List ℕ) (depth : ℕ) (error : PathError) → fault c ≡ Some error
    → (others : List (List ℕ)) → first_fault (c ∷ others) depth ≡ Some error
refused_by_name c depth error at others = ap (λ o. option_or o (fault_at (depth_after (kind c) depth) (first_fault others))) at

pub refused_by_climb : (c : List ℕ) (depth : ℕ) → fault c ≡ None → depth_after (kind c) depth ≡ None
    → (others : List (List ℕ)) → first_fault (c ∷ others) depth ≡ Some ClimbsAboveRoot
refused_by_climb c depth good at others = grind arith
