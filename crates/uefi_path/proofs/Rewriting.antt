-- Normal forms of lists of pieces, and which components are accepted: each list has exactly one normal form, and where none climbs it holds names alone.
use Rattle.std.proofs.Common.{◌≡◌, ◌≢◌, ℕ, List, [], ◌∷◌, ◌++◌, inl, inr, zero, suc, refl, sym, ap, ◌∙◌, subst, arith, ◌+◌, ◌<◌, ◌≤◌, ◌&&◌, Bool, nat_lt, IsTrue, All, length, Option, None, Some, take}
use Rattle.uefi_path.specs.Laws.{NormalFormWhereSame, NormalFormsAgree, NormalFormsExist, NormalFormsOnce}
use Rattle.uefi_path.specs.NormalForms.{IsName, IsNormal, NormalForm, Rewrites, Step, Steps, before_normal, before_piece, dot, dot_dot, kind, normal_of}
use Rattle.uefi_path.specs.declared.splitting.component_kinds.Kind.{Kind}
use Rattle.uefi_path.specs.declared.splitting.component_kinds.Kind.TheVariants.{Dot, DotDot, Name}
use Rattle.std.proofs.lemmas.Grind.{common_steps}
use Rattle.std.specs.List.{slice_get}
use Rattle.std.proofs.lemmas.List.Elements.{All-cons, All-head, All-nil, All-tail}
use Rattle.std.proofs.lemmas.Option.{same_Some}
use Rattle.uefi_path.specs.Climbing.{NoneClimbs, counted_dot_dot, counted_name, depth_after, dot_dots, names}
use Rattle.uefi_path.specs.Parents.{all_but_last}
use Rattle.uefi_path.specs.Verdicts.{IsGood, fault, fault_at, first_fault}
use Rattle.uefi_path.specs.declared.validation.PathError.{PathError}

pub kind-Dot : (piece : List ℕ) → kind piece ≡ Dot → piece ≡ dot
kind-Dot piece h1 = grind arith

pub kind-DotDot : (piece : List ℕ) → kind piece ≡ DotDot → piece ≡ dot_dot
kind-DotDot piece h1 = grind arith

pub kind-Name : (piece : List ℕ) → kind piece ≡ Name → IsName piece
kind-Name piece e = grind arith

pub name_kind : (piece : List ℕ) → IsName piece → kind piece ≡ Name
name_kind piece name = grind arith

-- a `.`, and a name before `..`, at the front
dot_goes : (p : List ℕ) (ps : List (List ℕ)) → p ≡ dot → Step (p ∷ ps) ps
dot_goes p ps e = grind arith

pair_goes : (p q : List ℕ) (ps : List (List ℕ)) → IsName p → q ≡ dot_dot → Step (p ∷ q ∷ ps) ps
pair_goes p q ps name e = inr (record {
  front = [];
  name = p;
  back = ps;
  is_name = name;
  before = ap (λ up. p ∷ up ∷ ps) e;
  after = refl;
})

-- a step after one more piece
step_after : (p : List ℕ) (ps qs : List (List ℕ)) → Step ps qs → Step (p ∷ ps) (p ∷ qs)
step_after p ps qs (inl d) = inl (record {
  front = p ∷ d.front;
  back = d.back;
  before = ap (λ others. p ∷ others) d.before;
  after = ap (λ others. p ∷ others) d.after;
})
step_after p ps qs (inr d) = inr (record {
  front = p ∷ d.front;
  name = d.name;
  back = d.back;
  is_name = d.is_name;
  before = ap (λ others. p ∷ others) d.before;
  after = ap (λ others. p ∷ others) d.after;
})

steps_after : (n : ℕ) (p : List ℕ) (ps qs : List (List ℕ)) → Steps n ps qs → Steps n (p ∷ ps) (p ∷ qs)
steps_after zero p ps qs e = ap (λ others. p ∷ others) e
steps_after (suc n) p ps qs s = grind (arith, steps_after n p s.0 qs s.2, step_after)

pub steps_then : (n : ℕ) (ps qs rs : List (List ℕ)) → Steps n ps qs → Rewrites qs rs → Rewrites ps rs
steps_then zero ps qs rs e more = subst (λ pieces. Rewrites pieces rs) (sym e) more
steps_then (suc n) ps qs rs s more =
    let rest = steps_then n s.0 qs rs s.2 more in (suc rest.0, (s.0, s.1, rest.1))

pub one_step : (ps qs : List (List ℕ)) → Step ps qs → Rewrites ps qs
one_step ps qs s = (1, (qs, s, refl))

-- each step keeps it
normal_of-after : (front ps qs : List (List ℕ)) → normal_of ps ≡ normal_of qs
    → normal_of (front ++ ps) ≡ normal_of (front ++ qs)
normal_of-after [] ps qs e = e
normal_of-after (f ∷ front) ps qs e = ap (before_normal (kind f) f) (normal_of-after front ps qs e)

pub normal_of-step : (ps qs : List (List ℕ)) → Step ps qs → normal_of ps ≡ normal_of qs
normal_of-step ps qs h1 = grind (arith, normal_of-after, name_kind)

normal_of-steps : (n : ℕ) (ps qs : List (List ℕ)) → Steps n ps qs → normal_of ps ≡ normal_of qs
normal_of-steps zero ps qs e = ap normal_of e
normal_of-steps (suc n) ps qs s = normal_of-step ps s.0 s.1 ∙ normal_of-steps n s.0 qs s.2

-- a normal list is its own normal form
tail_normal : (p : List ℕ) (ps : List (List ℕ)) → IsNormal (p ∷ ps) → IsNormal ps
tail_normal p ps normal qs s = normal (p ∷ qs) (step_after p ps qs s)

before_piece-normal : (k : Kind) (p q : List ℕ) (qs : List (List ℕ)) → IsName p → kind q ≡ k
    → IsNormal (p ∷ q ∷ qs) → before_piece k p q qs ≡ p ∷ q ∷ qs
before_piece-normal Dot p q qs name e normal = refl
before_piece-normal DotDot p q qs name e normal =
    absurd (normal qs (pair_goes p q qs name (kind-DotDot q e)))
before_piece-normal Name p q qs name e normal = refl

before_normal-normal : (k : Kind) (p : List ℕ) (ps : List (List ℕ)) → kind p ≡ k → IsNormal (p ∷ ps)
    → before_normal k p ps ≡ p ∷ ps
before_normal-normal Dot p ps e normal = absurd (normal ps (dot_goes p ps (kind-Dot p e)))
before_normal-normal DotDot p ps e normal = refl
before_normal-normal Name p [] e normal = refl
before_normal-normal Name p (q ∷ qs) e normal = before_piece-normal (kind q) p q qs (kind-Name p e) refl normal

pub normal_of-normal : (ps : List (List ℕ)) → IsNormal ps → normal_of ps ≡ ps
normal_of-normal [] normal = refl
normal_of-normal (p ∷ ps) normal =
    ap (before_normal (kind p) p) (normal_of-normal ps (tail_normal p ps normal))
    ∙ before_normal-normal (kind p) p ps refl normal

-- steps lead to it
before_piece_reached : (k : Kind) (p q : List ℕ) (qs : List (List ℕ)) → IsName p → kind q ≡ k
    → Rewrites (p ∷ q ∷ qs) (before_piece k p q qs)
before_piece_reached k p q qs h1 h2 = grind (arith, one_step, pair_goes, kind-DotDot)

before_normal_reached : (k : Kind) (p : List ℕ) (ps : List (List ℕ)) → kind p ≡ k → Rewrites (p ∷ ps) (before_normal k p ps)
before_normal_reached Dot p ps e = one_step (p ∷ ps) ps (dot_goes p ps (kind-Dot p e))
before_normal_reached DotDot p ps e = (0, refl)
before_normal_reached Name p [] e = (0, refl)
before_normal_reached Name p (q ∷ qs) e = before_piece_reached (kind q) p q qs (kind-Name p e) refl

normal_of_reached : (ps : List (List ℕ)) → Rewrites ps (normal_of ps)
normal_of_reached [] = (0, refl)
normal_of_reached (p ∷ ps) =
    let rest = normal_of_reached ps in
    steps_then rest.0 (p ∷ ps) (p ∷ normal_of ps) (normal_of (p ∷ ps))
    (steps_after rest.0 p ps (normal_of ps) rest.1) (before_normal_reached (kind p) p (normal_of ps) refl)

-- and none leads from it
from_nil : (front : List (List ℕ)) (p : List ℕ) (back : List (List ℕ)) → [] ≢ front ++ p ∷ back
from_nil [] p back e = cc
from_nil (f ∷ front) p back e = cc

pub nil_normal : IsNormal []
nil_normal = grind (arith, from_nil)

-- a piece before a normal list: no step leads from both where none begins at the piece
after_piece_normal : (p : List ℕ) (ps : List (List ℕ)) → IsNormal ps → p ≢ dot
    → ((qs : List (List ℕ)) → ps ≡ dot_dot ∷ qs → ¬ IsName p) → IsNormal (p ∷ ps)
after_piece_normal p ps normal no_dot no_pair rs (inl d) = at_dot d.front d.before
  where
    at_dot : (front : List (List ℕ)) → p ∷ ps ≡ front ++ dot ∷ d.back → ⊥
    at_dot [] e = let same : p ≡ dot = cc in no_dot same
    at_dot (f ∷ front) e =
        let others : ps ≡ front ++ dot ∷ d.back = cc in
        normal (front ++ d.back) (inl (record { front = front; back = d.back; before = others; after = refl }))
after_piece_normal p ps normal no_dot no_pair rs (inr d) = at_pair d.front d.before
  where
    at_pair : (front : List (List ℕ)) → p ∷ ps ≡ front ++ d.name ∷ dot_dot ∷ d.back → ⊥
    at_pair [] e =
        let same : d.name ≡ p = cc in
        let others : ps ≡ dot_dot ∷ d.back = cc in
        no_pair d.back others (subst IsName same d.is_name)
    at_pair (f ∷ front) e =
        let others : ps ≡ front ++ d.name ∷ dot_dot ∷ d.back = cc in
        normal (front ++ d.back) (inr (record {
          front = front;
          name = d.name;
          back = d.back;
          is_name = d.is_name;
          before = others;
          after = refl;
        }))

before_piece_normal : (k : Kind) (p q : List ℕ) (qs : List (List ℕ)) → IsName p → kind q ≡ k
    → IsNormal (q ∷ qs) → IsNormal (before_piece k p q qs)
before_piece_normal Dot p q qs name e normal = absurd (normal qs (dot_goes q qs (kind-Dot q e)))
before_piece_normal DotDot p q qs name e normal = tail_normal q qs normal
before_piece_normal Name p q qs name e normal =
    after_piece_normal p (q ∷ qs) normal name.0
    (λ rs same. absurd ((kind-Name q e).1 (let head : q ≡ dot_dot = cc in head)))

before_normal_normal : (k : Kind) (p : List ℕ) (ps : List (List ℕ)) → kind p ≡ k → IsNormal ps → IsNormal (before_normal k p ps)
before_normal_normal Dot p ps e normal = normal
before_normal_normal DotDot p ps e normal =
    let up = kind-DotDot p e in
    after_piece_normal p ps normal (λ is_dot. let k = sym up ∙ is_dot in cc) (λ qs same name. name.1 up)
before_normal_normal Name p [] e normal = after_piece_normal p [] normal (kind-Name p e).0 (λ qs same. cc)
before_normal_normal Name p (q ∷ qs) e normal = before_piece_normal (kind q) p q qs (kind-Name p e) refl normal

normal_of_normal : (ps : List (List ℕ)) → IsNormal (normal_of ps)
normal_of_normal [] = nil_normal
normal_of_normal (p ∷ ps) = before_normal_normal (kind p) p (normal_of ps) refl (normal_of_normal ps)

-- so it is the normal form
pub NormalForm-normal_of : (ps : List (List ℕ)) → NormalForm ps (normal_of ps)
NormalForm-normal_of ps = (normal_of_reached ps, normal_of_normal ps)

-- and no other list is
pub normal_of-only : (ps qs : List (List ℕ)) → NormalForm ps qs → qs ≡ normal_of ps
normal_of-only ps qs form = sym (normal_of-steps form.0.0 ps qs form.0.1 ∙ normal_of-normal qs form.1)

pub normal_forms_exist : NormalFormsExist
normal_forms_exist ps = (normal_of ps, NormalForm-normal_of ps)

pub normal_forms_once : NormalFormsOnce
normal_forms_once ps qs rs form other = normal_of-only ps qs form ∙ sym (normal_of-only ps rs other)

pub normal_form_where_same : NormalFormWhereSame
normal_form_where_same ps qs = (
  λ form. normal_of-only ps qs form,
  λ same. subst (NormalForm ps) (sym same) (NormalForm-normal_of ps),
)

pub normal_forms_agree : NormalFormsAgree
normal_forms_agree ps qs ns ms form other = grind (arith, normal_of-only, normal_of-steps)

-- Components that the verdict accepts: they are good, and none climbs. So are a part of them and others

-- components that are accepted where this many names are left before them, and after a piece, unless it
-- climbs
abbrev pub Accepted : List (List ℕ) → ℕ → Type 0
Accepted cs depth = first_fault cs depth ≡ None

abbrev pub AcceptedAt : List (List ℕ) → Option ℕ → Type 0
AcceptedAt cs left = fault_at left (first_fault cs) ≡ None

pub first_accepted : (c : List ℕ) (cs : List (List ℕ)) (depth : ℕ) → Accepted (c ∷ cs) depth
    → IsGood c × AcceptedAt cs (depth_after (kind c) depth)
first_accepted c cs depth accepted = grind arith

pub with_first : (c : List ℕ) (cs : List (List ℕ)) (depth : ℕ) → IsGood c → AcceptedAt cs (depth_after (kind c) depth)
    → Accepted (c ∷ cs) depth
with_first c cs depth good others = grind arith

-- what holds of those that are accepted at some depth holds after a piece, at some depth then
module _ (cs : List (List ℕ)) (P : Type 0) (holds : (depth : ℕ) → Accepted cs depth → P) where
  after_piece : (left : Option ℕ) → AcceptedAt cs left → P
  after_piece left h1 = grind arith

pub good_components : (cs : List (List ℕ)) (depth : ℕ) → Accepted cs depth → All IsGood cs
good_components [] depth accepted = All-nil IsGood
good_components (c ∷ cs) depth accepted = grind (arith, common_steps, good_components cs, first_accepted, All-cons, after_piece)

-- they are accepted also where more names are left before them, others stand after them, or only those but
-- the last are left
module _ (cs ds : List (List ℕ)) (rest : (depth more : ℕ) → depth ≤ more → Accepted cs depth → Accepted ds more) where
  onto : (k : Kind) (depth more : ℕ) → depth ≤ more → AcceptedAt cs (depth_after k depth)
      → AcceptedAt ds (depth_after k more)
  onto k depth more h1 h2 = grind arith

  with_same : (c : List ℕ) (depth more : ℕ) → depth ≤ more → Accepted (c ∷ cs) depth → Accepted (c ∷ ds) more
  with_same c depth more less accepted = grind (arith, first_accepted, with_first, onto)

deeper : (cs : List (List ℕ)) (depth more : ℕ) → depth ≤ more → Accepted cs depth → Accepted cs more
deeper [] depth more less accepted = refl
deeper (c ∷ cs) depth more less accepted = with_same cs cs (deeper cs) c depth more less accepted

append_deeper : (ds : List (List ℕ)) → Accepted ds 0 → (cs : List (List ℕ)) (depth more : ℕ) → depth ≤ more
    → Accepted cs depth → Accepted (cs ++ ds) more
append_deeper ds after [] depth more less accepted = deeper ds 0 more (omega arith) after
append_deeper ds after (c ∷ cs) depth more less accepted = grind (arith, append_deeper ds after cs, with_same)

pub Accepted-append : (cs ds : List (List ℕ)) → Accepted cs 0 → Accepted ds 0 → Accepted (cs ++ ds) 0
Accepted-append cs ds accepted after = append_deeper ds after cs 0 0 (omega arith) accepted

all_but_last_deeper : (cs : List (List ℕ)) (depth more : ℕ) → depth ≤ more → Accepted cs depth
    → Accepted (all_but_last cs) more
all_but_last_deeper [] depth more less accepted = refl
all_but_last_deeper (c ∷ []) depth more less accepted = refl
all_but_last_deeper (c ∷ d ∷ cs) depth more less accepted =
    with_same (d ∷ cs) (all_but_last (d ∷ cs)) (all_but_last_deeper (d ∷ cs)) c depth more less accepted

pub Accepted-all_but_last : (cs : List (List ℕ)) → Accepted cs 0 → Accepted (all_but_last cs) 0
Accepted-all_but_last cs accepted = all_but_last_deeper cs 0 0 (omega arith) accepted

-- and where they are names
pub Accepted-names : (cs : List (List ℕ)) (depth : ℕ) → All IsGood cs → All IsName cs → Accepted cs depth
Accepted-names [] depth good all = refl
Accepted-names (c ∷ cs) depth good all =
    with_first c cs depth (All-head IsGood c cs good)
    (subst (λ k. AcceptedAt cs (depth_after k depth)) (sym (name_kind c (All-head IsName c cs all)))
    (Accepted-names cs (depth + 1) (All-tail IsGood c cs good) (All-tail IsName c cs all)))

-- they are accepted exactly where they are good and none climbs
abbrev NoneAbove : List (List ℕ) → ℕ → Type 0
NoneAbove cs depth = (place : ℕ) → slice_get cs place ≡ Some dot_dot
    → names (take place cs) + depth ≤ dot_dots (take place cs) → ⊥

module _ (c : List ℕ) (cs : List (List ℕ)) (rest : (depth : ℕ) → NoneAbove cs depth → Accepted cs depth) where
  accepted_where : (k : Kind) (depth : ℕ) → kind c ≡ k → NoneAbove (c ∷ cs) depth → AcceptedAt cs (depth_after k depth)
  accepted_where Dot depth e none =
      rest depth (λ place up more. none (suc place) up (omega (arith, ap counted_name e, ap counted_dot_dot e, more)))
  accepted_where DotDot zero e none = absurd (none 0 (ap Some (kind-DotDot c e)) (omega arith))
  accepted_where DotDot (suc depth) e none =
      rest depth (λ place up more. none (suc place) up (omega (arith, ap counted_name e, ap counted_dot_dot e, more)))
  accepted_where Name depth e none =
      rest (depth + 1) (λ place up more. none (suc place) up (omega (arith, ap counted_name e, ap counted_dot_dot e, more)))

none_accepted : (cs : List (List ℕ)) (depth : ℕ) → All IsGood cs → NoneAbove cs depth → Accepted cs depth
none_accepted [] depth good none = refl
none_accepted (c ∷ cs) depth good none =
    with_first c cs depth (All-head IsGood c cs good)
    (accepted_where c cs (λ left. none_accepted cs left (All-tail IsGood c cs good)) (kind c) depth refl none)

module _ (c : List ℕ) (cs : List (List ℕ)) (rest : (depth : ℕ) → Accepted cs depth → NoneAbove cs depth) where
  none_where : (k : Kind) (depth : ℕ) → kind c ≡ k → AcceptedAt cs (depth_after k depth) → NoneAbove (c ∷ cs) depth
  none_where k depth h1 h2 = grind (arith, same_Some)

accepted_none : (cs : List (List ℕ)) (depth : ℕ) → Accepted cs depth → NoneAbove cs depth
accepted_none [] depth accepted place up more = cc
accepted_none (c ∷ cs) depth accepted place up more = grind (arith, common_steps, none_where, accepted_none cs, first_accepted)

pub accepted_climbs : (cs : List (List ℕ)) → Accepted cs 0 → NoneClimbs cs
accepted_climbs cs accepted place climbs = accepted_none cs 0 accepted place climbs.0 (omega (arith, climbs.1))

pub climbs_accepted : (cs : List (List ℕ)) → All IsGood cs → NoneClimbs cs → Accepted cs 0
climbs_accepted cs good none = none_accepted cs 0 good (λ place up more. none place (up, omega (arith, more)))

-- the normal form begins with at most as many `..` as names are left before it
abbrev begins_at : Kind → ℕ → Type 0 → (ℕ → Type 0) → Type 0
begins_at Dot depth names rest = ⊥
begins_at DotDot zero names rest = ⊥
begins_at DotDot (suc depth) names rest = rest depth
begins_at Name depth names rest = names

abbrev Begins : List (List ℕ) → ℕ → Type 0
Begins [] depth = Unit {0}
Begins (c ∷ cs) depth = begins_at (kind c) depth (All IsName cs) (Begins cs)

name_before : (k : Kind) (c d : List ℕ) (ds : List (List ℕ)) (depth : ℕ) → kind c ≡ Name → kind d ≡ k
    → begins_at k (depth + 1) (All IsName ds) (Begins ds) → Begins (before_piece k c d ds) depth
name_before k c d ds depth h1 h2 h3 = grind arith

piece_before : (k : Kind) (c : List ℕ) (cs ds : List (List ℕ)) (depth : ℕ) → kind c ≡ k
    → ((left : ℕ) → Accepted cs left → Begins ds left)
    → AcceptedAt cs (depth_after k depth) → Begins (before_normal k c ds) depth
piece_before k c cs ds depth h1 h2 h3 = grind arith

normal_begins : (cs : List (List ℕ)) (depth : ℕ) → Accepted cs depth → Begins (normal_of cs) depth
normal_begins [] depth accepted = tt
normal_begins (c ∷ cs) depth accepted = grind (arith, normal_begins cs, piece_before, first_accepted)

all_names : (cs : List (List ℕ)) → Begins cs 0 → All IsName cs
all_names [] begins = All-nil IsName
all_names (c ∷ cs) begins = grind arith

-- so it holds names alone
pub names_of_normal : (cs : List (List ℕ)) → Accepted cs 0 → All IsName (normal_of cs)
names_of_normal cs accepted = all_names (normal_of cs) (normal_begins cs 0 accepted)

-- one name more is left at most, and only after a name
after_one : (k : Kind) (depth left : ℕ) → depth_after k depth ≡ Some left → (left ≤ depth + 1) × (depth < left → k ≡ Name)
after_one k depth left h1 = grind (arith, same_Some)

-- where the components that are left have the fault, so has the next of them, or what is after it, or
-- there is none
module _ (found : Option PathError) (left : List (List ℕ)) (depth : ℕ) (same : first_fault left depth ≡ found) where
  pub past_here : (c : List ℕ) (cs : List (List ℕ)) (after : Option ℕ) → left ≡ c ∷ cs → fault c ≡ None
      → depth_after (kind c) depth ≡ after → found ≡ fault_at after (first_fault cs)
  past_here c cs after e good is = grind arith

  -- all are names where those left are, and so where it is one and the others are
  pub names_here : (all : List (List ℕ)) (are : Bool) (c : List ℕ) (cs : List (List ℕ)) (after : ℕ) → (IsTrue are → All IsName left → All IsName all)
      → left ≡ c ∷ cs → depth_after (kind c) depth ≡ Some after → IsTrue (are && nat_lt depth after) → All IsName cs → All IsName all
  names_here all are c cs after so_far e is more others = grind arith

  pub room_here : (c : List ℕ) (cs : List (List ℕ)) (after limit : ℕ) → left ≡ c ∷ cs → depth_after (kind c) depth ≡ Some after
      → depth + length left < limit → after + length cs < limit
  room_here c cs after limit e is room = omega (arith, ap length e, (after_one (kind c) depth after is).0, room)
