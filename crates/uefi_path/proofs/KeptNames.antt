-- The names that a normal path keeps.
use Rattle.std.proofs.Common.{◌≡◌, ℕ, ◌+◌, ◌-◌, ◌≤◌, nat_lt, cond, if◌then◌else◌, List, [], ◌∷◌, ◌++◌, drop, length, All, append_assoc, length-append, refl, sym, ap, ◌∙◌, subst, arith, ◌≢◌, None, suc}
use Rattle.std.proofs.lemmas.Bool.{le-ltb, lt-ltb}
use Rattle.std.proofs.lemmas.List.{append-nil, length-drop}
use Rattle.std.proofs.lemmas.List.Elements.{All-head, All-tail, All-cons, All-nil}
use Rattle.uefi_path.specs.Components.{joined, components_of, pieces_between}
use Rattle.uefi_path.specs.NormalForms.{before_normal, kind, normal_of, IsName, NormalForm, before_piece, normal_text}
use Rattle.uefi_path.specs.declared.splitting.component_kinds.Kind.{Kind}
use Rattle.uefi_path.specs.Separators.{separator, with_separators, canonical, slash}
use Rattle.uefi_path.specs.Verdicts.{IsGood, verdict}
use Rattle.uefi_path.proofs.SeparatorPlaces.{IsTextUnit-separator}
use Rattle.uefi_path.proofs.ParentForm.{room, room-joined, units-canonical, components_of-joined}
use Rattle.uefi_path.proofs.Joining.{with_separators-plain, separator_is_plain, AreComponents-components_of}
use Rattle.uefi_path.proofs.Validity.{good-plain, All-good_plain, All-joined, valid-accepted, valid-components, valid-from}
use Rattle.uefi_path.specs.Laws.{NormalHoldsNames, NormalIsNormal, NormalIsValid, NormalPathsAgree}
use Rattle.uefi_path.specs.declared.splitting.component_kinds.Kind.TheVariants.{Dot, DotDot, Name}
use Rattle.uefi_text.specs.Units.{IsText, IsTextUnit}
use Rattle.uefi_path.proofs.Rewriting.{Accepted, Accepted-names, names_of_normal, name_kind, normal_forms_agree, normal_of-only, NormalForm-normal_of, normal_of-step}
use Rattle.uefi_path.specs.NamesLeft.{names_before}
use Rattle.std.proofs.lemmas.Grind.{common_steps}

-- a name before others that are joined, if there are any
abbrev pub name_before : List ℕ → List ℕ → List ℕ
name_before name [] = name
name_before name (unit ∷ units) = name ++ separator ∷ unit ∷ units

-- the last of some good names, joined, and the names before them
pub record AreLast (whole left : List (List ℕ)) (last : List ℕ) : Type 0 where
  pub names : List (List ℕ)
  pub all : whole ≡ left ++ names
  pub good : All IsGood whole
  pub text : last ≡ joined names

good_after : (front back : List (List ℕ)) → All IsGood (front ++ back) → All IsGood back
good_after [] back good = good
good_after (f ∷ front) back good = good_after front back (All-tail IsGood f (front ++ back) good)

pub one_more : (whole left new : List (List ℕ)) (last name : List ℕ) → AreLast whole left last
    → left ≡ new ++ name ∷ [] → AreLast whole new (name_before name last)
one_more whole left new last name are next =
    let all = are.all ∙ ap (λ ps. ps ++ are.names) next ∙ append_assoc new (name ∷ []) are.names in
    let good = All-tail IsGood name are.names (good_after new (name ∷ are.names) (subst (All IsGood) all are.good)) in
    record {
      names = name ∷ are.names;
      all = all;
      good = are.good;
      text = ap (name_before name) are.text ∙ sym (grind (arith, All-head));
    }

-- replacing slashes does nothing to it
pub name_is_plain : (whole left new : List (List ℕ)) (last name : List ℕ) → AreLast whole left last
    → left ≡ new ++ name ∷ [] → with_separators name ≡ name
name_is_plain whole left new last name are next =
    let all = are.all ∙ ap (λ ps. ps ++ are.names) next ∙ append_assoc new (name ∷ []) are.names in
    let good = good_after new (name ∷ are.names) (subst (All IsGood) all are.good) in
    with_separators-plain name (good-plain name (All-head IsGood name are.names good))

-- they are no longer than all
no_longer : (front back : List (List ℕ)) → length (joined back) ≤ length (joined (front ++ back))
no_longer [] back = omega arith
no_longer (f ∷ []) [] = omega arith
no_longer (f ∷ []) (b ∷ back) = omega (arith, length-append f (separator ∷ joined (b ∷ back)))
no_longer (f ∷ g ∷ front) back = grind (arith, no_longer (g ∷ front) back, length-append)

pub last_fit : (whole left : List (List ℕ)) (last : List ℕ) → AreLast whole left last
    → length last ≤ length (joined whole)
last_fit whole left last are = grind (arith, no_longer)

-- how long they are with a name before them
pub next_counted : (name last : List ℕ) (len count : ℕ) → len ≡ length last → count ≡ cond (nat_lt 0 len) 1 0
    → len + (length name + count) ≡ length (name_before name last)
next_counted name last len count h1 h2 = grind (arith, lt-ltb, length-append)

pub next_fits : (whole left new : List (List ℕ)) (name last : List ℕ) (len count : ℕ) → AreLast whole left last
    → left ≡ new ++ name ∷ [] → len ≡ length last → count ≡ cond (nat_lt 0 len) 1 0
    → len + (length name + count) ≤ length (joined whole)
next_fits whole left new name last len count are next e one =
    omega (
      arith,
      next_counted name last len count e one,
      last_fit whole new (name_before name last) (one_more whole left new last name are next),
    )

-- and what that is, with the separator that was written before them
pub with_name : (name places text : List ℕ) (start : ℕ)
    → text ≡ (if nat_lt start (length places) then separator ∷ drop start places else [])
    → name ++ text ≡ name_before name (drop start places)
with_name name places text start e = ap (λ us. name ++ us) e ∙ before (drop start places) (length-drop start places)
  where
    before : (last : List ℕ) → length last ≡ length places - start
        → name ++ (if nat_lt start (length places) then separator ∷ last else []) ≡ name_before name last
    before [] none = rw (le-ltb start (length places) (omega (arith, none))) (append-nil name)
    before (u ∷ us) some = rw (lt-ltb start (length places) (omega (arith, some))) refl

-- the names of a normal path take no more than the components
room-before_normal : (k : Kind) (p : List ℕ) (ps : List (List ℕ)) → room (before_normal k p ps) ≤ room (p ∷ ps)
room-before_normal k p ps = grind arith

room-normal_of : (ps : List (List ℕ)) → room (normal_of ps) ≤ room ps
room-normal_of [] = omega arith
room-normal_of (p ∷ ps) = omega (arith, room-normal_of ps, room-before_normal (kind p) p (normal_of ps))

units_of_room : (ps qs : List (List ℕ)) → room ps ≤ room qs → length (joined ps) ≤ length (joined qs)
units_of_room [] qs less = omega arith
units_of_room (p ∷ ps) [] less = absurd (omega (arith, less))
units_of_room (p ∷ ps) (q ∷ qs) less = omega (arith, less, room-joined p ps, room-joined q qs)

pub normal_no_longer : (ps : List (List ℕ)) → length (joined (normal_of ps)) ≤ length (joined ps)
normal_no_longer ps = units_of_room (normal_of ps) ps (room-normal_of ps)

-- what holds of each piece holds of each of the normal form
module _ (P : List ℕ → Type 0) where
  All-before_piece : (k : Kind) (p q : List ℕ) (qs : List (List ℕ)) → P p → All P (q ∷ qs)
      → All P (before_piece k p q qs)
  All-before_piece Dot p q qs here others = All-cons P p (q ∷ qs) here others
  All-before_piece DotDot p q qs here others = All-tail P q qs others
  All-before_piece Name p q qs here others = All-cons P p (q ∷ qs) here others

  All-before_normal : (k : Kind) (p : List ℕ) (ps : List (List ℕ)) → P p → All P ps → All P (before_normal k p ps)
  All-before_normal Dot p ps here others = others
  All-before_normal DotDot p ps here others = All-cons P p ps here others
  All-before_normal Name p [] here others = All-cons P p [] here others
  All-before_normal Name p (q ∷ qs) here others = All-before_piece (kind q) p q qs here others

  All-normal_of : (ps : List (List ℕ)) → All P ps → All P (normal_of ps)
  All-normal_of [] all = all
  All-normal_of (p ∷ ps) all =
      All-before_normal (kind p) p (normal_of ps) (All-head P p ps all) (All-normal_of ps (All-tail P p ps all))

  pub All-normal : (ps qs : List (List ℕ)) → NormalForm ps qs → All P ps → All P qs
  All-normal ps qs form all = subst (All P) (sym (normal_of-only ps qs form)) (All-normal_of ps all)

-- good pieces that are joined have themselves as components, and none are the lone separator
components_of-normal_text : (qs : List (List ℕ)) → All IsGood qs → components_of (normal_text qs) ≡ qs
components_of-normal_text [] good = refl
components_of-normal_text (q ∷ qs) good = components_of-joined (q ∷ qs) good

good_normal : (text : List ℕ) (normal : List (List ℕ)) → verdict text ≡ None
    → NormalForm (components_of text) normal → All IsGood normal
good_normal text normal valid form =
    All-normal IsGood (components_of text) normal form (valid-components text valid)

pub normal_holds_names : NormalHoldsNames
normal_holds_names text normal valid form =
    subst (All IsName) (sym (normal_of-only (components_of text) normal form))
    (names_of_normal (components_of text) (valid-accepted text valid))

pub normal_is_valid : NormalIsValid
normal_is_valid text normal valid form =
    let good = good_normal text normal valid form in
    let same = sym (components_of-normal_text normal good) in
    valid-from (normal_text normal) (grind (arith, components_of-joined))
    (subst (λ pieces. Accepted pieces 0) same
    (Accepted-names normal 0 good (normal_holds_names text normal valid form)))

pub normal_is_normal : NormalIsNormal
normal_is_normal text normal valid form = grind (arith, components_of-normal_text, good_normal)

pub normal_paths_agree : NormalPathsAgree
normal_paths_agree text other normal others valid other_valid form other_form =
    let agree =
    normal_forms_agree (components_of text) (components_of other) normal others form other_form in (
      λ same. agree.0
          (sym (components_of-normal_text normal (good_normal text normal valid form))
          ∙ ap pieces_between same
          ∙ components_of-normal_text others (good_normal other others other_valid other_form)),
      λ common. ap (λ pieces. canonical (normal_text pieces)) (agree.1 common),
    )

-- the path of good names holds no slash
pub plain_normal_text : (qs : List (List ℕ)) → All IsGood qs → with_separators (normal_text qs) ≡ normal_text qs
plain_normal_text [] good = refl
plain_normal_text (q ∷ qs) good =
    with_separators-plain (joined (q ∷ qs))
    (All-joined (λ u. u ≢ slash) (q ∷ qs) separator_is_plain (All-good_plain (q ∷ qs) good))

-- and names that are texts make a text
pub IsText-normal_text : (names : List (List ℕ)) → All IsText names → IsText (normal_text names)
IsText-normal_text [] texts = All-cons IsTextUnit separator [] IsTextUnit-separator (All-nil IsTextUnit)
IsText-normal_text (q ∷ qs) texts = All-joined IsTextUnit (q ∷ qs) IsTextUnit-separator texts

-- names are their own normal form
normal_of-names : (ps : List (List ℕ)) → All IsName ps → normal_of ps ≡ ps
normal_of-names [] all = refl
normal_of-names (p ∷ []) all = ap (λ k. before_normal k p []) (name_kind p (All-head IsName p [] all))
normal_of-names (p ∷ q ∷ ps) all =
    let others = All-tail IsName p (q ∷ ps) all in
    ap (before_normal (kind p) p) (normal_of-names (q ∷ ps) others)
    ∙ ap (λ k. before_normal k p (q ∷ ps)) (name_kind p (All-head IsName p (q ∷ ps) all))
    ∙ ap (λ k. before_piece k p q ps) (name_kind q (All-head IsName q ps others))

normal_text-joined : (ps : List (List ℕ)) → joined ps ≢ [] → normal_text ps ≡ joined ps
normal_text-joined ps h1 = grind arith

-- so the normal path of names is their canonical text
pub normal_text-names : (text : List ℕ) → verdict text ≡ None → canonical text ≢ [] → All IsName (components_of text)
    → with_separators (canonical text) ≡ normal_text (normal_of (components_of text))
normal_text-names text valid some names =
    let pieces = components_of text in
    let join : joined pieces ≡ canonical text = (AreComponents-components_of text).join in
    let same : canonical text ≡ normal_text pieces = sym join ∙ sym (normal_text-joined pieces (λ e. some (sym join ∙ e))) in
    ap with_separators same ∙ plain_normal_text pieces (valid-components text valid)
    ∙ ap normal_text (sym (normal_of-names pieces names))

-- a name after all others stays
normal_of-push : (ps : List (List ℕ)) (name : List ℕ) → IsName name
    → normal_of (ps ++ name ∷ []) ≡ normal_of ps ++ name ∷ []
normal_of-push [] name is = ap (λ k. before_normal k name []) (name_kind name is)
normal_of-push (p ∷ ps) name is = grind (arith, normal_of-push ps name is, name_kind)

-- a last name goes with one of them
pub name_passed : (ps : List (List ℕ)) (name : List ℕ) (climbs : ℕ) → IsName name
    → names_before (ps ++ name ∷ []) (suc climbs) ≡ names_before ps climbs
name_passed ps name climbs is = grind (arith, normal_of-step, append_assoc)

-- and stays where there is none
pub last_name_before : (ps : List (List ℕ)) (name : List ℕ) → IsName name
    → names_before (ps ++ name ∷ []) 0 ≡ names_before ps 0 ++ name ∷ []
last_name_before ps name is = grind (arith, append-nil, normal_of-push)

-- all of them, before the first one is taken
pub from_start : (text : List ℕ) (pieces : List (List ℕ)) → pieces ≡ components_of text
    → names_before pieces 0 ≡ normal_of (components_of text)
from_start text pieces e = ap normal_of (append-nil pieces ∙ e)

-- those of a valid path are good
pub good_names : (text : List ℕ) (pieces : List (List ℕ)) → verdict text ≡ None → pieces ≡ components_of text
    → All IsGood (names_before pieces 0)
good_names text pieces valid e =
    subst (All IsGood) (sym (from_start text pieces e))
    (All-normal IsGood (components_of text) (normal_of (components_of text))
    (NormalForm-normal_of (components_of text)) (valid-components text valid))

-- and texts, as the path is
pub text_names : (text : List ℕ) (pieces : List (List ℕ)) → pieces ≡ components_of text → All IsText pieces
    → All IsText (names_before pieces 0)
text_names text pieces e texts =
    subst (All IsText) (sym (from_start text pieces e))
    (All-normal IsText (components_of text) (normal_of (components_of text))
    (NormalForm-normal_of (components_of text)) (subst (All IsText) e texts))

-- and no longer than the text
pub names_no_longer : (text : List ℕ) (pieces : List (List ℕ)) → pieces ≡ components_of text
    → length (joined (names_before pieces 0)) ≤ length text
names_no_longer text pieces e = grind (arith, common_steps, from_start, normal_no_longer, AreComponents-components_of, units-canonical)
