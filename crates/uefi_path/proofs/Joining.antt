-- Pieces: what stands between separators, joins to a text, and is added to it.
use Rattle.std.proofs.Common.{◌≡◌, ◌≢◌, ℕ, ◌+◌, ◌≤◌, false, List, [], ◌∷◌, length, Some, arith, sym, ◌∙◌, ap, refl, All, subst, inl, inr, get_or, ◌++◌, Bool, true, not, if◌then◌else◌, ◌<◌, append_assoc, ◌⊎◌}
use Rattle.std.specs.List.{list_any, slice_split, onto_first, fold}
use Rattle.std.proofs.lemmas.Bool.{cases_Bool, eqb-false, false≢true}
use Rattle.std.proofs.lemmas.List.Elements.{All-nil, All-cons, All-head, All-tail, All-map, All-append, All-filter, filter-append}
use Rattle.std.proofs.lemmas.List.Splits.{length-slice_split, slice_split_none, slice_split_at, slice_split-cons_yes, slice_split-cons_no, join_with_byte-slice_split}
use Rattle.std.proofs.lemmas.List.Sums.{count_by-le-length}
use Rattle.std.proofs.lemmas.Grind.{common_steps}
use Rattle.uefi_text.specs.Units.{replaced}
use Rattle.uefi_path.specs.Components.{joined, IsPiece, AreComponents, components_of, hint_of_pieces, pieces_between}
use Rattle.uefi_path.specs.Separators.{separator, slash, is_separator, is_slash, canonical, with_separators, IsPlain}
use Rattle.uefi_path.specs.Pushing.{appended, pushed, needs_separator}
use Rattle.std.proofs.lemmas.List.{append-nil, get_or-append-add, length-append}
use Rattle.uefi_path.specs.Parents.{parent_of_components, all_but_last, ends_empty, non_empty, is_non_empty, joined_with_end, rejoined}

-- lists of which the first gets another first element: what holds of it and of theirs holds of all
pub All-onto_first : (P : ℕ → Type 0) (u : ℕ) (ps : List (List ℕ)) → P u → All (All P) ps
    → All (All P) (onto_first u ps)
All-onto_first P u [] of_unit all = grind (arith, All-cons, All-nil)
All-onto_first P u (p ∷ ps) of_unit all =
    All-cons (All P) (u ∷ p) ps (All-cons P u p of_unit (All-head (All P) p ps all))
    (All-tail (All P) p ps all)

-- a unit of a piece
abbrev IsNoSeparator : ℕ → Type 0
IsNoSeparator unit = unit ≢ separator

-- what stands between separators holds none
All-IsPiece-slice_split : (us : List ℕ) → All IsPiece (slice_split is_separator us)
All-IsPiece-slice_split [] = All-cons IsPiece [] [] (All-nil IsNoSeparator) (All-nil IsPiece)
All-IsPiece-slice_split (u ∷ us) =
    let rest = slice_split is_separator us in
    let others = All-IsPiece-slice_split us in
    elim (cases_Bool (is_separator u)) [
      | inl cut ↦ grind (arith, slice_split-cons_yes, All-cons, All-nil, rest, others)
      | inr other ↦
          subst (All IsPiece) (sym (slice_split-cons_no is_separator u us other))
          (All-onto_first IsNoSeparator u rest (eqb-false u separator other) others)
    ]

joined-slice_split : (us : List ℕ) → joined (slice_split is_separator us) ≡ us
joined-slice_split us = join_with_byte-slice_split separator us

-- a text that is not empty is not the one empty piece
not_one_empty : (u : ℕ) (us : List ℕ) → slice_split is_separator (u ∷ us) ≢ [] ∷ []
not_one_empty u us e = let j = joined-slice_split (u ∷ us) in let k = ap joined e in cc

-- the test for a separator fails at each unit of a piece
pub passes_over : (p : List ℕ) → IsPiece p → All (λ v. is_separator v ≡ false) p
passes_over p piece = grind arith

-- pieces that were joined are what stands between the separators of what they join to
pub slice_split-joined : (p : List ℕ) (ps : List (List ℕ)) → All IsPiece (p ∷ ps)
    → slice_split is_separator (joined (p ∷ ps)) ≡ p ∷ ps
slice_split-joined p [] all =
    slice_split_none is_separator p (passes_over p (All-head IsPiece p [] all))
slice_split-joined p (q ∷ qs) all =
    slice_split_at is_separator p separator (joined (q ∷ qs))
    (passes_over p (All-head IsPiece p (q ∷ qs) all)) refl
    ∙ ap (λ parts. p ∷ parts) (slice_split-joined q qs (All-tail IsPiece p (q ∷ qs) all))

pub pieces_between-some : (us : List ℕ) → us ≢ [] → pieces_between us ≡ slice_split is_separator us
pieces_between-some us h1 = grind arith

pub pieces_between-joined : (ps : List (List ℕ)) → All IsPiece ps → ps ≢ [] ∷ [] → pieces_between (joined ps) ≡ ps
pieces_between-joined [] all ne = refl
pieces_between-joined (p ∷ ps) all ne = grind (arith, slice_split-joined, pieces_between-some)

-- the pieces between the separators of the canonical text are components
AreComponents-between : (text us : List ℕ) → canonical text ≡ us → AreComponents text (pieces_between us)
AreComponents-between text [] e = grind (arith, All-nil, not_one_empty)
AreComponents-between text (u ∷ us) e = record {
  are_pieces = All-IsPiece-slice_split (u ∷ us);
  not_one_empty = not_one_empty u us;
  join = joined-slice_split (u ∷ us) ∙ sym e;
}

pub AreComponents-components_of : (text : List ℕ) → AreComponents text (components_of text)
AreComponents-components_of text = AreComponents-between text (canonical text) refl

-- and no others are
pub components_of-only : (text : List ℕ) (pieces : List (List ℕ)) → AreComponents text pieces
    → pieces ≡ components_of text
components_of-only text pieces components = grind (arith, pieces_between-joined)

-- the pieces of a canonical text that is not empty
pub slice_split-canonical : (text us : List ℕ) → us ≡ canonical text → (us ≡ [] → ⊥)
    → slice_split is_separator us ≡ components_of text
slice_split-canonical text us h1 h2 = grind arith

-- there is at most one piece more than units
pub length-slice_split-le : (us : List ℕ) → length (slice_split is_separator us) ≤ length us + 1
length-slice_split-le us = omega (arith, length-slice_split is_separator us, count_by-le-length is_separator us)

-- there is at least one piece, and what is left of them is what they were cut of
pub some_slice_split : (us : List ℕ) → 1 ≤ length (slice_split is_separator us)
some_slice_split us = omega (arith, length-slice_split is_separator us)

pub slice_split_some : (us : List ℕ) → slice_split is_separator us ≢ []
slice_split_some us none = omega (arith, ap length none, some_slice_split us)

hint_of_some : (pieces : List (List ℕ)) → 1 ≤ length pieces
    → hint_of_pieces pieces ≡ (1, Some (length (joined pieces) + 1))
hint_of_some pieces h1 = grind arith

pub hint_of_split : (us : List ℕ) → hint_of_pieces (slice_split is_separator us) ≡ (1, Some (length us + 1))
hint_of_split us = grind (arith, hint_of_some, some_slice_split, joined-slice_split)

from_string : (unit : ℕ) → replaced slash separator unit ≢ slash
from_string unit e = grind (arith, common_steps)

-- a text in which no slash is found is plain
pub IsPlain-no_slash : (text : List ℕ) → list_any is_slash text ≡ false → IsPlain text
IsPlain-no_slash [] none = All-nil (λ unit. unit ≢ slash)
IsPlain-no_slash (unit ∷ units) none = grind (arith, common_steps, IsPlain-no_slash units (grind (arith, common_steps)), All-cons)

-- a text in which each slash was replaced has none
pub IsPlain-with_separators : (text : List ℕ) → IsPlain (with_separators text)
IsPlain-with_separators text = All-map (λ v. v ≢ slash) (replaced slash separator) text (λ k d h. from_string (get_or text k d))

-- what holds of the separator and of each unit holds of each of both
pub All-appended : (P : ℕ → Type 0) (text part : List ℕ) → P separator → All P text → All P part
    → All P (appended text part)
All-appended P text part of_separator of_text of_part =
    grind (
      arith,
      All-append P text (separator ∷ part) of_text (All-cons P separator part of_separator of_part),
      All-cons P separator part of_separator of_part,
      All-append P text part of_text of_part,
    )

-- a path that is not empty is added with its slashes replaced
pub pushed-non_empty : (text part : List ℕ) → part ≢ []
    → pushed text part ≡ appended text (with_separators part)
pushed-non_empty text part h1 = grind arith

-- a path pushed onto the empty one
pub pushed-nil : (part : List ℕ) → pushed [] part ≡ with_separators part
pushed-nil part = grind arith

pub separator_is_plain : separator ≢ slash
separator_is_plain e = omega (arith, e)

-- no slash comes in
pub IsPlain-appended : (text part : List ℕ) → IsPlain text
    → IsPlain (appended text (with_separators part))
IsPlain-appended text part plain =
    All-appended (λ unit. unit ≢ slash) text (with_separators part) separator_is_plain plain
    (IsPlain-with_separators part)

-- a plain text has no slash to replace
pub with_separators-plain : (text : List ℕ) → IsPlain text → with_separators text ≡ text
with_separators-plain [] plain = refl
with_separators-plain (unit ∷ units) plain =
    let here : replaced slash separator unit ≡ unit =
    let ne = All-head (λ u. u ≢ slash) unit units plain in grind (arith, common_steps) in
    let others = with_separators-plain units (All-tail (λ u. u ≢ slash) unit units plain) in
    ap (λ u. u ∷ with_separators units) here ∙ ap (λ us. unit ∷ us) others

-- a full piece: it is not empty
abbrev pub IsFull : List ℕ → Type 0
IsFull piece = is_non_empty piece ≡ true

-- after more units the last one decides
pub needs_separator-append : (us : List ℕ) (v : ℕ) (vs : List ℕ)
    → needs_separator (us ++ v ∷ vs) ≡ needs_separator (v ∷ vs)
needs_separator-append [] v vs = refl
needs_separator-append (u ∷ us) v vs =
    grind (arith, length-append us (v ∷ vs), get_or-append-add (u ∷ us) (v ∷ vs) (length vs) 0)

-- none is missing after a separator
pub closed : (us : List ℕ) → needs_separator (us ++ separator ∷ []) ≡ false
closed us = needs_separator-append us separator []

-- one is missing after a full piece
pub open_piece : (p : List ℕ) → IsPiece p → IsFull p → needs_separator p ≡ true
open_piece p h1 h2 = grind (arith, false≢true)

-- a leading separator changes nothing
pub after_separator : (us : List ℕ) → needs_separator us ≡ true
    → needs_separator (separator ∷ us) ≡ true
after_separator us h1 = grind (arith, false≢true, needs_separator-append)

-- and after such pieces that were joined
pub open_joined : (p : List ℕ) (ps : List (List ℕ)) → All IsPiece (p ∷ ps) → All IsFull (p ∷ ps)
    → needs_separator (joined (p ∷ ps)) ≡ true
open_joined p [] pieces full = open_piece p (All-head IsPiece p [] pieces) (All-head IsFull p [] full)
open_joined p (q ∷ qs) pieces full =
    let others =
    open_joined q qs (All-tail IsPiece p (q ∷ qs) pieces) (All-tail IsFull p (q ∷ qs) full) in
    needs_separator-append p separator (joined (q ∷ qs))
    ∙ after_separator (joined (q ∷ qs)) others

-- one piece more
pub joined-append : (p : List ℕ) (ps : List (List ℕ)) (q : List ℕ)
    → joined (p ∷ (ps ++ q ∷ [])) ≡ joined (p ∷ ps) ++ separator ∷ q
joined-append p [] q = refl
joined-append p (r ∷ rs) q = grind (arith, joined-append r rs q, append_assoc)

ends_empty-append : (ps : List (List ℕ)) (q : List ℕ) → ends_empty (ps ++ q ∷ []) ≡ not (is_non_empty q)
ends_empty-append [] q = refl
ends_empty-append (p ∷ []) q = refl
ends_empty-append (p ∷ r ∷ rs) q = ends_empty-append (r ∷ rs) q

after_open : (text q : List ℕ) → needs_separator text ≡ true
    → appended text q ≡ text ++ separator ∷ q
after_open text q missing = ap (λ b. if b then text ++ separator ∷ q else text ++ q) missing

-- a piece after those that are filled, of which the last of all is empty where `ends` is true
added_piece : (ns : List (List ℕ)) (ends : Bool) (q : List ℕ) → All IsPiece ns → All IsFull ns
    → joined_with_end (ns ++ non_empty (q ∷ [])) (not (is_non_empty q))
    ≡ appended (joined_with_end ns ends) q
added_piece [] ends [] pieces full = refl
added_piece [] ends (u ∷ us) pieces full = append-nil (u ∷ us)
added_piece (n ∷ ns) true q pieces full = grind (arith, append-nil, joined-append, closed, append_assoc)
added_piece (n ∷ ns) false q pieces full = grind (arith, append-nil, after_open, open_joined, joined-append)

pub All-non_empty : (ps : List (List ℕ)) → All IsFull (non_empty ps)
All-non_empty [] = All-nil IsFull
All-non_empty ([] ∷ ps) = All-non_empty ps
All-non_empty ((u ∷ us) ∷ ps) = All-cons IsFull (u ∷ us) (non_empty ps) refl (All-non_empty ps)

-- one piece more is added as a push adds it
rejoined-append : (ps : List (List ℕ)) (q : List ℕ) → All IsPiece ps
    → rejoined (ps ++ q ∷ []) ≡ appended (rejoined ps) q
rejoined-append ps q pieces =
    ap (λ ns. joined_with_end ns (ends_empty (ps ++ q ∷ []))) (filter-append is_non_empty ps (q ∷ []))
    ∙ ap (joined_with_end (non_empty ps ++ non_empty (q ∷ []))) (ends_empty-append ps q)
    ∙ added_piece (non_empty ps) (ends_empty ps) q (All-filter is_non_empty IsPiece ps pieces)
    (All-non_empty ps)

-- pieces added one after the other to some
pub added_all : (ps qs : List (List ℕ)) → All IsPiece ps → All IsPiece qs
    → fold appended (rejoined ps) qs ≡ rejoined (ps ++ qs)
added_all ps [] before after = ap rejoined (sym (append-nil ps))
added_all ps (q ∷ qs) before after =
    let piece = All-cons IsPiece q [] (All-head IsPiece q qs after) (All-nil IsPiece) in
    ap (λ text. fold appended text qs) (sym (rejoined-append ps q before))
    ∙ added_all (ps ++ q ∷ []) qs (All-append IsPiece ps (q ∷ []) before piece)
    (All-tail IsPiece q qs after)
    ∙ ap rejoined (append_assoc ps (q ∷ []) qs)

pub All-all_but_last : (P : List ℕ → Type 0) (ps : List (List ℕ)) → All P ps
    → All P (all_but_last ps)
All-all_but_last P [] all = All-nil P
All-all_but_last P (p ∷ []) all = All-nil P
All-all_but_last P (p ∷ q ∷ ps) all =
    grind (arith, All-all_but_last P (q ∷ ps) (All-tail P p (q ∷ ps) all), All-cons, All-head, All-tail)

-- added one after the other to nothing they are rejoined
pub rejoined-added : (ps : List (List ℕ)) → All IsPiece ps
    → fold appended [] (all_but_last ps) ≡ rejoined (all_but_last ps)
rejoined-added ps pieces =
    added_all [] (all_but_last ps) (All-nil IsPiece) (All-all_but_last IsPiece ps pieces)

-- what holds of each unit of a text holds of each of its components
module _ (P : ℕ → Type 0) where
  pub All-slice_split : (us : List ℕ) → All P us → All (All P) (slice_split is_separator us)
  All-slice_split [] all = All-cons (All P) [] [] (All-nil P) (All-nil (All P))
  All-slice_split (u ∷ us) all =
      let others = All-slice_split us (All-tail P u us all) in
      elim (cases_Bool (is_separator u)) [
        | inl cut ↦ grind (arith, slice_split-cons_yes, All-cons, All-nil, others)
        | inr other ↦
            subst (All (All P)) (sym (slice_split-cons_no is_separator u us other))
            (All-onto_first P u (slice_split is_separator us) (All-head P u us all) others)
      ]

  All-pieces_between : (us : List ℕ) → All P us → All (All P) (pieces_between us)
  All-pieces_between [] all = All-nil (All P)
  All-pieces_between (u ∷ us) all = All-slice_split (u ∷ us) all

  pub All-canonical : (text : List ℕ) → All P text → All P (canonical text)
  All-canonical [] all = All-nil P
  All-canonical (u ∷ us) all = grind (arith, All-tail P u us all)

  pub All-components_of : (text : List ℕ) → All P text → All (All P) (components_of text)
  All-components_of text all = All-pieces_between (canonical text) (All-canonical text all)

-- two components or more have a parent
pub parent_of_components-many : (ps : List (List ℕ)) → 1 < length ps
    → parent_of_components ps ≡ Some (with_separators (rejoined (all_but_last ps)))
parent_of_components-many ps h1 = grind arith

-- Paths pushed one after the other: in which order does not matter, and their components stand one

-- a part after two texts
appended-appended : (text : List ℕ) (u : ℕ) (us part : List ℕ)
    → appended (appended text (u ∷ us)) part ≡ appended text (appended (u ∷ us) part)
appended-appended text u us part = grind (arith, needs_separator-append, append_assoc)

pub pushed-with_separators : (text part : List ℕ) → pushed text (with_separators part) ≡ pushed text part
pushed-with_separators text part = grind (arith, with_separators-plain, IsPlain-with_separators)

-- in which order paths are pushed does not matter
pub pushed-pushed : (first second third : List ℕ) → IsPlain second
    → pushed (pushed first second) third ≡ pushed first (pushed second third)
pushed-pushed first second [] plain = refl
pushed-pushed first [] (v ∷ vs) plain = sym (pushed-with_separators first (v ∷ vs))
pushed-pushed first (u ∷ us) (v ∷ vs) plain =
    let same = with_separators-plain (u ∷ us) plain in
    let part = with_separators (v ∷ vs) in
    ap (λ text. appended (appended first text) part) same
    ∙ appended-appended first u us part
    ∙ ap (appended first)
    (sym (with_separators-plain (appended (u ∷ us) part) (IsPlain-appended (u ∷ us) (v ∷ vs) plain)))
    ∙ sym (grind arith)

-- what stands between the separators of two texts with one more between them
pub slice_split-non_empty : (us : List ℕ) → slice_split is_separator us ≢ []
slice_split-non_empty us e = grind (arith, length-slice_split is_separator us)

pub slice_split-append : (us vs : List ℕ)
    → slice_split is_separator (us ++ separator ∷ vs) ≡ slice_split is_separator us
    ++ slice_split is_separator vs
slice_split-append [] vs = slice_split-cons_yes is_separator separator vs refl
slice_split-append (u ∷ us) vs =
    grind (arith, slice_split-append us vs, cases_Bool, slice_split-cons_yes, slice_split-cons_no, slice_split-non_empty)

-- and after a text that ends in no separator
components_of-appended : (text part : List ℕ) → (canonical text ≡ []) ⊎ (needs_separator text ≡ true)
    → canonical part ≡ part → part ≢ []
    → components_of (appended text part) ≡ components_of text ++ components_of part
components_of-appended text part h1 h2 h3 = grind (arith, slice_split-append, pieces_between-some, false≢true)

-- the components of a path after another
pub components_of-pushed : (text part : List ℕ) → IsPlain part
    → (canonical text ≡ []) ⊎ (needs_separator text ≡ true) → canonical part ≡ part
    → components_of (pushed text part) ≡ components_of text ++ components_of part
components_of-pushed text [] plain ends front = sym (append-nil (components_of text))
components_of-pushed text (u ∷ us) plain ends front =
    ap (λ part. components_of (appended text part)) (with_separators-plain (u ∷ us) plain)
    ∙ components_of-appended text (u ∷ us) ends front (λ e. cc)

-- a separator at the start is left out, and no other unit is
pub canonical-yes : (u : ℕ) (us : List ℕ) → is_separator u ≡ true → canonical (u ∷ us) ≡ us
canonical-yes u us e = ap (λ b. if b then us else u ∷ us) e

pub canonical-no : (u : ℕ) (us : List ℕ) → is_separator u ≡ false → canonical (u ∷ us) ≡ u ∷ us
canonical-no u us e = ap (λ b. if b then us else u ∷ us) e
