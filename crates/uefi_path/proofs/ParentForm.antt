-- Parents: what they look like, which components they have, how large they are, and which follow one another.
use Rattle.std.proofs.Common.{◌≡◌, ◌≢◌, ℕ, ◌-◌, ◌<◌, List, [], ◌∷◌, ◌++◌, length, All, Bool, true, false, not, if◌then◌else◌, None, Some, ap, sym, refl, subst, ◌∙◌, arith, append_assoc, ◌+◌, ◌≤◌, zero, suc, Option, take, Result, IfOk, IfSome}
use Rattle.std.specs.List.{slice_split, fold}
use Rattle.std.proofs.lemmas.Bool.{false≢true, ne_eqb}
use Rattle.std.proofs.lemmas.List.{append-nil, length-append, length-take-le, take_all}
use Rattle.std.proofs.lemmas.List.Elements.{All-append, All-cons, All-filter, All-head, All-nil, All-tail, All-take}
use Rattle.std.proofs.lemmas.Option.{same_Some}
use Rattle.uefi_path.specs.Components.{IsPiece, components_of, joined}
use Rattle.uefi_path.specs.Parents.{parent_text, parent_of_components, all_but_last, ends_empty, non_empty, is_non_empty, joined_with_end, rejoined}
use Rattle.uefi_path.specs.Separators.{IsPlain, canonical, is_separator, separator, slash, with_separators}
use Rattle.uefi_path.specs.Verdicts.{IsGood, verdict}
use Rattle.uefi_path.proofs.Rewriting.{Accepted, Accepted-all_but_last}
use Rattle.uefi_path.proofs.Joining.{canonical-no, slice_split-append, slice_split-non_empty, All-all_but_last, All-components_of, All-non_empty, IsFull, parent_of_components-many, separator_is_plain, with_separators-plain, AreComponents-components_of, pieces_between-some, pieces_between-joined, slice_split-joined, slice_split-canonical, some_slice_split, components_of-pushed, joined-append, open_joined, pushed-non_empty, rejoined-added, IsPlain-with_separators}
use Rattle.uefi_path.proofs.Validity.{All-good_non_empty, All-good_piece, All-good_plain, All-joined, valid-accepted, valid-components, valid-from, valid-plain, good-non_empty, good-plain, valid-open}
use Rattle.std.proofs.lemmas.List.Splits.{join_with_byte-slice_split}
use Rattle.std.proofs.lemmas.Grind.{common_steps}
use Rattle.uefi_path.specs.Pushing.{appended, pushed}
use Rattle.std.specs.Prelude.{⊤}
use Rattle.uefi_path.specs.SuccessiveParents.{AreParents, parent_chain, parents_from, parents_of, prefixes, shorter_prefixes}
use Rattle.std.proofs.lemmas.Result.{IfOk-weaker}

-- no separator stands before pieces that are not empty
prefix_joined : (n : List ℕ) (ns : List (List ℕ)) (more : List ℕ) → IsPiece n → IsFull n
    → canonical (joined (n ∷ ns) ++ more) ≡ joined (n ∷ ns) ++ more
prefix_joined n ns more h1 h2 = grind (arith, false≢true, canonical-no, ne_eqb, All-head)

pub prefix_with_end : (ns : List (List ℕ)) (ends : Bool) → All IsPiece ns → All IsFull ns
    → canonical (joined_with_end ns ends) ≡ joined_with_end ns ends
prefix_with_end ns ends h1 h2 = grind (arith, prefix_joined, All-head, IsFull)

-- what stands between the separators of such pieces, and of the end after them
pub split_with_end : (n : List ℕ) (ns : List (List ℕ)) (ends : Bool) → All IsPiece (n ∷ ns)
    → slice_split is_separator (joined_with_end (n ∷ ns) ends) ≡ (n ∷ ns)
    ++ (if ends then [] ∷ [] else [])
split_with_end n ns ends h1 = grind (arith, slice_split-append, slice_split-joined, append-nil)

-- what stands between the separators of full pieces that are joined, and of the end after them
filled : (n : List ℕ) (ns : List (List ℕ)) (more : List ℕ) → IsFull n → joined (n ∷ ns) ++ more ≢ []
filled n ns more h1 = grind (arith, false≢true)

pub components_with_end : (n : List ℕ) (ns : List (List ℕ)) (ends : Bool) → All IsPiece (n ∷ ns)
    → All IsFull (n ∷ ns)
    → components_of (joined_with_end (n ∷ ns) ends) ≡ (n ∷ ns) ++ (if ends then [] ∷ [] else [])
components_with_end n ns ends pieces full =
    grind (arith, prefix_with_end, pieces_between-some, filled, All-head, IsFull, split_with_end)

pub all_but_last-push : (ps : List (List ℕ)) (q : List ℕ) → all_but_last (ps ++ q ∷ []) ≡ ps
all_but_last-push [] q = refl
all_but_last-push (p ∷ []) q = refl
all_but_last-push (p ∷ r ∷ rs) q = ap (λ ps. p ∷ ps) (all_but_last-push (r ∷ rs) q)

all_but_last-middle : (ps : List (List ℕ)) (q : List ℕ) (qs : List (List ℕ)) → qs ≢ []
    → all_but_last (ps ++ q ∷ qs) ≡ ps ++ q ∷ all_but_last qs
all_but_last-middle [] q [] non_empty = absurd (non_empty refl)
all_but_last-middle [] q (r ∷ rs) non_empty = refl
all_but_last-middle (p ∷ []) q qs non_empty = ap (λ ps. p ∷ ps) (all_but_last-middle [] q qs non_empty)
all_but_last-middle (p ∷ r ∷ rs) q qs non_empty = grind (arith, all_but_last-middle (r ∷ rs) q qs non_empty)

All-middle : (P : List ℕ → Type 0) (ps : List (List ℕ)) (q : List ℕ) (qs : List (List ℕ))
    → All P (ps ++ q ∷ qs) → P q
All-middle P [] q qs all = All-head P q qs all
All-middle P (p ∷ ps) q qs all = All-middle P ps q qs (All-tail P p (ps ++ q ∷ qs) all)

full_but_last : (ns : List (List ℕ)) (ends : Bool) → All IsPiece ns → All IsFull ns
    → All IsFull (all_but_last (slice_split is_separator (joined_with_end ns ends)))
full_but_last [] ends pieces full = All-nil IsFull
full_but_last (n ∷ ns) true pieces full =
    grind (arith, IsFull, split_with_end n ns true pieces, all_but_last-push (n ∷ ns) [])
full_but_last (n ∷ ns) false pieces full =
    subst (λ ps. All IsFull (all_but_last ps))
    (sym (split_with_end n ns false pieces ∙ append-nil (n ∷ ns)))
    (All-all_but_last IsFull (n ∷ ns) full)

-- no two separators stand in a row where no piece but the last is empty
not_doubled : (text before after : List ℕ)
    → All IsFull (all_but_last (slice_split is_separator text))
    → text ≢ before ++ separator ∷ separator ∷ after
not_doubled text before after full e =
    grind (arith, all_but_last-middle, slice_split-non_empty, false≢true, All-middle, IsFull, slice_split-append)

-- pieces that were rejoined
prefix_rejoined : (ps : List (List ℕ)) → All IsPiece ps → canonical (rejoined ps) ≡ rejoined ps
prefix_rejoined ps pieces =
    prefix_with_end (non_empty ps) (ends_empty ps) (All-filter is_non_empty IsPiece ps pieces) (All-non_empty ps)

rejoined_not_doubled : (ps : List (List ℕ)) (before after : List ℕ) → All IsPiece ps
    → rejoined ps ≢ before ++ separator ∷ separator ∷ after
rejoined_not_doubled ps before after pieces =
    not_doubled (rejoined ps) before after
    (full_but_last (non_empty ps) (ends_empty ps) (All-filter is_non_empty IsPiece ps pieces) (All-non_empty ps))

-- what holds of the separator and of each unit of pieces holds of what they are rejoined to
All-joined_with_end : (P : ℕ → Type 0) (ns : List (List ℕ)) (ends : Bool) → P separator → All (All P) ns
    → All P (joined_with_end ns ends)
All-joined_with_end P [] ends of_separator all = All-nil P
All-joined_with_end P (n ∷ ns) true of_separator all =
    All-append P (joined (n ∷ ns)) (separator ∷ []) (All-joined P (n ∷ ns) of_separator all)
    (All-cons P separator [] of_separator (All-nil P))
All-joined_with_end P (n ∷ ns) false of_separator all =
    All-append P (joined (n ∷ ns)) [] (All-joined P (n ∷ ns) of_separator all) (All-nil P)

pub All-rejoined : (P : ℕ → Type 0) (ps : List (List ℕ)) → P separator → All (All P) ps → All P (rejoined ps)
All-rejoined P ps of_separator all =
    All-joined_with_end P (non_empty ps) (ends_empty ps) of_separator (All-filter is_non_empty (All P) ps all)

plain_rejoined : (ps : List (List ℕ)) → All IsPlain ps → IsPlain (rejoined ps)
plain_rejoined ps plain = All-rejoined (λ u. u ≢ slash) ps separator_is_plain plain

-- a parent of pieces: those but the last, of two or more, rejoined
abbrev IsRejoined : List (List ℕ) → List ℕ → Type 0
IsRejoined ps parent = (parent ≡ rejoined (all_but_last ps)) × (1 < length ps)

parent_of_components-plain : (ps : List (List ℕ)) (parent : List ℕ) → All IsPlain ps
    → parent_of_components ps ≡ Some parent → IsRejoined ps parent
parent_of_components-plain [] parent plain e = absurd (cc)
parent_of_components-plain (p ∷ []) parent plain e = absurd (cc)
parent_of_components-plain (p ∷ q ∷ ps) parent plain e = (
  sym (same_Some _ _ e)
      ∙ with_separators-plain (rejoined (all_but_last (p ∷ q ∷ ps)))
      (plain_rejoined (all_but_last (p ∷ q ∷ ps)) (All-all_but_last IsPlain (p ∷ q ∷ ps) plain)),
  omega arith,
)

-- the parent of a plain text, of whose slashes none is to replace,
pub parent_text-plain : (text parent : List ℕ) → IsPlain text → parent_text text ≡ Some parent
    → (parent ≡ rejoined (all_but_last (components_of text))) × (1 < length (components_of text))
parent_text-plain text parent plain e =
    parent_of_components-plain (components_of text) parent (All-components_of (λ u. u ≢ slash) text plain) e

-- begins with no separator
pub prefix_parent_text : (text parent : List ℕ) → IsPlain text → parent_text text ≡ Some parent
    → canonical parent ≡ parent
prefix_parent_text text parent plain e =
    let is : IsRejoined (components_of text) parent = parent_text-plain text parent plain e in
    subst (λ us. canonical us ≡ us) (sym is.0)
    (prefix_rejoined (all_but_last (components_of text))
    (All-all_but_last IsPiece (components_of text)
    (AreComponents-components_of text).are_pieces))

-- and has no two in a row
pub parent_text_not_doubled : (text parent before after : List ℕ) → IsPlain text
    → parent_text text ≡ Some parent → parent ≢ before ++ separator ∷ separator ∷ after
parent_text_not_doubled text parent before after plain e =
    let is : IsRejoined (components_of text) parent = parent_text-plain text parent plain e in
    subst (λ us. us ≢ before ++ separator ∷ separator ∷ after) (sym is.0)
    (rejoined_not_doubled (all_but_last (components_of text)) before after
    (All-all_but_last IsPiece (components_of text)
    (AreComponents-components_of text).are_pieces))

-- pieces of which none is empty are rejoined as they are
non_empty-full : (ps : List (List ℕ)) → All IsFull ps → non_empty ps ≡ ps
non_empty-full [] full = refl
non_empty-full ([] ∷ ps) full = absurd (false≢true (All-head IsFull [] ps full))
non_empty-full ((u ∷ us) ∷ ps) full = grind (arith, common_steps, non_empty-full ps (All-tail IsFull (u ∷ us) ps full), All-tail)

ends-full : (ps : List (List ℕ)) → All IsFull ps → ends_empty ps ≡ false
ends-full [] full = refl
ends-full (p ∷ []) full = ap not (All-head IsFull p [] full)
ends-full (p ∷ q ∷ ps) full = ends-full (q ∷ ps) (All-tail IsFull p (q ∷ ps) full)

pub rejoined-full : (ps : List (List ℕ)) → All IsFull ps → rejoined ps ≡ joined ps
rejoined-full ps full = grind (arith, non_empty-full, ends-full, append-nil)

prefix_full : (ps : List (List ℕ)) → All IsPiece ps → All IsFull ps → canonical (joined ps) ≡ joined ps
prefix_full ps pieces full = grind (arith, rejoined-full ps full, prefix_rejoined ps pieces)

one_is_full : (ps : List (List ℕ)) → All IsFull ps → ps ≢ [] ∷ []
one_is_full ps full e = false≢true (All-head IsFull [] [] (subst (All IsFull) e full))

-- joined full pieces have themselves as components
pub components_of-full : (ps : List (List ℕ)) → All IsPiece ps → All IsFull ps → components_of (joined ps) ≡ ps
components_of-full ps pieces full = grind (arith, prefix_full, pieces_between-joined, one_is_full)

pub components_of-joined : (cs : List (List ℕ)) → All IsGood cs → components_of (joined cs) ≡ cs
components_of-joined cs good = components_of-full cs (All-good_piece cs good) (All-good_non_empty cs good)

-- begin with no separator
pub prefix_good : (cs : List (List ℕ)) → All IsGood cs → canonical (joined cs) ≡ joined cs
prefix_good cs good = prefix_full cs (All-good_piece cs good) (All-good_non_empty cs good)

-- and two or more of them, none of them with a slash, have the joined others above
pub parent_of_components-full : (ps : List (List ℕ)) → All IsFull ps → All IsPlain ps → 1 < length ps
    → parent_of_components ps ≡ Some (joined (all_but_last ps))
parent_of_components-full ps full plain many =
    let others = all_but_last ps in
    parent_of_components-many ps many
    ∙ ap (λ us. Some (with_separators us)) (rejoined-full others (All-all_but_last IsFull ps full))
    ∙ ap (λ us. Some us)
    (with_separators-plain (joined others)
    (All-joined (λ u. u ≢ slash) others separator_is_plain (All-all_but_last IsPlain ps plain)))

pub parent_of_components-good : (cs : List (List ℕ)) → All IsGood cs → 1 < length cs
    → parent_of_components cs ≡ Some (joined (all_but_last cs))
parent_of_components-good cs good =
    parent_of_components-full cs (All-good_non_empty cs good) (All-good_plain cs good)

pub length-all_but_last : (ps : List (List ℕ)) → length (all_but_last ps) ≡ length ps - 1
length-all_but_last [] = refl
length-all_but_last (p ∷ []) = refl
length-all_but_last (p ∷ q ∷ ps) = omega (arith, length-all_but_last (q ∷ ps))

-- the parent of a valid text: its components but the last, joined
parent_text-valid : (text parent : List ℕ) → verdict text ≡ None → parent_text text ≡ Some parent
    → (parent ≡ joined (all_but_last (components_of text))) × (1 < length (components_of text))
parent_text-valid text parent valid e =
    let is : IsRejoined (components_of text) parent =
    parent_text-plain text parent (valid-plain text valid) e in (
      is.0 ∙ rejoined-full (all_but_last (components_of text))
          (All-all_but_last IsFull (components_of text)
          (All-good_non_empty (components_of text) (valid-components text valid))),
      is.1,
    )

-- is valid too
pub valid_parent_text : (text parent : List ℕ) → verdict text ≡ None → parent_text text ≡ Some parent
    → verdict parent ≡ None
valid_parent_text text parent valid e =
    let is : (parent ≡ joined (all_but_last (components_of text)))
    × (1 < length (components_of text)) = parent_text-valid text parent valid e in
    let good = All-all_but_last IsGood (components_of text) (valid-components text valid) in
    let same : components_of parent ≡ all_but_last (components_of text) =
    ap components_of is.0 ∙ components_of-joined (all_but_last (components_of text)) good in
    let filled_parent : parent ≢ [] = grind (arith, length-all_but_last, is, same) in
    valid-from parent filled_parent
    (subst (λ pieces. Accepted pieces 0) (sym same)
    (Accepted-all_but_last (components_of text) (valid-accepted text valid)))

-- a text that is cut before its last piece has what stands before the separator, and that piece
module _ (text before last : List ℕ)
    (cut : slice_split is_separator (canonical text) ≡ slice_split is_separator before ++ last ∷ []) where
  cut_components : components_of text ≡ slice_split is_separator before ++ last ∷ []
  cut_components = grind (arith, common_steps, length-append, some_slice_split, slice_split-canonical)

  -- then it has two components or more, and so a parent
  cut_many : 1 < length (components_of text)
  cut_many = grind (arith, some_slice_split, cut_components, length-append)

  pub cut_some : parent_text text ≢ None
  cut_some none = let some = sym (parent_of_components-many (components_of text) cut_many) ∙ none in cc

  -- what stands before is the parent, where no piece of it is empty
  pub cut_parent : All IsFull (slice_split is_separator before) → parent_text text ≡ Some (with_separators before)
  cut_parent full =
      let pieces = slice_split is_separator before in
      parent_of_components-many (components_of text) cut_many
      ∙ ap (λ ps. Some (with_separators (rejoined (all_but_last ps)))) cut_components
      ∙ ap (λ ps. Some (with_separators (rejoined ps))) (all_but_last-push pieces last)
      ∙ ap (λ us. Some (with_separators us)) (rejoined-full pieces full ∙ join_with_byte-slice_split separator before)

appended-joined : (ps : List (List ℕ)) (q : List ℕ) → All IsGood ps
    → appended (joined ps) q ≡ joined (ps ++ q ∷ [])
appended-joined [] q good = refl
appended-joined (p ∷ ps) q good =
    ap (λ b. if b then joined (p ∷ ps) ++ separator ∷ q else joined (p ∷ ps) ++ q)
    (open_joined p ps (All-good_piece (p ∷ ps) good) (All-good_non_empty (p ∷ ps) good))
    ∙ sym (joined-append p ps q)

not_empty : (c : List ℕ) → is_non_empty c ≡ true → c ≢ []
not_empty c full e = false≢true (ap is_non_empty (sym e) ∙ full)

-- one good piece pushed after others
pushed-joined : (ps : List (List ℕ)) (q : List ℕ) → All IsGood ps → IsGood q
    → pushed (joined ps) q ≡ joined (ps ++ q ∷ [])
pushed-joined ps q good good_piece =
    pushed-non_empty (joined ps) q (not_empty q (good-non_empty q good_piece))
    ∙ ap (appended (joined ps)) (with_separators-plain q (good-plain q good_piece))
    ∙ appended-joined ps q good

fold-pushed : (ps qs : List (List ℕ)) → All IsGood ps → All IsGood qs
    → fold pushed (joined ps) qs ≡ joined (ps ++ qs)
fold-pushed ps [] good others = ap joined (sym (append-nil ps))
fold-pushed ps (q ∷ qs) good others =
    let piece = All-head IsGood q qs others in
    ap (λ text. fold pushed text qs) (pushed-joined ps q good piece)
    ∙ fold-pushed (ps ++ q ∷ []) qs
    (All-append IsGood ps (q ∷ []) good (All-cons IsGood q [] piece (All-nil IsGood)))
    (All-tail IsGood q qs others)
    ∙ ap joined (append_assoc ps (q ∷ []) qs)

-- the components of a valid text, pushed one by one
pub pushed_components : (text : List ℕ) → verdict text ≡ None
    → fold pushed [] (components_of text) ≡ canonical text
pushed_components text valid =
    fold-pushed [] (components_of text) (All-nil IsGood) (valid-components text valid)
    ∙ (AreComponents-components_of text).join

-- a good piece that is pushed comes after the components of a valid text
components_of-pushed_piece : (text piece : List ℕ) → verdict text ≡ None → IsGood piece
    → components_of (pushed text piece) ≡ components_of text ++ piece ∷ []
components_of-pushed_piece text piece valid good =
    let one = All-cons IsGood piece [] good (All-nil IsGood) in
    components_of-pushed text piece (good-plain piece good) (valid-open text valid)
    (prefix_good (piece ∷ []) one)
    ∙ ap (λ ps. components_of text ++ ps) (components_of-joined (piece ∷ []) one)

some_more : (ps : List (List ℕ)) (q : List ℕ) → ps ≢ [] → 1 < length (ps ++ q ∷ [])
some_more [] q many = absurd (many refl)
some_more (p ∷ ps) q many = omega (arith, length-append ps (q ∷ []))

-- above a piece that was pushed is what it was pushed after
pub parent_text-pushed : (text piece : List ℕ) → verdict text ≡ None → components_of text ≢ []
    → IsGood piece → parent_text (pushed text piece) ≡ Some (canonical text)
parent_text-pushed text piece valid many good =
    let all =
    All-append IsGood (components_of text) (piece ∷ []) (valid-components text valid)
    (All-cons IsGood piece [] good (All-nil IsGood)) in
    ap parent_of_components (components_of-pushed_piece text piece valid good)
    ∙ parent_of_components-good (components_of text ++ piece ∷ []) all
    (some_more (components_of text) piece many)
    ∙ ap (λ ps. Some (joined ps)) (all_but_last-push (components_of text) piece)
    ∙ ap (λ us. Some us) (AreComponents-components_of text).join

-- How large a parent is, and which parents follow one another.

-- how many units pieces take with a separator after each
abbrev pub room : List (List ℕ) → ℕ
room [] = 0
room (piece ∷ pieces) = length piece + 1 + room pieces

pub room-joined : (piece : List ℕ) (pieces : List (List ℕ)) → length (joined (piece ∷ pieces)) + 1 ≡ room (piece ∷ pieces)
room-joined piece [] = omega arith
room-joined piece (next ∷ pieces) = grind (arith, room-joined next pieces, length-append)

room-all_but_last : (piece : List ℕ) (pieces : List (List ℕ)) → room (all_but_last (piece ∷ pieces)) < room (piece ∷ pieces)
room-all_but_last piece [] = omega arith
room-all_but_last piece (next ∷ pieces) = omega (arith, room-all_but_last next pieces)

-- added one after the other they take no more
length-appended : (text piece : List ℕ) → length (appended text piece) ≤ length text + 1 + length piece
length-appended text piece = grind (arith, length-append)

fold_room : (text : List ℕ) (pieces : List (List ℕ)) → length (fold appended text pieces) ≤ length text + room pieces
fold_room text [] = omega arith
fold_room text (piece ∷ pieces) = omega (arith, fold_room (appended text piece) pieces, length-appended text piece)

pub units-canonical : (text : List ℕ) → length (canonical text) ≤ length text
units-canonical text = grind arith

pub parent_of_components-shorter : (pieces : List (List ℕ)) (parent : List ℕ) → All IsPiece pieces
    → parent_of_components pieces ≡ Some parent → length parent < length (joined pieces)
parent_of_components-shorter [] parent are is = absurd (grind (arith, common_steps))
parent_of_components-shorter (piece ∷ []) parent are is = absurd (grind (arith, common_steps))
parent_of_components-shorter (piece ∷ next ∷ pieces) parent are is =
    grind (
      arith,
      common_steps,
      rejoined-added (piece ∷ next ∷ pieces) are,
      fold_room piece (all_but_last (next ∷ pieces)),
      room-all_but_last next pieces,
      room-joined piece (next ∷ pieces),
    )

-- a parent is shorter than its path
pub parent_text-shorter : (text parent : List ℕ) → parent_text text ≡ Some parent → length parent < length text
parent_text-shorter text parent is = grind (arith, common_steps, AreComponents-components_of, parent_of_components-shorter, units-canonical)

-- how many pieces the end of some is: one that is empty, or none
abbrev pieces_of_end : Bool → ℕ
pieces_of_end true = 1
pieces_of_end false = 0

count-with_end : (ns : List (List ℕ)) (ends : Bool) → All IsPiece ns → All IsFull ns
    → length (components_of (joined_with_end ns ends)) ≤ length ns + pieces_of_end ends
count-with_end [] ends pieces full = omega arith
count-with_end (n ∷ ns) ends pieces full = grind (arith, components_with_end, length-append)

count-non_empty : (ps : List (List ℕ))
    → length (non_empty ps) + pieces_of_end (ends_empty ps) ≤ length ps
count-non_empty [] = omega arith
count-non_empty ([] ∷ []) = omega arith
count-non_empty ((u ∷ us) ∷ []) = omega arith
count-non_empty ([] ∷ q ∷ ps) = omega (arith, count-non_empty (q ∷ ps))
count-non_empty ((u ∷ us) ∷ q ∷ ps) = omega (arith, count-non_empty (q ∷ ps))

count-rejoined : (ps : List (List ℕ)) → All IsPiece ps
    → length (components_of (rejoined ps)) ≤ length ps
count-rejoined ps pieces =
    let parts = All-filter is_non_empty IsPiece ps pieces in grind (arith, count-with_end, All-non_empty, count-non_empty, parts)

-- the parent of a plain text has fewer components
pub fewer_parent_text : (text parent : List ℕ) → IsPlain text → parent_text text ≡ Some parent
    → length (components_of parent) < length (components_of text)
fewer_parent_text text parent plain e =
    let all = components_of text in
    let is : (parent ≡ rejoined (all_but_last all)) × (1 < length all) =
    parent_text-plain text parent plain e in
    let others = All-all_but_last IsPiece all (AreComponents-components_of text).are_pieces in
    omega (
      arith,
      ap (λ us. length (components_of us)) is.0,
      count-rejoined (all_but_last all) others,
      length-all_but_last all,
      is.1,
    )

-- a parent is plain: its slashes were replaced
pub parent_text-with_separators : (text parent : List ℕ) → parent_text text ≡ Some parent → IsPlain parent
parent_text-with_separators text parent e = grind (arith, same_Some, IsPlain-with_separators)

-- a parent, if there is one, has fewer units than `most`
abbrev Within : Option (List ℕ) → ℕ → Type 0
Within None most = ⊤
Within (Some parent) most = length parent < most

Within-parent_text : (text : List ℕ) (most : ℕ) → length text ≤ most → Within (parent_text text) most
Within-parent_text text most within = grind (arith, parent_text-shorter)

-- a greater bound than is needed changes nothing
parents_from-enough : (most more : ℕ) (o : Option (List ℕ)) → Within o most → Within o more
    → parents_from most o ≡ parents_from more o
parents_from-enough most more None within too = refl
parents_from-enough zero more (Some parent) within too = absurd (omega (arith, within))
parents_from-enough (suc most) zero (Some parent) within too = absurd (omega (arith, too))
parents_from-enough (suc most) (suc more) (Some parent) within too =
    let fewer = Within-parent_text parent most (omega (arith, within)) in
    let also = Within-parent_text parent more (omega (arith, too)) in
    ap (λ parents. parent ∷ parents) (parents_from-enough most more (parent_text parent) fewer also)

-- the successive parents are the parent, if there is one, and its own
pub parents_of-chain : (text : List ℕ) → parents_of text ≡ parent_chain (parent_text text)
parents_of-chain text = go (parent_text text) refl
  where
    go : (o : Option (List ℕ)) → parent_text text ≡ o → parents_from (length text) o ≡ parent_chain o
    go None e = refl
    go (Some parent) e =
        let shorter = parent_text-shorter text parent e in
        parents_from-enough (length text) (suc (length parent)) (Some parent) shorter (omega arith)

AreParents-from : (most : ℕ) (text : List ℕ) (o : Option (List ℕ)) → parent_text text ≡ o
    → length text ≤ most → AreParents text (parents_from most o)
AreParents-from most text None e within = e
AreParents-from zero text (Some parent) e within = grind arith
AreParents-from (suc most) text (Some parent) e within =
    let fewer : length parent ≤ most = omega (arith, within, parent_text-shorter text parent e) in
    (e, AreParents-from most parent (parent_text parent) refl fewer)

pub AreParents-parents_of : (text : List ℕ) → AreParents text (parents_of text)
AreParents-parents_of text = AreParents-from (length text) text (parent_text text) refl (omega arith)

-- no two lists are the successive parents of one text
pub parents_once : (text : List ℕ) (parents others : List (List ℕ)) → AreParents text parents
    → AreParents text others → parents ≡ others
parents_once text [] [] none none_other = refl
parents_once text [] (other ∷ others) none of_other = grind arith
parents_once text (parent ∷ parents) [] of_parent none = grind arith
parents_once text (parent ∷ parents) (other ∷ others) of_parent of_other =
    let same : parent ≡ other = same_Some parent other (sym of_parent.0 ∙ of_other.0) in
    let rest =
    parents_once parent parents others of_parent.1
    (subst (λ t. AreParents t others) (sym same) of_other.1) in
    ap (λ t. t ∷ parents) same ∙ ap (λ ts. other ∷ ts) rest

all_but_last-take : (count : ℕ) (cs : List (List ℕ)) → count + 1 < length cs
    → all_but_last (take (suc (suc count)) cs) ≡ take (suc count) cs
all_but_last-take count [] below = absurd (omega (arith, below))
all_but_last-take count (c ∷ []) below = absurd (omega (arith, below))
all_but_last-take zero (c ∷ d ∷ cs) below = refl
all_but_last-take (suc count) (c ∷ d ∷ cs) below = grind (arith, common_steps, all_but_last-take count (d ∷ cs) (omega (arith, below)))

-- the parents of a text of `count` components and one more, the first of all
pub parents_of_some : (text : List ℕ) (count : ℕ) (ps : List (List ℕ)) → All IsPiece ps → All IsFull ps
    → All IsPlain ps → count < length ps → components_of text ≡ take (suc count) ps
    → AreParents text (prefixes count ps)
parents_of_some text zero ps pieces full plain below e = grind arith
parents_of_some text (suc count) ps pieces full plain below e =
    let kept = take (suc (suc count)) ps in
    let more : length kept ≡ suc (suc count) = length-take-le (suc (suc count)) ps (omega (arith, below)) in
    let here : parent_text text ≡ Some (joined (take (suc count) ps)) =
    ap parent_of_components e
    ∙ parent_of_components-full kept (All-take IsFull (suc (suc count)) ps full)
    (All-take IsPlain (suc (suc count)) ps plain) (omega (arith, more))
    ∙ ap (λ qs. Some (joined qs)) (all_but_last-take count ps (omega (arith, below))) in (
      here,
      parents_of_some (joined (take (suc count) ps)) count ps pieces full plain (omega (arith, below))
          (components_of-full (take (suc count) ps) (All-take IsPiece (suc count) ps pieces)
          (All-take IsFull (suc count) ps full)),
    )

from_all : (text : List ℕ) (cs : List (List ℕ)) → All IsGood cs → components_of text ≡ cs
    → AreParents text (prefixes (length cs - 1) cs)
from_all text cs h1 h2 =
    grind (arith, parents_of_some, All-good_piece, All-good_non_empty, All-good_plain, take_all)

pub AreParents-prefixes : (text : List ℕ) → verdict text ≡ None → AreParents text (shorter_prefixes text)
AreParents-prefixes text valid = from_all text (components_of text) (valid-components text valid) refl

length-prefixes : (count : ℕ) (ps : List (List ℕ)) → length (prefixes count ps) ≡ count
length-prefixes zero ps = refl
length-prefixes (suc count) ps = ap suc (length-prefixes count ps)

count-of : (text : List ℕ) (parents : List (List ℕ)) → AreParents text parents
    → length (parents_of text) ≡ length parents
count-of text parents are =
    ap length (parents_once text (parents_of text) parents (AreParents-parents_of text) are)

module _ (n : List ℕ) (ns : List (List ℕ)) (pieces : All IsPiece (n ∷ ns)) (full : All IsFull (n ∷ ns))
    (plain : All IsPlain (n ∷ ns)) where
  parents_without_end : (text : List ℕ) → components_of text ≡ n ∷ ns
      → AreParents text (prefixes (length ns) (n ∷ ns))
  parents_without_end text e = grind (arith, parents_of_some, take_all)

  -- the separator at the end is left out first
  first_parent : (text : List ℕ) → components_of text ≡ (n ∷ ns) ++ [] ∷ []
      → parent_text text ≡ Some (joined (n ∷ ns))
  first_parent text e =
      ap parent_of_components e
      ∙ parent_of_components-many ((n ∷ ns) ++ [] ∷ [])
      (omega (arith, length-append (n ∷ ns) ([] ∷ [])))
      ∙ ap (λ ps. Some (with_separators (rejoined ps))) (all_but_last-push (n ∷ ns) [])
      ∙ ap (λ us. Some (with_separators us)) (rejoined-full (n ∷ ns) full)
      ∙ ap (λ us. Some us)
      (with_separators-plain (joined (n ∷ ns))
      (All-joined (λ u. u ≢ slash) (n ∷ ns) separator_is_plain plain))

  count_with_end : (ends : Bool) → let text = joined_with_end (n ∷ ns) ends in
      length (parents_of text) ≡ length (components_of text) - 1
  count_with_end true =
      let text = joined_with_end (n ∷ ns) true in
      let all = components_with_end n ns true pieces full in
      let others = parents_without_end (joined (n ∷ ns)) (components_of-full (n ∷ ns) pieces full) in
      omega (
        arith,
        count-of text (joined (n ∷ ns) ∷ prefixes (length ns) (n ∷ ns)) (first_parent text all, others),
        length-prefixes (length ns) (n ∷ ns),
        ap length all,
        length-append (n ∷ ns) ([] ∷ []),
      )
  count_with_end false =
      let text = joined_with_end (n ∷ ns) false in
      let all = components_with_end n ns false pieces full ∙ append-nil (n ∷ ns) in
      omega (
        arith,
        count-of text (prefixes (length ns) (n ∷ ns)) (parents_without_end text all),
        length-prefixes (length ns) (n ∷ ns),
        ap length all,
      )

count_joined : (ns : List (List ℕ)) (ends : Bool) → All IsPiece ns → All IsFull ns → All IsPlain ns
    → let text = joined_with_end ns ends in
    length (parents_of text) ≡ length (components_of text) - 1
count_joined [] ends pieces full plain = refl
count_joined (n ∷ ns) ends pieces full plain = count_with_end n ns pieces full plain ends

count_of_parent : (text parent : List ℕ) → IsPlain text → parent_text text ≡ Some parent
    → length (parents_of parent) ≡ length (components_of parent) - 1
count_of_parent text parent plain e =
    let kept = all_but_last (components_of text) in
    let is : (parent ≡ rejoined kept) × (1 < length (components_of text)) = parent_text-plain text parent plain e in
    let pieces = All-all_but_last IsPiece (components_of text) (AreComponents-components_of text).are_pieces in
    let plains = All-all_but_last IsPlain (components_of text) (All-components_of (λ u. u ≢ slash) text plain) in
    subst (λ t. length (parents_of t) ≡ length (components_of t) - 1) (sym is.0)
    (count_joined (non_empty kept) (ends_empty kept) (All-filter is_non_empty IsPiece kept pieces) (All-non_empty kept)
    (All-filter is_non_empty IsPlain kept plains))

-- what a call says of the parent that it returns
module _ {E : Type 0} (result : Result (Option (List ℕ)) E) (text : List ℕ) (is : IfOk result (λ parent. parent ≡ parent_text text)) where
  pub shorter_parent : IfOk result (λ parent. IfSome parent (λ parent. length parent < length text))
  shorter_parent = grind (arith, IfOk-weaker, parent_text-shorter)

  pub successive_parents : IfOk result (λ parent. parents_of text ≡ parent_chain parent)
  successive_parents = grind (arith, IfOk-weaker, parents_of-chain)

  pub counted_parents : IsPlain text
      → IfOk result (λ parent. IfSome parent (λ parent. length (parents_of parent) ≡ length (components_of parent) - 1))
  counted_parents plain = grind (arith, IfOk-weaker, count_of_parent)
