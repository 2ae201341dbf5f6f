-- Components that are taken one by one.
use Rattle.std.proofs.Common.{◌≡◌, ◌≢◌, ◌-◌, ℕ, zero, suc, ◌≤◌, List, [], ◌∷◌, ◌++◌, length, refl, arith, length-append, ◌+◌, ◌<◌, false, not, nat_lt, Bool, cond, drop, length-drop, All, Some, None, sym, ◌∙◌, ap, inl, inr, map, Option, get_or, subst, take, ◌↔◌, append_assoc}
use Rattle.std.proofs.Math.Seq.{take-length}
use Rattle.std.proofs.lemmas.List.{take-append-le, drop-drop, drop-append-le, same_from_push}
use Rattle.std.proofs.lemmas.List.Splits.{join_with_byte-slice_split, slice_split_none, slice_split_first}
use Rattle.std.specs.List.{slice_split, position_or_len, slice_range, HoldsAt, last_or}
use Rattle.uefi_path.specs.Ancestors.{beginnings}
use Rattle.uefi_path.specs.Components.{components_of, joined}
use Rattle.uefi_path.specs.Separators.{canonical, is_separator, separator}
use Rattle.uefi_path.specs.SuccessiveParents.{prefixes, shorter_prefixes}
use Rattle.uefi_path.proofs.Joining.{AreComponents-components_of, All-slice_split}
use Rattle.uefi_path.proofs.SeparatorPlaces.{IsTextUnit-separator}
use Rattle.uefi_path.proofs.Validity.{All-joined}
use Rattle.std.specs.Option.{unwrap_or, IfSome}
use Rattle.std.proofs.lemmas.Bool.{cases_Bool, ltb-true, ltb-false, cases_lt}
use Rattle.std.proofs.lemmas.List.Sums.{fails_before_first, prefix_len-le-length}
use Rattle.uefi_path.specs.ComponentPlaces.{components_from}
use Rattle.std.proofs.Math.ListN.{drop_of_length-le}
use Rattle.uefi_path.specs.ComponentIndices.{BeginAtPlaces, placed_from}
use Rattle.std.specs.Iterator.{YieldsFirstBy}
use Rattle.std.specs.Iterator.Runs.{AllItems, EachRunFrom}
use Rattle.std.proofs.iter.runs.Lists.{at_some}
use Rattle.std.proofs.lemmas.Grind.{common_steps}
use Rattle.std.proofs.lemmas.List.Elements.{All-cons, All-nil, All-take, All-weaker}
use Rattle.uefi_text.proofs.Runs.{gives_each}
use Rattle.uefi_text.specs.Units.{IsText, IsTextUnit}
use Rattle.uefi_text.specs.Views.{units_of}
use Rattle.uefi_path.specs.Runs.{GivesNoNulIn}
use Rattle.uefi_path.specs.Views.{components_left}
use Rattle.uefi_path.specs.declared.splitting.components.Components.{Components}
use Rattle.uefi_text.specs.Case.{uppers}
use Rattle.uefi_path.specs.WithoutCase.{capital_pieces}

-- what stands after them makes no difference
prefixes-append : (count : ℕ) (ps qs : List (List ℕ)) → count ≤ length ps → prefixes count (ps ++ qs) ≡ prefixes count ps
prefixes-append zero ps qs within = refl
prefixes-append (suc count) ps qs within = grind (arith, common_steps, prefixes-append count ps qs (omega arith), take-append-le)

-- those of a text that is cut before its last piece
pub beginnings-cut : (units : List ℕ) (before : List (List ℕ)) (last : List ℕ) → slice_split is_separator units ≡ before ++ last ∷ []
    → beginnings (slice_split is_separator units) ≡ units ∷ beginnings before
beginnings-cut units before last cut =
    grind (arith, join_with_byte-slice_split separator units, length-append, take-length, prefixes-append)

-- those of some pieces begin with all of them
some_beginnings : (ps : List (List ℕ)) → ps ≢ [] → beginnings ps ≡ joined ps ∷ prefixes (length ps - 1) ps
some_beginnings [] some = absurd (some refl)
some_beginnings (p ∷ ps) some = grind (arith, take-length)

pub beginnings_are_prefixes : (text : List ℕ) → components_of text ≢ [] → beginnings (components_of text) ≡ canonical text ∷ shorter_prefixes text
beginnings_are_prefixes text some = grind (arith, some_beginnings, AreComponents-components_of)

-- a place that is not found stands after all units
found : (n m : ℕ) (b : Bool) → nat_lt n m ≡ b → n ≤ m → unwrap_or (cond b (Some n) None) m ≡ n
found n m b h1 h2 = grind (arith, ltb-false)

-- the first of the pieces that are left from a place on, and those after it
pub first_piece : (text : List ℕ) (start : ℕ) → start ≤ length text
    → slice_split is_separator (drop start text)
    ≡ slice_range text start (start + position_or_len is_separator (drop start text))
    ∷ components_from text (suc (start + position_or_len is_separator (drop start text)))
first_piece text start low =
    let rest = drop start text in
    let count = position_or_len is_separator rest in
    let within : count ≤ length rest = prefix_len-le-length (λ v. not (is_separator v)) rest in
    elim (cases_Bool (nat_lt (start + count) (length text))) [
      | inl hit ↦
          let more : count < length rest = omega (arith, length-drop start text, ltb-true (start + count) (length text) hit) in
          let next : start + (count + 1) ≡ suc (start + count) = omega arith in
          let e : drop (count + 1) rest ≡ drop (suc (start + count)) text =
          drop-drop (count + 1) start text ∙ ap (λ n. drop n text) next in
          let back : start + count - start ≡ count = omega arith in
          rw hit (rw (sym e) (rw back (slice_split_first is_separator rest 0 more)))
      | inr miss ↦
          let all : count ≡ length rest = omega (arith, length-drop start text, ltb-false (start + count) (length text) miss) in
          let back : start + count - start ≡ length rest = omega arith in
          let none : All (λ v. is_separator v ≡ false) rest =
          λ k d m. fails_before_first is_separator rest k d (omega arith) in
          rw miss (rw back (rw (take-length rest) (slice_split_none is_separator rest none)))
    ]

-- what stands after a piece and its separator
after_first : (piece : List ℕ) (pieces : List (List ℕ)) → drop (length piece + 1) (joined (piece ∷ pieces)) ≡ joined pieces
after_first piece [] = drop_of_length-le piece (omega arith)
after_first piece (next ∷ pieces) =
    sym (drop-drop 1 (length piece) (joined (piece ∷ next ∷ pieces)))
    ∙ ap (drop 1) (drop-append-le (length piece) piece (separator ∷ joined (next ∷ pieces)) (omega arith)
    ∙ ap (λ us. us ++ separator ∷ joined (next ∷ pieces)) (drop_of_length-le piece (omega arith)))

-- how long pieces are, joined, if more than one is left
pub joined_longer : (piece : List ℕ) (pieces : List (List ℕ)) → pieces ≢ []
    → length (joined (piece ∷ pieces)) ≡ length piece + 1 + length (joined pieces)
joined_longer piece pieces h1 = grind (arith, length-append)

pub pieces_placed : (place : ℕ) (pieces : List (List ℕ)) → map (λ item. item.1) (placed_from place pieces) ≡ pieces
pieces_placed place [] = refl
pieces_placed place (piece ∷ pieces) = ap (λ ps. piece ∷ ps) (pieces_placed (place + length piece + 1) pieces)

pub count_placed : (place : ℕ) (pieces : List (List ℕ)) → length (placed_from place pieces) ≡ length pieces
count_placed place [] = refl
count_placed place (piece ∷ pieces) = omega (arith, count_placed (place + length piece + 1) pieces)

pub begin_at_places : (text : List ℕ) (place : ℕ) (pieces : List (List ℕ)) → (pieces ≢ [] → place ≤ length text)
    → drop place text ≡ joined pieces → BeginAtPlaces text (placed_from place pieces)
begin_at_places text place [] within begins = tt
begin_at_places text place (piece ∷ pieces) within begins =
    let here : place ≤ length text = within (λ e. cc) in
    let rest : drop (place + length piece + 1) text ≡ joined pieces =
    ap (λ n. drop n text) (omega arith)
    ∙ sym (drop-drop (length piece + 1) place text) ∙ ap (drop (length piece + 1)) begins ∙ after_first piece pieces in (
      here,
      (
        begins ∙ ap (λ ps. joined (piece ∷ ps)) (sym (pieces_placed (place + length piece + 1) pieces)),
        begin_at_places text (place + length piece + 1) pieces
            (λ more. omega (arith, here, ap length begins, length-drop place text, joined_longer piece pieces more))
            rest,
      ),
    )

-- no unit of a text is NUL
pub no_nul : (text : List ℕ) → IsText text → All (λ unit. unit ≢ 0) text
no_nul text is_text = grind arith

-- what holds of each that it shows, and of some other, holds of each that it gives
pub gives_all : {S A B : Type 0} (P : B → Type 0) (other : B) (view : A → B) (left : S → List B) (here : S) → P other
    → All P (left here)
    → EachRunFrom (YieldsFirstBy view left) here (λ run. AllItems run (λ item. P (view item)))
gives_all P other view left here of_other of_all run seen from k =
    let in_order = (gives_each view left here run seen from).0.3 k in
    at_some (run.at k) (λ item. P (view item)) (λ item found.
    let same : view item ≡ get_or (left here) k other =
    subst (λ at. IfSome at (λ item. HoldsAt (λ shown. view item ≡ shown) (left here) k)) found in_order other in
    elim (cases_lt k (length (left here))) [
      | inl inside ↦ subst P (sym same) (of_all k other inside)
      | inr past ↦
          let none : get_or (left here) k other ≡ other = grind (arith, common_steps) in
          subst P (sym (same ∙ none)) of_other
    ])

-- the last of items
pub last_or-push : {A : Type 0} (first : Option A) (items : List A) (item : A) → last_or first (items ++ item ∷ []) ≡ Some item
last_or-push first [] item = refl
last_or-push first (other ∷ items) item = last_or-push (Some other) items item

-- no component that is a text holds a NUL
pub gives_no_nul : (here : Components) → All IsText (components_left here) → GivesNoNulIn here
gives_no_nul here texts =
    gives_all (λ units. All (λ unit. unit ≢ 0) units) [] units_of components_left here (All-nil (λ unit. unit ≢ 0))
    (All-weaker IsText (λ units. All (λ unit. unit ≢ 0) units) no_nul (components_left here) texts)

-- Components taken off two lists at once, from the front without case and from the back.

-- one more that is the same without case
pub same_step : {P : Type 0} (own piece : List ℕ) (us vs ours theirs more : List (List ℕ)) → us ≡ own ∷ ours → vs ≡ piece ∷ theirs
    → uppers own ≡ uppers piece → P ↔ (capital_pieces us ≡ capital_pieces vs ++ more) → P ↔ (capital_pieces ours ≡ capital_pieces theirs ++ more)
same_step own piece us vs ours theirs more first other same so_far = grind arith

pub dropped_step : (own piece : List ℕ) (us vs ours theirs : List (List ℕ)) → us ≡ own ∷ ours → vs ≡ piece ∷ theirs
    → drop (length vs) us ≡ drop (length theirs) ours
dropped_step own piece us vs ours theirs first other = λ i. drop (length (other i)) (first i)

-- one more from the back
pub back_step : {P : Type 0} (own piece : List ℕ) (us vs ours theirs front : List (List ℕ)) → us ≡ ours ++ own ∷ [] → vs ≡ theirs ++ piece ∷ []
    → own ≡ piece → P ↔ (us ≡ front ++ vs) → P ↔ (ours ≡ front ++ theirs)
back_step own piece us vs ours theirs front last other same so_far = grind (arith, common_steps, append_assoc, same_from_push)

-- which has to be the same
pub back_same : (own piece : List ℕ) (us vs ours theirs front : List (List ℕ)) → us ≡ ours ++ own ∷ [] → vs ≡ theirs ++ piece ∷ []
    → us ≡ front ++ vs → own ≡ piece
back_same own piece us vs ours theirs front last other e =
    grind (arith, same_from_push, append_assoc front theirs (piece ∷ []))

-- and has to be there
pub back_some : (piece : List ℕ) (us vs theirs front : List (List ℕ)) → us ≡ [] → vs ≡ theirs ++ piece ∷ [] → us ≡ front ++ vs → ⊥
back_some piece us vs theirs front none other e =
    omega (arith, ap length (sym none ∙ e ∙ ap (λ ps. front ++ ps) other), length-append front (theirs ++ piece ∷ []), length-append theirs (piece ∷ []))

-- the beginnings of a text are texts
prefixes_are_texts : (count : ℕ) (pieces : List (List ℕ)) → All IsText pieces → All IsText (prefixes count pieces)
prefixes_are_texts zero pieces texts = All-nil IsText
prefixes_are_texts (suc count) pieces texts =
    All-cons IsText (joined (take (suc count) pieces)) (prefixes count pieces)
    (All-joined IsTextUnit (take (suc count) pieces) IsTextUnit-separator (All-take IsText (suc count) pieces texts))
    (prefixes_are_texts count pieces texts)

pub beginnings_are_texts : (units : List ℕ) → IsText units → All IsText (beginnings (slice_split is_separator units))
beginnings_are_texts units is_text =
    prefixes_are_texts (length (slice_split is_separator units)) (slice_split is_separator units) (All-slice_split IsTextUnit units is_text)
