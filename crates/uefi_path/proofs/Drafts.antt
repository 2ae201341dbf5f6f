-- A path that is added to a buffer, part by part, and what is returned for it.
use Rattle.std.proofs.Common.{None, ◌≡◌, ◌<◌, ◌≤◌, ◌+◌, ◌^◌, ℕ, List, Option, Err, Some, length, refl, arith, append_assoc, ◌-◌, ◌≢◌, get_or, suc, subst, IsTrue, ◌↔◌, [], ◌∷◌, ◌++◌, All, Bool, not, if◌then◌else◌, ap, sym, ◌∙◌}
use Rattle.std.proofs.lemmas.Bool.{le-ltb, cases_Bool}
use Rattle.std.proofs.lemmas.Grind.{common_steps}
use Rattle.uefi_text.specs.UnitTexts.{places_needed, AreSunk}
use Rattle.uefi_path.specs.Writing.{IsParentLen, IsSunk, path_written}
use Rattle.std.specs.List.{fold}
use Rattle.std.proofs.lemmas.List.{append-nil, get_or-map, length-map, map-append}
use Rattle.std.proofs.lemmas.List.Elements.{All-head, All-tail}
use Rattle.uefi_text.specs.Units.{IsText, IsTextUnit, replaced}
use Rattle.uefi_path.specs.Components.{IsPiece, joined}
use Rattle.uefi_path.specs.Parents.{all_but_last, is_non_empty, parent_of_components, rejoined}
use Rattle.uefi_path.specs.Pushing.{appended, needs_separator, tail_of}
use Rattle.uefi_path.specs.Separators.{is_separator, separator, slash, with_separators}
use Rattle.uefi_path.proofs.ParentForm.{All-rejoined, parent_of_components-shorter}
use Rattle.uefi_path.proofs.Joining.{after_separator, needs_separator-append, closed, open_piece, All-all_but_last, parent_of_components-many, rejoined-added, with_separators-plain, IsPlain-with_separators}
use Rattle.uefi_path.proofs.SeparatorPlaces.{IsText-with_separators, IsTextUnit-separator}

-- the places that a text needs that a `usize` counts
pub needed : (text : List ℕ) (len count : ℕ) → len ≡ length text → count ≡ len + 1 → count < 2 ^ 64
    → count ≡ places_needed text
needed text len count long one bound = grind (arith, common_steps)

-- the same of a path that there is
pub path_short : (made : Option (List ℕ)) (text buffer : List ℕ) (count : ℕ) → made ≡ Some text
    → length buffer ≤ length text → count ≡ places_needed text
    → Err (record { 0 = count }) ≡ path_written made buffer
path_short made text buffer count is less enough = grind (arith, common_steps, le-ltb)

-- A path that is added to a buffer, part by part: components that make a parent, and what a push adds.

-- whether a separator is missing after a text whose slashes are replaced
pub needs_replaced : (text : List ℕ) → text ≢ []
    → not (is_separator (replaced slash separator (get_or text (length text - 1) 0))) ≡ needs_separator (with_separators text)
needs_replaced [] some = absurd (some refl)
needs_replaced (u ∷ us) some =
    let by = replaced slash separator in
    let last : length us ≡ suc (length us) - 1 = omega arith in grind (arith, get_or-map, length-map, by, last)

-- what is added after a text, and after one whose slashes are replaced
pub part_tail : (path part : List ℕ) (is_missing : Bool)
    → (if is_missing then path ++ separator ∷ [] else path) ++ with_separators part ≡ path ++ tail_of is_missing part
part_tail path part is_missing = grind (arith, append_assoc)

pub replaced_tail : (text part : List ℕ)
    → with_separators text ++ tail_of (needs_separator text) part ≡ with_separators (appended text part)
replaced_tail text part = grind (arith, common_steps, map-append)

-- a separator is missing after a component exactly where it is not empty
pub needs_separator-appended : (text piece : List ℕ) → IsPiece piece
    → needs_separator (appended text piece) ≡ is_non_empty piece
needs_separator-appended text piece h1 =
    grind (arith, cases_Bool, closed, append-nil, open_piece, needs_separator-append, after_separator)

-- a text so far: its units were added to a buffer, and adding the pieces to come but the last makes the whole
pub record IsDraft (text old buffer : List ℕ) (len : ℕ) (is_missing : Bool) (pieces : List (List ℕ)) (whole : List ℕ) : Type 0 where
  pub sunk : AreSunk (with_separators text) old buffer len
  pub missing : is_missing ≡ needs_separator text
  pub are_pieces : All IsPiece pieces
  pub to_come : fold appended text (all_but_last pieces) ≡ whole

-- one component more, where another follows it
pub draft_next : (text old buffer : List ℕ) (len : ℕ) (is_missing : Bool) (piece : List ℕ) (left : List (List ℕ)) (whole : List ℕ)
    (next : List ℕ) (pieces : List (List ℕ)) (new : List ℕ) (end : ℕ) (is_empty : Bool)
    → IsDraft text old buffer len is_missing (piece ∷ left) whole → left ≡ next ∷ pieces
    → AreSunk (with_separators text ++ tail_of is_missing piece) old new end → (IsTrue is_empty ↔ (piece ≡ []))
    → IsDraft (appended text piece) old new end (not is_empty) (next ∷ pieces) whole
draft_next text old buffer len is_missing piece left whole next pieces new end is_empty draft follows sunk empty =
    let d : IsDraft text old buffer len is_missing (piece ∷ next ∷ pieces) whole =
    subst (λ ps. IsDraft text old buffer len is_missing (piece ∷ ps) whole) follows draft in
    record {
      sunk = subst (λ us. AreSunk us old new end) (ap (λ b. with_separators text ++ tail_of b piece) d.missing ∙ replaced_tail text piece) sunk;
      missing = grind (arith, needs_separator-appended, All-head, d);
      are_pieces = All-tail IsPiece piece (next ∷ pieces) d.are_pieces;
      to_come = d.to_come;
    }

-- the parent of two components or more was added, where no other follows
pub draft_done : (text old buffer : List ℕ) (len : ℕ) (is_missing : Bool) (piece : List ℕ) (left pieces : List (List ℕ))
    → IsDraft text old buffer len is_missing (piece ∷ left) (fold appended [] (all_but_last pieces)) → left ≡ []
    → All IsPiece pieces → 1 < length pieces → IsSunk (parent_of_components pieces) (Some len) old buffer
draft_done text old buffer len is_missing piece left pieces draft none are many =
    let whole : text ≡ rejoined (all_but_last pieces) =
    ap (λ ps. fold appended text (all_but_last (piece ∷ ps))) (sym none) ∙ draft.to_come ∙ rejoined-added pieces are in
    rw (parent_of_components-many pieces many) (subst (λ us. AreSunk (with_separators us) old buffer len) whole draft.sunk)

-- the units that were counted are those of the parent, if there is one
pub is_made : (pieces : List (List ℕ)) (told : Option ℕ) (old buffer : List ℕ) → All IsText pieces → All IsPiece pieces
    → length (joined pieces) < 2 ^ 64 → IsSunk (parent_of_components pieces) told old buffer → IsParentLen pieces told
is_made [] None old buffer texts are bound sunk = refl
is_made [] (Some len) old buffer texts are bound sunk = absurd (cc)
is_made (p ∷ []) None old buffer texts are bound sunk = refl
is_made (p ∷ []) (Some len) old buffer texts are bound sunk = absurd (cc)
is_made (p ∷ q ∷ ps) None old buffer texts are bound sunk = absurd sunk
is_made (p ∷ q ∷ ps) (Some len) old buffer texts are bound sunk =
    let kept = rejoined (all_but_last (p ∷ q ∷ ps)) in
    let text = with_separators kept in
    let shorter = parent_of_components-shorter (p ∷ q ∷ ps) text are refl in
    record {
      parent = text;
      is = refl;
      long = omega (arith, sunk.count, shorter, bound);
      fits = omega (arith, sunk.count, shorter, bound);
      is_text =
          IsText-with_separators kept
          (All-rejoined IsTextUnit (all_but_last (p ∷ q ∷ ps)) IsTextUnit-separator (All-all_but_last IsText (p ∷ q ∷ ps) texts));
      plain = with_separators-plain text (IsPlain-with_separators kept);
    }

-- its units, where it is added once more
pub sunk_parent : (made : Option (List ℕ)) (told : Option ℕ) (parent old buffer : List ℕ) → made ≡ Some parent
    → IsSunk made told old buffer → (len : ℕ) × AreSunk parent old buffer len
sunk_parent made told parent old buffer is sunk = grind (arith, common_steps, is, sunk, parent)
