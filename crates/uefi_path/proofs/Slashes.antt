-- Texts in which slashes separate pieces too: how the first and the last piece are cut.
use Rattle.std.proofs.Common.{◌≡◌, ◌≢◌, ℕ, suc, ◌+◌, ◌-◌, ◌<◌, ◌≤◌, true, false, List, [], ◌∷◌, ◌++◌, All, length, take, drop, get_or, drop-cons, sym, subst, ◌∙◌, ap, arith}
use Rattle.std.specs.List.{slice_range, slice_split}
use Rattle.std.proofs.lemmas.Bool.{eqb-true}
use Rattle.std.proofs.lemmas.Grind.{common_steps}
use Rattle.std.proofs.lemmas.List.{map-append, take-append-drop}
use Rattle.std.proofs.lemmas.List.Elements.{All-append, All-cons, All-nil, All-weaker}
use Rattle.std.proofs.lemmas.List.Splits.{slice_split_at, slice_split_none}
use Rattle.std.proofs.Math.Seq.{take-length, take-suc}
use Rattle.uefi_path.specs.Components.{IsPiece}
use Rattle.uefi_path.specs.Separators.{becomes_separator, is_separator, separator, slash, with_separators}
use Rattle.uefi_path.proofs.LastPieces.{last_piece, to_the_end}
use Rattle.uefi_path.proofs.Joining.{with_separators-plain, passes_over}

-- units of which none becomes a separator
abbrev pub Inside : List ℕ → Type 0
Inside us = All (λ unit. becomes_separator unit ≡ false) us

-- one unit more of them
pub Inside-longer : (us : List ℕ) (end : ℕ) → end < length us → Inside (take end us) → becomes_separator (get_or us end 0) ≡ false
    → Inside (take (suc end) us)
Inside-longer us end less inside here =
    subst Inside (sym (take-suc us end 0 less))
    (All-append (λ u. becomes_separator u ≡ false) (take end us) (get_or us end 0 ∷ []) inside
    (All-cons (λ u. becomes_separator u ≡ false) (get_or us end 0) [] here (All-nil (λ u. becomes_separator u ≡ false))))

not_slash : (u : ℕ) → becomes_separator u ≡ false → u ≢ slash
not_slash u inside e = grind (arith, common_steps)

not_separator : (u : ℕ) → becomes_separator u ≡ false → u ≢ separator
not_separator u inside e = grind (arith, common_steps)

same : (us : List ℕ) → Inside us → with_separators us ≡ us
same us inside = with_separators-plain us (All-weaker (λ u. becomes_separator u ≡ false) (λ u. u ≢ slash) not_slash us inside)

is_piece : (us : List ℕ) → Inside us → IsPiece us
is_piece us inside = All-weaker (λ u. becomes_separator u ≡ false) (λ u. u ≢ separator) not_separator us inside

pub one_piece : (us : List ℕ) → Inside us → slice_split is_separator (with_separators us) ≡ us ∷ []
one_piece us inside = grind (arith, same, slice_split_none, passes_over, is_piece)

-- a text around a unit that becomes a separator
around : (us : List ℕ) (place : ℕ) → place < length us → becomes_separator (get_or us place 0) ≡ true
    → with_separators us ≡ with_separators (take place us) ++ separator ∷ with_separators (drop (suc place) us)
around us place less ends =
    let halves : us ≡ take place us ++ get_or us place 0 ∷ drop (suc place) us =
    sym (take-append-drop place us) ∙ ap (λ vs. take place us ++ vs) (drop-cons us place 0 less) in grind (arith, map-append, eqb-true, halves)

pub first_piece : (us : List ℕ) (end : ℕ) → end < length us → Inside (take end us) → becomes_separator (get_or us end 0) ≡ true
    → slice_split is_separator (with_separators us) ≡ take end us ∷ slice_split is_separator (with_separators (drop (suc end) us))
first_piece us end less inside ends =
    grind (arith, around us end less ends, same, slice_split_at, passes_over, is_piece)

pub last_piece_slashed : (us : List ℕ) (start : ℕ) → 0 < start → start ≤ length us → Inside (drop start us)
    → becomes_separator (get_or us (start - 1) 0) ≡ true
    → slice_split is_separator (with_separators us)
    ≡ slice_split is_separator (with_separators (take (start - 1) us)) ++ drop start us ∷ []
last_piece_slashed us start some within inside ends =
    let last = drop start us in
    let next : suc (start - 1) ≡ start = omega arith in
    ap (slice_split is_separator)
    (around us (start - 1) (omega arith) ends
    ∙ ap (λ n. with_separators (take (start - 1) us) ++ separator ∷ with_separators (drop n us)) next
    ∙ ap (λ vs. with_separators (take (start - 1) us) ++ separator ∷ vs) (same last inside))
    ∙ last_piece (with_separators (take (start - 1) us)) last (is_piece last inside)

upto : (us : List ℕ) (end : ℕ) → slice_range us 0 end ≡ take end us
upto us end = let all : end - 0 ≡ end = omega arith in ap (λ n. take n us) all

-- the pieces of a text, as they are cut at such places
pub cut_at_end : (us first : List ℕ) (end : ℕ) → Inside (take end us) → end ≡ length us → first ≡ slice_range us 0 end
    → slice_split is_separator (with_separators us) ≡ first ∷ []
cut_at_end us first end inside all cut = grind (arith, common_steps, take-length, upto, same, slice_split_none, passes_over, is_piece)

pub cut_inside : (us first rest : List ℕ) (end len : ℕ) → end ≤ length us → end ≢ len → len ≡ length us → Inside (take end us)
    → (end < length us → becomes_separator (get_or us end 0) ≡ true) → first ≡ slice_range us 0 end
    → rest ≡ slice_range us (end + 1) len
    → slice_split is_separator (with_separators us) ≡ first ∷ slice_split is_separator (with_separators rest)
cut_inside us first rest end len within other all inside ends cut after =
    let less : end < length us = omega (arith, within, other, all) in
    first_piece us end less inside (ends less)
    ∙ ap (λ vs. vs ∷ slice_split is_separator (with_separators (drop (suc end) us))) (sym (cut ∙ upto us end))
    ∙ ap (λ vs. first ∷ slice_split is_separator (with_separators vs))
    (let next : suc end ≡ end + 1 = omega arith in ap (λ n. drop n us) next ∙ sym (after ∙ to_the_end us (end + 1) len all))

pub cut_whole : (us last : List ℕ) (start len : ℕ) → Inside (drop start us) → start ≡ 0 → len ≡ length us
    → last ≡ slice_range us start len → slice_split is_separator (with_separators us) ≡ last ∷ []
cut_whole us last start len inside none all cut =
    grind (arith, to_the_end, same, slice_split_none, passes_over, is_piece)

pub cut_back_inside : (us front last : List ℕ) (start len : ℕ) → start ≤ length us → start ≢ 0 → len ≡ length us
    → Inside (drop start us) → (0 < start → becomes_separator (get_or us (start - 1) 0) ≡ true) → last ≡ slice_range us start len
    → front ≡ slice_range us 0 (start - 1)
    → slice_split is_separator (with_separators us) ≡ slice_split is_separator (with_separators front) ++ last ∷ []
cut_back_inside us front last start len within other all inside ends cut before =
    grind (arith, last_piece_slashed, upto, to_the_end)
