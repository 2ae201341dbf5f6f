-- The last piece of a path, and the name of a file.
use Rattle.std.proofs.Common.{◌≡◌, ◌≢◌, ℕ, ◌-◌, ◌<◌, ◌≤◌, List, [], ◌∷◌, ◌++◌, length, take, drop, get_or, drop-cons, arith, None, Option, Some, ap, refl, sym, ◌+◌, ◌∙◌, ◌⊎◌, length-append, length-take, inl, inr, suc, subst, add-one}
use Rattle.std.specs.List.{slice_range, slice_split, last_or}
use Rattle.std.proofs.lemmas.List.{length-drop, take-append-drop, map-append, get_or_default, get_or-drop, length-take-le}
use Rattle.std.proofs.lemmas.List.Splits.{slice_split_none, join_with_byte-slice_split}
use Rattle.std.proofs.Math.Seq.{take-length, take-add, get_or-append_seam}
use Rattle.uefi_path.specs.Components.{IsPiece, components_of, joined, pieces_between}
use Rattle.uefi_path.specs.Separators.{is_separator, separator, IsPlain, slash, with_separators, canonical}
use Rattle.uefi_path.proofs.Joining.{slice_split-append, passes_over, with_separators-plain, slice_split-non_empty, pieces_between-some, some_slice_split}
use Rattle.std.proofs.lemmas.List.Elements.{All-take}
use Rattle.uefi_path.specs.FileNames.{IsStem, HasNoDot, HasNoExtension, IsNamed}
use Rattle.uefi_path.specs.Renaming.{IsExtended, IsRenamed, StartsName, dotted}
use Rattle.std.proofs.lemmas.Grind.{common_steps}
use Rattle.std.proofs.lemmas.Bool.{cases_Bool, cases_lt}
use Rattle.uefi_path.specs.Parents.{all_but_last, parent_text}
use Rattle.uefi_path.specs.Verdicts.{IsValid}
use Rattle.uefi_path.proofs.ParentForm.{all_but_last-push, parent_of_components-good}
use Rattle.uefi_path.proofs.TakenComponents.{last_or-push}
use Rattle.uefi_path.proofs.Validity.{valid-components, valid_unrefused}
use Rattle.uefi_path.specs.NormalForms.{dot_dot}

-- a piece after a separator is the last of all
pub last_piece : (us vs : List ℕ) → IsPiece vs
    → slice_split is_separator (us ++ separator ∷ vs) ≡ slice_split is_separator us ++ vs ∷ []
last_piece us vs piece = grind (arith, slice_split-append, slice_split_none, passes_over)

-- what stands after the last separator of a text, or all of it where there is none
pub record IsLastStart (text : List ℕ) (start : ℕ) : Type 0 where
  pub within : start ≤ length text
  pub piece : IsPiece (drop start text)
  pub after : 0 < start → get_or text (start - 1) 0 ≡ separator

-- a text around its last separator
pub around : (text : List ℕ) (start : ℕ) → IsLastStart text start → 0 < start
    → text ≡ take (start - 1) text ++ separator ∷ drop start text
around text start is some = grind (arith, take-append-drop, drop-cons)

-- the pieces of a text with a separator, and of one without
pub with_separator : (text : List ℕ) (start : ℕ) → IsLastStart text start → 0 < start
    → slice_split is_separator text ≡ slice_split is_separator (take (start - 1) text) ++ drop start text ∷ []
with_separator text start is some =
    grind (arith, around text start is some, last_piece (take (start - 1) text) (drop start text) is.piece)

pub without_separator : (text : List ℕ) → IsPiece text → slice_split is_separator text ≡ text ∷ []
without_separator text piece = slice_split_none is_separator text (passes_over text piece)

-- the same of a part of the text from there on, and of the part before the separator
pub to_the_end : (text : List ℕ) (start end : ℕ) → end ≡ length text → slice_range text start end ≡ drop start text
to_the_end text start end e = grind (arith, length-drop start text, take-length)

pub cut_some : (text front last : List ℕ) (start end : ℕ) → IsLastStart text start → start ≢ 0
    → end ≡ length text → last ≡ slice_range text start end → front ≡ slice_range text 0 (start - 1)
    → slice_split is_separator text ≡ slice_split is_separator front ++ last ∷ []
cut_some text front last start end is some ends cut before = grind (arith, common_steps, with_separator, to_the_end)

-- what stands before a name has no slash
kept : (front name : List ℕ) → IsPlain front → with_separators (front ++ name) ≡ front ++ with_separators name
kept front name plain = grind (arith, map-append, with_separators-plain)

renamed_by : (old name : List ℕ) (start : ℕ) (last : Option (List ℕ)) → last_or None (components_of old) ≡ last → StartsName old start last
    → IsPlain old → IsRenamed old (with_separators (take start old ++ name)) name
renamed_by old name start None is starts plain = grind (arith, common_steps, take-length, kept)
renamed_by old name start (Some component) is starts plain = grind (arith, common_steps, take-append-drop, kept, All-take)

pub renamed : (old name : List ℕ) (start : ℕ) → StartsName old start (last_or None (components_of old)) → IsPlain old
    → IsRenamed old (with_separators (take start old ++ name)) name
renamed old name start starts plain = renamed_by old name start (last_or None (components_of old)) refl starts plain

-- what stands before the dot that ends a stem is the stem after what stands before the name
pub extended : (old units name extension : List ℕ) (start end len : ℕ) → units ≡ old → Some (drop start units) ≡ last_or None (components_of units)
    → name ≡ slice_range units start end → end ≡ length units → IsStem (Some name) (Some (take len name)) → IsPlain old
    → IsExtended old (with_separators (take (start + len) old ++ dotted extension)) extension
extended old units name extension start end len same last cut ends stem plain =
    let rest : name ≡ drop start old = cut ∙ to_the_end units start end ends ∙ ap (drop start) same in
    record {
      front = take start old;
      name = name;
      stem = take len name;
      ends = grind (arith, take-append-drop, rest);
      is_stem = stem;
      after =
          kept (take (start + len) old) (dotted extension) (All-take (λ unit. unit ≢ slash) (start + len) old plain)
          ∙ ap (λ us. us ++ with_separators (dotted extension)) (take-add start len old ∙ ap (λ us. take start old ++ take len us) (sym rest));
    }

-- a piece after a separator, and what stands before that
with_last : (us vs : List ℕ) → us ≢ [] → IsPiece vs
    → components_of (us ++ separator ∷ vs) ≡ slice_split is_separator (canonical us) ++ vs ∷ []
with_last [] vs some piece = absurd (some refl)
with_last (u ∷ us) vs some piece =
    grind (arith, common_steps, cases_Bool (is_separator u), last_piece us vs piece, last_piece (u ∷ us) vs piece)

-- the components of a text with a separator after its first unit
module _ (text : List ℕ) (start : ℕ) (is : IsLastStart text start) (more : 1 < start) where
  abbrev others : List (List ℕ)
  others = slice_split is_separator (canonical (take (start - 1) text))

  with_others : components_of text ≡ others ++ drop start text ∷ []
  with_others = grind (arith, length-take (start - 1) text, around text start is (omega arith), with_last)

  but_last : all_but_last (components_of text) ≡ others
  but_last = ap all_but_last with_others ∙ all_but_last-push others (drop start text)

  pub joined_others : canonical (take (start - 1) text) ≡ joined (all_but_last (components_of text))
  joined_others = sym (ap joined but_last ∙ join_with_byte-slice_split separator (canonical (take (start - 1) text)))

  pub some_others : all_but_last (components_of text) ≢ []
  some_others e = slice_split-non_empty (canonical (take (start - 1) text)) (sym but_last ∙ e)

  -- the others of a valid path are the parent
  pub valid_others : IsValid text → parent_text text ≡ Some (canonical (take (start - 1) text))
  valid_others valid =
      let good = valid-components text ((valid_unrefused text).0 valid) in
      let count = ap length with_others ∙ length-append others (drop start text ∷ []) in
      let many = some_slice_split (canonical (take (start - 1) text)) in
      parent_of_components-good (components_of text) good (omega (arith, count, many)) ∙ ap Some (sym joined_others)

  last_of_several : last_or None (components_of text) ≡ Some (drop start text)
  last_of_several = ap (last_or None) with_others ∙ last_or-push None others (drop start text)

-- those of any other text
module _ (text : List ℕ) (start : ℕ) (is : IsLastStart text start) (few : start ≤ 1) where
  no_others : components_of text ≡ pieces_between (drop start text)
  no_others = grind arith

  pub none_before : all_but_last (components_of text) ≡ []
  none_before = ap all_but_last no_others ∙ of_piece (drop start text) is.piece
    where
      of_piece : (vs : List ℕ) → IsPiece vs → all_but_last (pieces_between vs) ≡ []
      of_piece [] piece = refl
      of_piece (v ∷ vs) piece = ap all_but_last (without_separator (v ∷ vs) piece)

-- the last component, unless there is none
pub last_name : (text : List ℕ) (start : ℕ) → IsLastStart text start → (start ≢ length text) ⊎ (1 < start)
    → last_or None (components_of text) ≡ Some (drop start text)
last_name text start is (inr more) = last_of_several text start is more
last_name text start is (inl not_all) =
    let last = drop start text in
    elim (cases_lt 1 start) [
      | inl more ↦ last_of_several text start is more
      | inr few ↦
          let some : last ≢ [] = λ e. let l = ap length e in not_all (omega (arith, length-drop start text, is.within)) in
          ap (last_or None)
          (no_others text start is (omega (arith, few)) ∙ pieces_between-some last some ∙ without_separator last is.piece)
    ]

-- Names that are cut at their last dot.

pub no_extension : (name : List ℕ) → ((k : ℕ) → 0 < k → k < length name → get_or name k 0 ≢ 46) → HasNoExtension name
no_extension [] none = inl (λ k d inside is. omega (arith, inside))
no_extension (c ∷ cs) none = inl (λ k d inside is. none (suc k) (omega arith) (omega (arith, inside)) (get_or_default cs k 0 d inside ∙ is))

pub named : (name : List ℕ) (dot : ℕ) → 0 < dot → dot < length name → get_or name dot 0 ≡ 46
    → ((k : ℕ) → dot < k → k < length name → get_or name k 0 ≢ 46) → name ≢ dot_dot → IsNamed name (take dot name) (drop (dot + 1) name)
named name dot positive inside is none other =
    let next : drop dot name ≡ get_or name dot 0 ∷ drop (dot + 1) name = rw (add-one, drop-cons name dot 0) in
    record {
      whole = sym (take-append-drop dot name) ∙ ap (λ us. take dot name ++ us) (next ∙ ap (λ c. c ∷ drop (dot + 1) name) is);
      some_stem = λ e. omega (arith, ap length e, length-take-le dot name (omega arith), positive);
      last_dot = grind (arith, length-drop, get_or-drop, get_or_default);
      other = other;
    }

-- units that hold a dot
holds_dot : (units more : List ℕ) → HasNoDot (units ++ 46 ∷ more) → ⊥
holds_dot units more none = none (length units) 0 (omega (arith, length-append units (46 ∷ more))) (get_or-append_seam units 46 more 0)

cut_once : (stem extension other after : List ℕ) → HasNoDot extension → HasNoDot after → stem ++ 46 ∷ extension ≡ other ++ 46 ∷ after
    → (stem ≡ other) × (extension ≡ after)
cut_once [] extension [] after none no_other e = (λ i. [], cc)
cut_once [] extension (d ∷ ds) after none no_other e = let is : extension ≡ ds ++ 46 ∷ after = cc in absurd (holds_dot ds after (subst HasNoDot is none))
cut_once (c ∷ cs) extension [] after none no_other e = let is : after ≡ cs ++ 46 ∷ extension = cc in absurd (holds_dot cs extension (subst HasNoDot is no_other))
cut_once (c ∷ cs) extension (d ∷ ds) after none no_other e =
    let first : c ≡ d = cc in
    let tails : cs ++ 46 ∷ extension ≡ ds ++ 46 ∷ after = cc in
    let both = cut_once cs extension ds after none no_other tails in
    (λ i. first i ∷ both.0 i, both.1)

pub named_once : (name stem extension other after : List ℕ) → IsNamed name stem extension → IsNamed name other after → (stem ≡ other) × (extension ≡ after)
named_once name stem extension other after n m = cut_once stem extension other after n.last_dot m.last_dot (sym n.whole ∙ m.whole)

named_apart : (stem extension : List ℕ) → stem ≢ [] → HasNoDot (drop 1 (stem ++ 46 ∷ extension)) → ⊥
named_apart [] extension some none = some (λ i. [])
named_apart (c ∷ cs) extension some none = holds_dot cs extension none

pub named_or_not : (name stem extension : List ℕ) → IsNamed name stem extension → HasNoExtension name → ⊥
named_or_not name stem extension h1 h2 = grind (arith, named_apart)
