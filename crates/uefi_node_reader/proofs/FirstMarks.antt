-- The first of some bytes in a text, as an index and as the rest of the text.
use Rattle.std.proofs.Common.{◌≡◌, ℕ, suc, ◌+◌, ◌<◌, ◌≤◌, ◌∙◌, Bool, true, false, cond, eqb, not, ◌||◌, List, [], ◌∷◌, length, drop, take, refl, ap, arith}
use Rattle.std.proofs.lemmas.Bool.{lt-ltb, le-ltb}
use Rattle.std.specs.List.{list_any, position_or_len}
use Rattle.std.specs.Prelude.{◌==◌, ◌&&◌, Option, Some, None, is_some}
use Rattle.std.specs.Option.{option_map, option_or}
use Rattle.uefi_node_reader.specs.LenientCalls.{cut_call, from_mark}
use Rattle.uefi_node_reader.specs.LenientNodes.{closes_node, closing, file_end, name_end, opened}
use Rattle.uefi_node_reader.specs.NamedFiles.{ends_name}

abbrev pub first_place : ℕ → List ℕ → ℕ
first_place mark text = position_or_len (λ (c : ℕ). eqb c mark) text

pub from_mark-some : (mark : ℕ) (text rest : List ℕ) → from_mark mark text ≡ Some rest
    → (rest ≡ drop (first_place mark text) text) × (first_place mark text < length text)
from_mark-some mark [] rest e = cc
from_mark-some mark (c ∷ cs) rest e = by (eqb c mark) e (from_mark-some mark cs rest)
  where
    by : (b : Bool) → cond b (Some (c ∷ cs)) (from_mark mark cs) ≡ Some rest
        → (from_mark mark cs ≡ Some rest → (rest ≡ drop (first_place mark cs) cs) × (first_place mark cs < length cs))
        → (rest ≡ drop (cond (not b) (1 + first_place mark cs) 0) (c ∷ cs)) × (cond (not b) (1 + first_place mark cs) 0 < length (c ∷ cs))
    by true e h = let same : rest ≡ c ∷ cs = cc in (same, omega arith)
    by false e h =
        let later = h e in
        let next : 1 + first_place mark cs ≡ suc (first_place mark cs) = omega arith in
        (rw next later.0, omega (arith, later.1))

pub from_mark-none : (mark : ℕ) (text : List ℕ) → from_mark mark text ≡ None → length text ≤ first_place mark text
from_mark-none mark [] e = omega arith
from_mark-none mark (c ∷ cs) e = by (eqb c mark) e (from_mark-none mark cs)
  where
    by : (b : Bool) → cond b (Some (c ∷ cs)) (from_mark mark cs) ≡ None
        → (from_mark mark cs ≡ None → length cs ≤ first_place mark cs)
        → length (c ∷ cs) ≤ cond (not b) (1 + first_place mark cs) 0
    by true e h = cc
    by false e h = let later = h e in omega arith

abbrev pub cut_at : List ℕ → Option ℕ → Option (List ℕ × List ℕ)
cut_at text place = option_map (λ (p : ℕ). (take p text, drop (p + 1) text)) place

-- a text without the mark is not cut
pub cut_call-none : (text : List ℕ) → from_mark 41 text ≡ None → cut_call text ≡ None
cut_call-none text e =
    ap (λ (b : Bool). cut_at text (cond b (Some (first_place 41 text)) None)) (le-ltb (first_place 41 text) (length text) (from_mark-none 41 text e))

-- one with the mark is cut there
pub cut_call-some : (text rest : List ℕ) → from_mark 41 text ≡ Some rest
    → cut_call text ≡ Some (take (first_place 41 text) text, drop (first_place 41 text + 1) text)
cut_call-some text rest e =
    ap (λ (b : Bool). cut_at text (cond b (Some (first_place 41 text)) None)) (lt-ltb (first_place 41 text) (length text) (from_mark-some 41 text rest e).1)

pub has_mark-any : (mark : ℕ) (text : List ℕ) → is_some (from_mark mark text) ≡ list_any (λ (c : ℕ). eqb c mark) text
has_mark-any mark [] = refl
has_mark-any mark (c ∷ cs) = by (eqb c mark) (has_mark-any mark cs)
  where
    by : (b : Bool) → is_some (from_mark mark cs) ≡ list_any (λ (c : ℕ). eqb c mark) cs
        → is_some (cond b (Some (c ∷ cs)) (from_mark mark cs)) ≡ b || list_any (λ (c : ℕ). eqb c mark) cs
    by true h = refl
    by false h = h

-- the end of a name lies in its text
pub name_end-within : (text : List ℕ) (place : ℕ) → name_end text ≡ Some place → place < length text
name_end-within [] place e = cc
name_end-within (c ∷ cs) place e = by (closes_node (c ∷ cs)) (name_end cs) e (name_end-within cs)
  where
    by : (b : Bool) (o : Option ℕ) → cond b (Some 0) (option_map (λ (p : ℕ). p + 1) o) ≡ Some place
        → ((p : ℕ) → o ≡ Some p → p < length cs) → place < length (c ∷ cs)
    by true o e h = let same : 0 ≡ place = cc in omega arith
    by false None e h = cc
    by false (Some p) e h = let same : p + 1 ≡ place = cc in omega (arith, h p refl)

pub closing-within : (depth : ℕ) (text : List ℕ) (place : ℕ) → closing depth text ≡ Some place → place < length text
closing-within depth [] place e = cc
closing-within depth (c ∷ cs) place e =
    by ((c == 41) && (depth == 0)) (ends_name c) (closing (opened depth c) cs) e (closing-within (opened depth c) cs)
  where
    by : (a b : Bool) (o : Option ℕ) → cond a (Some 0) (cond b None (option_map (λ (p : ℕ). p + 1) o)) ≡ Some place
        → ((p : ℕ) → o ≡ Some p → p < length cs) → place < length (c ∷ cs)
    by true b o e h = let same : 0 ≡ place = cc in omega arith
    by false true o e h = cc
    by false false None e h = cc
    by false false (Some p) e h = let same : p + 1 ≡ place = cc in omega (arith, h p refl)

file_end-within : (text : List ℕ) (place : ℕ) → file_end text ≡ Some place → place < length text
file_end-within text place e = by (name_end text) refl e
  where
    by : (o : Option ℕ) → name_end text ≡ o → option_or o (closing 0 text) ≡ Some place → place < length text
    by None p e = closing-within 0 text place e
    by (Some q) p e = name_end-within text place (p ∙ e)

pub is_some-map : {A B : Type 0} (f : A → B) (o : Option A) → is_some (option_map f o) ≡ is_some o
is_some-map f None = refl
is_some-map f (Some x) = refl

-- the `)` that ends a name in `File(..)`
pub file_end-some : (text rest : List ℕ) → option_map (λ (p : ℕ). drop p text) (file_end text) ≡ Some rest
    → (place : ℕ) × (file_end text ≡ Some place) × (rest ≡ drop place text) × (place < length text)
file_end-some text rest e = by (file_end text) refl e
  where
    by : (o : Option ℕ) → file_end text ≡ o → option_map (λ (p : ℕ). drop p text) o ≡ Some rest
        → (place : ℕ) × (file_end text ≡ Some place) × (rest ≡ drop place text) × (place < length text)
    by None n e = absurd cc
    by (Some p) n e = let same : rest ≡ drop p text = cc in (p, n, same, file_end-within text p n)
