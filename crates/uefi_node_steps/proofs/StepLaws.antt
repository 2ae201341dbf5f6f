-- Steps that are read one after the other.
use Rattle.std.proofs.Common.{◌≡◌, ℕ, true, cond, eqb, Bool, List, [], ◌∷◌, ◌++◌, refl, sym, append_assoc, subst}
use borrow.Author.Tests.{eqb-true}
use Rattle.std.specs.List.{list_all}
use Rattle.std.specs.Prelude.{codes}
use Rattle.std.proofs.lemmas.Bool.{and_parts}
use Rattle.uefi_device_nodes.specs.FieldTexts.{comma_bytes}
use Rattle.uefi_node_steps.specs.Leaves.{ByteLeaf, Bytes, Class, Clear, Nobody, Number, ends_at}
use Rattle.uefi_node_steps.specs.Steps.{FitSteps, FitsStep, Step, class_of, ends_all, follow, is_closed, is_empty, is_sound_step, step_leaf, steps_leaf}
use Rattle.uefi_node_steps.specs.declared.steps.Encoding.TheVariants as encoding
use Rattle.uefi_node_steps.specs.declared.steps.Items.{Items}
use Rattle.uefi_node_steps.specs.declared.steps.StepOf.TheVariants.{Literal, Field, Data, Many}
use Rattle.uefi_node_steps.proofs.Combinations.{Keeps, both_keeps, nothing_keeps}

-- a text that is empty or begins with a comma
abbrev pub IsBehindComma : List ℕ → Type 0
IsBehindComma [] = Unit {0}
IsBehindComma (c ∷ cs) = eqb c 44 ≡ true

pub closed_ends : (class : Class) (text : List ℕ) → is_closed class ≡ true → ends_at class text ≡ true
closed_ends Nobody text e = refl
closed_ends Number text e = cc
closed_ends Bytes text e = cc
closed_ends (Clear stop) text e = cc

pub first_ends : (class : Class) (c : ℕ) (cs ds : List ℕ) → ends_at class (c ∷ cs) ≡ true → ends_at class (c ∷ ds) ≡ true
first_ends Nobody c cs ds e = e
first_ends Number c cs ds e = e
first_ends Bytes c cs ds e = e
first_ends (Clear stop) c cs ds e = e

comma_ends : (class : Class) (text rest : List ℕ) → IsBehindComma text → ends_at class (codes ",") ≡ true → ends_at class rest ≡ true
    → ends_at class (text ++ rest) ≡ true
comma_ends class [] rest b e f = f
comma_ends class (c ∷ cs) rest b e f = subst (λ (c : ℕ). ends_at class (c ∷ (cs ++ rest)) ≡ true) (sym (eqb-true c 44 b)) (first_ends class 44 [] _ e)

comma_behind : (v : List ℕ) → IsBehindComma (comma_bytes v)
unfolding comma_bytes
comma_behind [] = tt
comma_behind (byte ∷ bytes) = refl

-- steps, given what ends the last of them
module _ (lists : Items → ByteLeaf) (fits : Items → List ℕ → Type 0) (size : ℕ)
    (keeps : (step : Step) → is_sound_step size step ≡ true → Keeps (step_leaf lists step) (FitsStep fits step) (ends_at (class_of step)))
    (commas : (items : Items) (v : List ℕ) → fits items v → IsBehindComma ((lists items).text v))
    (last : Class → Bool) (ends : List ℕ → Bool) (final : (class : Class) (rest : List ℕ) → last class ≡ true → ends rest ≡ true → ends_at class rest ≡ true) where
  pub follows : (class : Class) (steps : List Step) (vs : List (List ℕ)) (rest : List ℕ) → FitSteps (FitsStep fits) steps vs → follow last class steps ≡ true → ends rest ≡ true
      → ends_at class ((steps_leaf (step_leaf lists) steps).text vs ++ rest) ≡ true
  follows class [] vs rest f e r = final class rest e r
  follows class (step ∷ steps) [] rest f e r = absurd f
  follows class (Literal letters ∷ steps) (v ∷ vs) rest f e r = by letters.now e (λ e. follows class steps vs rest f.1 e r)
    where
      by : (text : List ℕ) → cond (is_empty text) (follow last class steps) (ends_at class text) ≡ true
          → (follow last class steps ≡ true → ends_at class ((steps_leaf (step_leaf lists) steps).text vs ++ rest) ≡ true)
          → ends_at class ((text ++ (steps_leaf (step_leaf lists) steps).text vs) ++ rest) ≡ true
      by [] e others = others e
      by (c ∷ cs) e others = first_ends class c cs _ e
  follows class (Field f ∷ steps) (v ∷ vs) rest g e r = closed_ends class _ e
  follows class (Data encoding.Bytes ∷ steps) (v ∷ vs) rest f e r = let parts = and_parts _ _ e in rw append_assoc (comma_ends class (comma_bytes v) _ (comma_behind v) parts.0
      (follows class steps vs rest f.1 parts.1 r))
  follows class (Data (encoding.Text stop) ∷ steps) (v ∷ vs) rest g e r = closed_ends class _ e
  follows class (Data (encoding.Utf16 stop) ∷ steps) (v ∷ vs) rest g e r = closed_ends class _ e
  follows class (Data (encoding.Name stop) ∷ steps) (v ∷ vs) rest g e r = closed_ends class _ e
  follows class (Data (encoding.Padded stop) ∷ steps) (v ∷ vs) rest g e r = closed_ends class _ e
  follows class (Data (encoding.NameAfterComma stop) ∷ steps) (v ∷ vs) rest g e r = first_ends class 44 [] _ e
  follows class (Data (encoding.Ids stop) ∷ steps) (v ∷ vs) rest g e r = first_ends class 44 [] _ e
  follows class (Data (encoding.Uid stop) ∷ steps) (v ∷ vs) rest g e r = first_ends class 44 [] _ e
  follows class (Many items ∷ steps) (v ∷ vs) rest f e r = let parts = and_parts _ _ e in rw append_assoc (comma_ends class ((lists items).text v) _ (commas items v f.0) parts.0
      (follows class steps vs rest f.1 parts.1 r))

  pub steps_keep : (steps : List Step) → list_all (is_sound_step size) steps ≡ true → ends_all last steps ≡ true
      → Keeps (steps_leaf (step_leaf lists) steps) (FitSteps (FitsStep fits) steps) ends
  steps_keep [] s e = record { again = λ vs rest f r. nothing_keeps.again vs rest f refl; goes = nothing_keeps.goes }
  steps_keep (step ∷ steps) s e =
      let sound = and_parts (is_sound_step size step) (list_all (is_sound_step size) steps) s in
      let edges = and_parts (follow last (class_of step) steps) (ends_all last steps) e in
      both_keeps (step_leaf lists step) (steps_leaf (step_leaf lists) steps) (FitsStep fits step) (FitSteps (FitsStep fits) steps)
      (ends_at (class_of step)) ends ends (keeps step sound.0) (steps_keep steps sound.1 edges.1)
      (λ vs rest f r. follows (class_of step) steps vs rest f edges.0 r) (λ rest r. r)
