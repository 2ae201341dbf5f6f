-- Data that is filled from the values of steps, and the values that lie in it then.
use Rattle.std.proofs.Common.{◌≡◌, ℕ, ◌+◌, ◌-◌, ◌≤◌, Bool, true, false, leb, List, [], ◌∷◌, ◌++◌, ◌||◌, length, take, drop, refl, sym, ap, ◌∙◌, arith, length-append, length-drop}
use Rattle.std.specs.Prelude.{map, slice_range}
use Rattle.std.specs.List.{list_all}
use Rattle.std.proofs.lemmas.Bool.{and_parts, leb-true}
use Rattle.std.proofs.lemmas.List.{length-take}
use Rattle.std.proofs.lemmas.Slice.{between_is, between-put_mid, drop-put_mid, take-put_mid_below}
use Rattle.uefi_node_steps.specs.Leaves.{Leaf}
use Rattle.uefi_node_steps.specs.Steps.{FitSteps, IsTold, Laid, Parts, Step, are_apart, blank, is_apart, is_sound_step, laid_leaf, part_of, put_part, put_parts, steps_leaf}
use Rattle.uefi_node_steps.specs.declared.steps.Field.{Field as FieldOf}
use Rattle.uefi_node_steps.specs.declared.steps.StepOf.TheVariants.{Literal, Field, Data, Many}
use Rattle.uefi_node_steps.proofs.Combinations.{Keeps, mapped_keeps}

-- bytes at the place of a field
abbrev pub put : FieldOf → List ℕ → List ℕ → List ℕ
put f bytes content = take f.place content ++ (bytes ++ drop f.width (drop f.place content))

abbrev at : FieldOf → List ℕ → List ℕ
at f content = slice_range content f.place (f.place + f.width)

length-put : (f : FieldOf) (bytes content : List ℕ) → length bytes ≡ f.width → f.place + f.width ≤ length content
    → length (put f bytes content) ≡ length content
length-put f bytes content w l =
    let a = length-append (take f.place content) (bytes ++ drop f.width (drop f.place content)) in
    let b = length-append bytes (drop f.width (drop f.place content)) in
    let c = length-drop f.width (drop f.place content) in
    let d = length-drop f.place content in
    let e = length-take f.place content in omega arith

put_other : (g f : FieldOf) (bytes content : List ℕ) → leb (g.place + g.width) f.place || leb (f.place + f.width) g.place ≡ true
    → length bytes ≡ f.width → f.place + f.width ≤ length content → at g (put f bytes content) ≡ at g content
put_other g f bytes content e w l = by (leb (g.place + g.width) f.place) refl e
  where
    by : (b : Bool) → leb (g.place + g.width) f.place ≡ b → b || leb (f.place + f.width) g.place ≡ true → at g (put f bytes content) ≡ at g content
    by true h i =
        let before = leb-true _ _ h in
        between_is (put f bytes content) g.place (g.place + g.width)
        ∙ ap (λ (x : List ℕ). drop g.place x) (take-put_mid_below f.place f.width content bytes (g.place + g.width) before (omega arith))
        ∙ sym (between_is content g.place (g.place + g.width))
    by false h i = ap (λ (x : List ℕ). take (g.place + g.width - g.place) x)
        (drop-put_mid f.place f.width content bytes g.place (leb-true _ _ i) (omega arith) w)

-- what is used of the values of a step: how long they are
abbrev pub Sized : Step → List ℕ → Type 0
Sized (Literal letters) v = v ≡ []
Sized (Field f) v = length v ≡ f.width
Sized step v = Unit {0}

module _ (fits : Step → List ℕ → Type 0) (sized : (step : Step) (v : List ℕ) → fits step v → Sized step v) (size : ℕ) where
  within : (f : FieldOf) → is_sound_step size (Field f) ≡ true → f.place + f.width ≤ size
  within f s = leb-true _ _ (and_parts _ _ s).0

  -- the value of a step lies where it was put, and the others where they were
  pub put_part_size : (step : Step) (v : List ℕ) (data_ : Parts) → is_sound_step size step ≡ true → Sized step v → length data_.0 ≡ size
      → length (put_part step v data_).0 ≡ size
  put_part_size (Literal letters) v data_ s f l = l
  put_part_size (Field f) v data_ s w l = length-put f v data_.0 w (omega (arith, within f s)) ∙ l
  put_part_size (Data encoding) v data_ s f l = l
  put_part_size (Many items) v data_ s f l = l

  pub put_size : (steps : List Step) (vs : List (List ℕ)) (data_ : Parts) → list_all (is_sound_step size) steps ≡ true → FitSteps fits steps vs → length data_.0 ≡ size
      → length (put_parts steps vs data_).0 ≡ size
  put_size [] vs data_ s f l = l
  put_size (step ∷ steps) [] data_ s f l = l
  put_size (step ∷ steps) (v ∷ vs) data_ s f l =
      let ss = and_parts (is_sound_step size step) (list_all (is_sound_step size) steps) s in
      put_size steps vs (put_part step v data_) ss.1 f.1 (put_part_size step v data_ ss.0 (sized step v f.0) l)

  put_same : (step : Step) (v : List ℕ) (data_ : Parts) → is_sound_step size step ≡ true → Sized step v → length data_.0 ≡ size
      → part_of (put_part step v data_) step ≡ v
  put_same (Literal letters) v data_ s f l = sym f
  put_same (Field f) v data_ s w l =
      between-put_mid f.place f.width data_.0 v (f.place + f.width) (omega (arith, within f s)) (omega arith)
  put_same (Data encoding) v data_ s f l = refl
  put_same (Many items) v data_ s f l = refl

  put_apart : (other step : Step) (v : List ℕ) (data_ : Parts) → is_apart other step ≡ true → is_sound_step size step ≡ true → Sized step v
      → length data_.0 ≡ size → part_of (put_part step v data_) other ≡ part_of data_ other
  put_apart other (Literal letters) v data_ a s f l = refl
  put_apart (Field g) (Field f) v data_ a s w l = put_other g f v data_.0 a w (omega (arith, within f s))
  put_apart (Literal letters) step v data_ a s f l = refl
  put_apart (Data encoding) (Field f) v data_ a s w l = refl
  put_apart (Many items) (Field f) v data_ a s w l = refl
  put_apart (Field g) (Data encoding) v data_ a s w l = refl
  put_apart (Field g) (Many items) v data_ a s w l = refl
  put_apart (Data encoding) (Data other) v data_ a s w l = cc
  put_apart (Data encoding) (Many items) v data_ a s w l = cc
  put_apart (Many items) (Data encoding) v data_ a s w l = cc
  put_apart (Many items) (Many others) v data_ a s w l = cc

  kept : (other : Step) (steps : List Step) (vs : List (List ℕ)) (data_ : Parts) → list_all (is_apart other) steps ≡ true
      → list_all (is_sound_step size) steps ≡ true → FitSteps fits steps vs → length data_.0 ≡ size
      → part_of (put_parts steps vs data_) other ≡ part_of data_ other
  kept other [] vs data_ a s f l = refl
  kept other (step ∷ steps) [] data_ a s f l = absurd f
  kept other (step ∷ steps) (v ∷ vs) data_ a s f l =
      let sides = and_parts (is_apart other step) (list_all (is_apart other) steps) a in
      let ss = and_parts (is_sound_step size step) (list_all (is_sound_step size) steps) s in
      kept other steps vs (put_part step v data_) sides.1 ss.1 f.1 (put_part_size step v data_ ss.0 (sized step v f.0) l)
      ∙ put_apart other step v data_ sides.0 ss.0 (sized step v f.0) l

  -- the values of steps lie in data that they were put into
  pub parts_put : (steps : List Step) (vs : List (List ℕ)) (data_ : Parts) → are_apart steps ≡ true → list_all (is_sound_step size) steps ≡ true
      → FitSteps fits steps vs → length data_.0 ≡ size → map (part_of (put_parts steps vs data_)) steps ≡ vs
  parts_put [] vs data_ a s f l = sym f
  parts_put (step ∷ steps) [] data_ a s f l = absurd f
  parts_put (step ∷ steps) (v ∷ vs) data_ a s f l =
      let sides = and_parts (list_all (is_apart step) steps) (are_apart steps) a in
      let ss = and_parts (is_sound_step size step) (list_all (is_sound_step size) steps) s in
      let long = put_part_size step v data_ ss.0 (sized step v f.0) l in
      let first = kept step steps vs (put_part step v data_) sides.0 ss.1 f.1 long ∙ put_same step v data_ ss.0 (sized step v f.0) l in
      let others = parts_put steps vs (put_part step v data_) sides.1 ss.1 f.1 long in
      λ i. first i ∷ others i

-- data and its text, given the laws of its steps
module _ (leaf : Step → Leaf (List ℕ)) (fits : Step → List ℕ → Type 0) (sized : (step : Step) (v : List ℕ) → fits step v → Sized step v)
    (ends : List ℕ → Bool) (laid : Laid) (keeps : Keeps (steps_leaf leaf laid.steps) (FitSteps fits laid.steps) ends)
    (apart : are_apart laid.steps ≡ true) (sound : list_all (is_sound_step laid.size) laid.steps ≡ true)
    (long : length (blank laid).0 ≡ laid.size) where
  values : (vs : List (List ℕ)) → FitSteps fits laid.steps vs → map (part_of (put_parts laid.steps vs (blank laid))) laid.steps ≡ vs
  values vs f = parts_put fits sized laid.size laid.steps vs (blank laid) apart sound f long

  told : (vs : List (List ℕ)) → FitSteps fits laid.steps vs → IsTold fits laid (put_parts laid.steps vs (blank laid))
  told vs f = record {
    parts = rw (values vs f) f;
    whole = ap (λ x. put_parts laid.steps x (blank laid)) (values vs f);
  }

  pub laid_keeps : Keeps (laid_leaf leaf laid) (IsTold fits laid) ends
  laid_keeps = mapped_keeps (λ vs. put_parts laid.steps vs (blank laid)) (λ data_. map (part_of data_) laid.steps) (steps_leaf leaf laid.steps)
      (FitSteps fits laid.steps) (IsTold fits laid) ends keeps (λ vs f. (told vs f, values vs f)) (λ data_ f. (f.parts, f.whole))
