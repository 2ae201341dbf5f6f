-- The code reads data as its leaf does.
use Rattle.std.proofs.Common.{◌≡◌, ℕ, true, List, [], ◌∷◌, ◌++◌, refl, sym, ap, ◌∙◌}
use Rattle.std.proofs.lemmas.Bool.{and_parts}
use Rattle.std.proofs.Math.ListN.{replicate}
use Rattle.std.specs.List.{list_all}
use Rattle.std.specs.Prelude.{Ok, Err}
use Rattle.uefi_node_steps.specs.Leaves.{ByteLeaf, Read, ◌>>=◌}
use Rattle.uefi_node_steps.specs.Steps.{Laid, Parts, Step, are_apart, blank, is_apart, item_leaf, item_of, laid_leaf, no_list, put_part, put_parts, step_leaf, steps_leaf}
use Rattle.uefi_node_steps.specs.Views.{add_part, after_these, steps_in}
use Rattle.uefi_node_steps.specs.declared.steps.Items.{Items}
use Rattle.uefi_node_steps.specs.declared.steps.Items.TheVariants.{Numbers, Ipv4, Ipv6}
use Rattle.uefi_node_steps.specs.declared.steps.StepOf.TheVariants.{Literal, Field, Data, Many}

-- whether a step can be read into this data
abbrev Takes : Step → Parts → Type 0
Takes (Data encoding) data_ = data_.1 ≡ []
Takes (Many items) data_ = data_.1 ≡ []
Takes step data_ = Unit {0}

abbrev AllTake : List Step → Parts → Type 0
AllTake [] data_ = Unit {0}
AllTake (step ∷ steps) data_ = Takes step data_ × AllTake steps data_

added : (step : Step) (v : List ℕ) (data_ : Parts) → Takes step data_ → add_part step v data_ ≡ put_part step v data_
added (Literal letters) v data_ t = refl
added (Field f) v data_ t = refl
added (Data encoding) v data_ t = ap (λ (x : List ℕ). (data_.0, x ++ v)) t
added (Many items) v data_ t = ap (λ (x : List ℕ). (data_.0, x ++ v)) t

still : (step : Step) (v : List ℕ) (data_ : Parts) (steps : List Step) → list_all (is_apart step) steps ≡ true → AllTake steps data_ → AllTake steps (put_part step v data_)
still step v data_ [] a t = tt
still step v data_ (other ∷ steps) a t =
    let sides = and_parts (is_apart step other) (list_all (is_apart step) steps) a in (by step other sides.0 t.0, still step v data_ steps sides.1 t.1)
  where
    by : (step other : Step) → is_apart step other ≡ true → Takes other data_ → Takes other (put_part step v data_)
    by step (Literal letters) a t = tt
    by step (Field f) a t = tt
    by (Literal letters) (Data encoding) a t = t
    by (Literal letters) (Many items) a t = t
    by (Field f) (Data encoding) a t = t
    by (Field f) (Many items) a t = t
    by (Data one) (Data encoding) a t = cc
    by (Data one) (Many items) a t = cc
    by (Many one) (Data encoding) a t = cc
    by (Many one) (Many items) a t = cc

abbrev filled : List Step → Parts → Read (List (List ℕ)) → Read Parts
filled steps data_ r = r >>= λ vs. Ok (put_parts steps vs.0 data_, vs.1)

abbrev others : List ℕ → Read (List (List ℕ)) → Read (List (List ℕ))
others v r = r >>= λ vs. Ok (v ∷ vs.0, vs.1)

more : (step : Step) (steps : List Step) (data_ : Parts) (v : List ℕ) (r : Read (List (List ℕ))) → filled steps (put_part step v data_) r ≡ filled (step ∷ steps) data_ (others v r)
more step steps data_ v (Err stop) = refl
more step steps data_ v (Ok vs) = refl

abbrev read_into : Step → Parts → Read (List ℕ) → Read Parts
read_into step data_ r = r >>= λ v. Ok (add_part step v.0 data_, v.1)

module _ (lists : Items → ByteLeaf) where
  abbrev rest_of : List Step → List ℕ → Read (List (List ℕ))
  rest_of steps text = (steps_leaf (step_leaf lists) steps).read text

  one : (step : Step) (steps : List Step) (data_ : Parts) → Takes step data_
      → ((v rest : List ℕ) → steps_in lists steps (put_part step v data_) rest ≡ filled steps (put_part step v data_) (rest_of steps rest)) → (r : Read (List ℕ))
      → (read_into step data_ r >>= λ read. steps_in lists steps read.0 read.1) ≡ filled (step ∷ steps) data_ (r >>= λ v. others v.0 (rest_of steps v.1))
  one step steps data_ t h (Err stop) = refl
  one step steps data_ t h (Ok v) = ap (λ d. steps_in lists steps d v.1) (added step v.0 data_ t) ∙ h v.0 v.1 ∙ more step steps data_ v.0 (rest_of steps v.1)

  steps_are : (steps : List Step) (data_ : Parts) (text : List ℕ) → are_apart steps ≡ true → AllTake steps data_
      → steps_in lists steps data_ text ≡ filled steps data_ (rest_of steps text)
  steps_are [] data_ text a t = refl
  steps_are (step ∷ steps) data_ text a t =
      let sides = and_parts (list_all (is_apart step) steps) (are_apart steps) a in
      one step steps data_ t.0 (λ v rest. steps_are steps (put_part step v data_) rest sides.1 (still step v data_ steps sides.0 t.1)) ((step_leaf lists step).read text)

no_data : (steps : List Step) (fixed : List ℕ) → AllTake steps (fixed, [])
no_data [] fixed = tt
no_data (step ∷ steps) fixed = (by step, no_data steps fixed)
  where
    by : (step : Step) → Takes step (fixed, [])
    by (Literal letters) = tt
    by (Field f) = tt
    by (Data encoding) = refl
    by (Many items) = refl

-- what code reads for the fixed part of sound data and an empty tail
pub code_reads : (lists : Items → ByteLeaf) (laid : Laid) (text : List ℕ) → are_apart laid.steps ≡ true
    → steps_in lists laid.steps (blank laid) text ≡ (laid_leaf (step_leaf lists) laid).read text
code_reads lists laid text a = steps_are lists laid.steps (blank laid) text a (no_data laid.steps (blank laid).0)

-- what code reads for an item of a list, from zeros on
zeros : (items : Items) → blank (item_of items) ≡ (replicate (item_of items).size 0, [])
zeros Numbers = refl
zeros Ipv4 = refl
zeros Ipv6 = refl

apart : (items : Items) → are_apart (item_of items).steps ≡ true
apart Numbers = refl
apart Ipv4 = refl
apart Ipv6 = refl

pub item_read : (items : Items) (front text : List ℕ) (read : Read Parts) → read ≡ steps_in no_list (item_of items).steps (replicate (item_of items).size 0, []) text
    → after_these front (read >>= λ v. Ok (v.0.0, v.1)) ≡ after_these front ((item_leaf (item_of items)).read text)
item_read items front text read e =
    ap (λ r. after_these front (r >>= λ v. Ok (v.0.0, v.1)))
    (e ∙ ap (λ d. steps_in no_list (item_of items).steps d text) (sym (zeros items)) ∙ code_reads no_list (item_of items) text (apart items))
