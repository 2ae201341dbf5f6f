-- The laws of lists of items.
use Rattle.std.proofs.Common.{◌≡◌, ℕ, suc, ◌+◌, ◌*◌, ◌/◌, ◌<◌, Bool, true, eqb, List, [], ◌∷◌, ◌++◌, ◌&&◌, length, take, drop, map, refl, sym, ap, subst, ◌∙◌, arith, length-append}
use Rattle.std.proofs.lemmas.Bool.{and_parts}
use Rattle.std.specs.List.{concat, list_all}
use Rattle.std.specs.Prelude.{nat_lt, Ok}
use Rattle.std.specs.Simd.{first_chunks}
use Rattle.std.proofs.Math.Nat.{mul-div_left}
use Rattle.std.proofs.lemmas.List.{drop_at, take_at}
use borrow.Author.Tests.{eqb-true, ltb-true}
use Rattle.uefi_node_steps.specs.Leaves.{ByteLeaf, Bytes, Class, Clear, Each, Nobody, Number, ends_at, first_of, has_comma, many, many_text}
use Rattle.uefi_node_steps.specs.Steps.{FitsItem, FitsList, FitsLists, FitsNoList, FitsShape, FitsStep, IsTold, Laid, Parts, Step, are_apart, begin_with_comma, blank, chunks, ends_all, is_flat, is_numeric, is_sound, is_sound_item, is_sound_step, item_leaf, item_of, laid_leaf, list_leaf, lists, no_list, part_of, put_part, put_parts, step_leaf, steps_leaf}
use Rattle.uefi_node_steps.specs.declared.steps.Items.{Items}
use Rattle.uefi_node_steps.specs.declared.steps.Items.TheVariants.{Numbers, Ipv4 as Ipv4Items, Ipv6 as Ipv6Items}
use Rattle.uefi_node_steps.specs.declared.steps.Shape.{Shape}
use Rattle.uefi_node_steps.specs.declared.steps.Shape.TheVariants.{Hexadecimal, Marked, Decimal, OrDefault, Next, Forth, Back, BaseForth, BaseBack, Apart, Dashed, Guid, Ipv4, Ipv6, Eisa, Word}
use Rattle.uefi_node_steps.specs.declared.steps.StepOf.TheVariants.{Literal, Field, Data, Many}
use Rattle.uefi_node_steps.proofs.DataLaws.{bytes_end, no_comma}
use Rattle.uefi_node_steps.proofs.FieldLaws.{step_keeps}
use Rattle.uefi_node_steps.proofs.Combinations.{Keeps, mapped_keeps}
use Rattle.uefi_node_steps.proofs.Layouts.{Sized, laid_keeps, put_size}
use Rattle.uefi_node_steps.proofs.Lists.{Tests, many_keeps}
use Rattle.uefi_node_steps.proofs.StepLaws.{IsBehindComma, steps_keep}

-- items of one size, from their bytes
module _ (size : ℕ) (some : 0 < size) where
  abbrev OfSize : List ℕ → Type 0
  OfSize item = length item ≡ size

  chunked : (items : List (List ℕ)) → Each OfSize items → first_chunks size (length items) (concat items) ≡ items
  chunked [] f = refl
  chunked (item ∷ items) f =
      let first : take size (item ++ concat items) ≡ item = take_at item (concat items) size f.0 in
      let rest : drop size (item ++ concat items) ≡ concat items = drop_at item (concat items) size f.0 in
      rw (first, rest) (ap (λ (l : List (List ℕ)). item ∷ l) (chunked items f.1))

  counted : (items : List (List ℕ)) → Each OfSize items → length (concat items) ≡ length items * size
  counted [] f = omega arith
  counted (item ∷ items) f =
      let more : suc (length items) * size ≡ size + length items * size = grind arith in
      omega (arith, more, f.0, counted items f.1, length-append item (concat items))

  chunks_are : (items : List (List ℕ)) → Each OfSize items → chunks size (concat items) ≡ items
  chunks_are items f = ap (λ (n : ℕ). first_chunks size n (concat items)) (ap (λ (n : ℕ). n / size) (counted items f) ∙ mul-div_left (length items) some) ∙ chunked items f

-- how long the values of steps are
pub sized : (lists : Items → List ℕ → Type 0) (step : Step) (v : List ℕ) → FitsStep lists step v → Sized step v
sized lists (Literal letters) v f = f
sized lists (Field f) v g = by f.shape g
  where
    by : (shape : Shape) → FitsShape shape f.width v → length v ≡ f.width
    by Hexadecimal g = g.0
    by Marked g = g.0
    by Decimal g = g.0
    by OrDefault g = g.0
    by Next g = g.0
    by Forth g = g.0
    by Back g = g.0
    by BaseForth g = g.0
    by BaseBack g = g.0
    by (Apart letter) g = g.0
    by Dashed g = g.0
    by Guid g = g.0
    by Ipv4 g = g.0
    by Ipv6 g = g.0
    by Eisa g = g.0.0
    by (Word words) g = g.0.0
sized lists (Data encoding) v f = tt
sized lists (Many items) v f = tt

-- flat steps have no data after the fixed part
flat_tail : (steps : List Step) (vs : List (List ℕ)) (data_ : Parts) → list_all is_flat steps ≡ true → (put_parts steps vs data_).1 ≡ data_.1
flat_tail [] vs data_ f = refl
flat_tail (step ∷ steps) [] data_ f = refl
flat_tail (Literal letters ∷ steps) (v ∷ vs) data_ f = flat_tail steps vs data_ f
flat_tail (Field g ∷ steps) (v ∷ vs) data_ f = flat_tail steps vs (put_part (Field g) v data_) f
flat_tail (Data encoding ∷ steps) (v ∷ vs) data_ f = cc
flat_tail (Many items ∷ steps) (v ∷ vs) data_ f = cc

-- texts that begin with a comma
abbrev starts : List ℕ → Type 0
starts text = eqb (first_of text) 44 ≡ true

comma_is : (P : List ℕ → Type 0) (text : List ℕ) → starts text → ((cs : List ℕ) → P (44 ∷ cs)) → P text
comma_is P [] e h = cc
comma_is P (c ∷ cs) e h = subst (λ (c : ℕ). P (c ∷ cs)) (sym (eqb-true c 44 e)) (h cs)

comma_before : (text rest : List ℕ) → starts text → starts (text ++ rest)
comma_before [] rest e = cc
comma_before (c ∷ cs) rest e = e

comma_first : (data_ : Parts) (steps : List Step) → begin_with_comma steps ≡ true → starts ((steps_leaf (step_leaf no_list) steps).text (map (part_of data_) steps))
comma_first data_ [] e = cc
comma_first data_ (Literal letters ∷ steps) e = comma_before letters.now _ e
comma_first data_ (Field f ∷ steps) e = cc
comma_first data_ (Data encoding ∷ steps) e = cc
comma_first data_ (Many items ∷ steps) e = cc

no_list_keeps : (items : Items) → Keeps (no_list items) (FitsNoList items) (ends_at Bytes)
no_list_keeps items = record {
  again = λ v rest f e. ap (λ (v : List ℕ). Ok (v, rest)) (sym f);
  goes = λ text. (refl, omega arith);
}

-- what is known of sound data
pub record Sound (laid : Laid) : Type 0 where
  pub steps : list_all (is_sound_step laid.size) laid.steps ≡ true
  pub apart : are_apart laid.steps ≡ true
  pub long : length (blank laid).0 ≡ laid.size

pub sound_is : (laid : Laid) → is_sound laid ≡ true → Sound laid
sound_is laid s =
    let parts = and_parts (list_all (is_sound_step laid.size) laid.steps) _ s in
    let others = and_parts (are_apart laid.steps) _ parts.1 in
    record { steps = parts.0; apart = others.0; long = eqb-true _ _ others.1 }

-- data of sound steps, given the lists
module _ (lists : Items → ByteLeaf) (fits : Items → List ℕ → Type 0) (keep : (items : Items) → Keeps (lists items) (fits items) (ends_at Bytes))
    (commas : (items : Items) (v : List ℕ) → fits items v → IsBehindComma ((lists items).text v)) where
  pub sound_keeps : (last : Class → Bool) (ends : List ℕ → Bool) → ((class : Class) (rest : List ℕ) → last class ≡ true → ends rest ≡ true → ends_at class rest ≡ true)
      → (laid : Laid) → is_sound laid ≡ true → ends_all last laid.steps ≡ true → Keeps (laid_leaf (step_leaf lists) laid) (IsTold (FitsStep fits) laid) ends
  sound_keeps last ends final laid s e =
      let is = sound_is laid s in
      laid_keeps (step_leaf lists) (FitsStep fits) (sized fits) ends laid (steps_keep lists fits laid.size
      (step_keeps lists fits keep laid.size) commas last ends final laid.steps is.steps e) is.apart is.steps is.long

-- what ends an item ends its last step
numeric_ends : (class : Class) (rest : List ℕ) → is_numeric class ≡ true → ends_at Number rest ≡ true → ends_at class rest ≡ true
numeric_ends Nobody rest n e = refl
numeric_ends Number rest n e = e
numeric_ends Bytes rest n e = cc
numeric_ends (Clear stop) rest n e = cc

module _ (item : Laid) (sound : is_sound_item item ≡ true) where
  base : (is_sound item ≡ true) × (nat_lt 0 item.size ≡ true)
  base = and_parts _ _ (and_parts (is_sound item && nat_lt 0 item.size) _ sound).0

  flat : list_all is_flat item.steps ≡ true
  flat = (and_parts (list_all is_flat item.steps) _ (and_parts (is_sound item && nat_lt 0 item.size) _ sound).1).0

  edges : (begin_with_comma item.steps ≡ true) × (ends_all is_numeric item.steps ≡ true)
  edges = and_parts _ _ (and_parts (list_all is_flat item.steps) _ (and_parts (is_sound item && nat_lt 0 item.size) _ sound).1).1

  no_tail : (p : Parts) → IsTold (FitsStep FitsNoList) item p → (p.0, []) ≡ p
  no_tail p f = let none : p.1 ≡ [] = sym (ap (λ (p : Parts). p.1) f.whole) ∙ flat_tail item.steps _ (blank item) flat in λ i. (p.0, sym none i)

  item_keeps : Keeps (item_leaf item) (FitsItem item) (ends_at Number)
  item_keeps = mapped_keeps (λ (p : Parts). p.0) (λ bytes. (bytes, [])) (laid_leaf (step_leaf no_list) item) (IsTold (FitsStep FitsNoList) item) (FitsItem item) (ends_at Number)
      (sound_keeps no_list FitsNoList no_list_keeps (λ items v f. tt) is_numeric (ends_at Number) numeric_ends item base.0 edges.1)
      (λ p f. (subst (IsTold (FitsStep FitsNoList) item) (sym (no_tail p f)) f, no_tail p f)) (λ bytes f. (f, refl))

  begins : (v : List ℕ) → starts ((item_leaf item).text v)
  begins v = comma_first (v, []) item.steps edges.0

  tests : Tests has_comma (item_leaf item) (FitsItem item) (ends_at Number) (ends_at Bytes)
  tests = record {
    no_more = no_comma;
    begins = λ v rest f. comma_is (λ t. has_comma t ≡ true) ((item_leaf item).text v ++ rest) (comma_before ((item_leaf item).text v) rest (begins v)) (λ cs. refl);
    uses = λ v f. comma_is (λ t. 0 < length t) ((item_leaf item).text v) (begins v) (λ cs. omega arith);
    at_more = λ v rest f. comma_is (λ t. ends_at Number t ≡ true) ((item_leaf item).text v ++ rest) (comma_before ((item_leaf item).text v) rest (begins v)) (λ cs. refl);
    at_end = bytes_end;
  }

  of_size : (v : List ℕ) → FitsItem item v → length v ≡ item.size
  of_size v f = let is = sound_is item base.0 in
      sym (ap (λ (p : Parts). length p.0) f.whole) ∙ put_size (FitsStep FitsNoList) (sized FitsNoList) item.size item.steps _ (blank item) is.steps f.parts is.long

  each_size : (vs : List (List ℕ)) → Each (FitsItem item) vs → Each (λ v. length v ≡ item.size) vs
  each_size [] f = tt
  each_size (v ∷ vs) f = (of_size v f.0, each_size vs f.1)

  pub list_keeps : Keeps (list_leaf item) (FitsList item) (ends_at Bytes)
  list_keeps = mapped_keeps concat (chunks item.size) (many has_comma (item_leaf item)) (Each (FitsItem item)) (FitsList item) (ends_at Bytes)
      (many_keeps has_comma (item_leaf item) (FitsItem item) (ends_at Number) (ends_at Bytes) item_keeps tests)
      (λ vs f. let same = chunks_are item.size (ltb-true _ _ base.1) vs (each_size vs f) in ((rw same f, ap concat same), same)) (λ bytes f. (f.0, f.1))

  pub list_commas : (v : List ℕ) → IsBehindComma ((list_leaf item).text v)
  list_commas v = by (chunks item.size v)
    where
      by : (vs : List (List ℕ)) → IsBehindComma (many_text (item_leaf item) vs)
      by [] = tt
      by (v ∷ vs) = comma_is IsBehindComma (many_text (item_leaf item) (v ∷ vs)) (comma_before ((item_leaf item).text v) _ (begins v)) (λ cs. refl)

-- the lists of the table
items_sound : (items : Items) → is_sound_item (item_of items) ≡ true
items_sound Numbers = refl
items_sound Ipv4Items = refl
items_sound Ipv6Items = refl

pub lists_keep : (items : Items) → Keeps (lists items) (FitsLists items) (ends_at Bytes)
lists_keep items = list_keeps (item_of items) (items_sound items)

pub lists_commas : (items : Items) (v : List ℕ) → FitsLists items v → IsBehindComma ((lists items).text v)
lists_commas items v f = list_commas (item_of items) (items_sound items) v
