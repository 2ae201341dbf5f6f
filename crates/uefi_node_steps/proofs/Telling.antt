-- What code finds out from the head of a node: whether the form that prints it describes it completely.
use Rattle.std.proofs.Common.{◌≡◌, ℕ, zero, suc, ◌+◌, ◌-◌, ◌^◌, ◌<◌, ◌≤◌, min, Bool, true, false, cond, eqb, ltb, leb, List, [], ◌∷◌, ◌++◌, ◌&&◌, ◌||◌, not, inl, inr, length, map, take, drop, get_or, refl, sym, ap, subst, ◌∙◌, arith, length-drop, length-append}
use Rattle.std.proofs.lemmas.Bool.{and_from, and_left, and_parts, both_ways, eq-eqb, eqb-true, le-leb, leb-true, ltb-true, not-true, not_from_false, or_cases, or_from, or_left, or_right}
use Rattle.std.proofs.lemmas.Bool.Decides.{same_from_decides}
use Rattle.std.proofs.lemmas.List.{drop_at, get_or-drop, get_or_append_left, get_or-take, length-take-le, take-append-drop, take-take}
use Rattle.std.proofs.lemmas.Slice.{drop-put_mid, take-put_mid_below}
use Rattle.std.specs.Cmp.Lexicographic.{pointwise, same_text}
use Rattle.std.specs.List.{list_all, list_any}
use Rattle.std.specs.Prelude.{nat_eq, slice_range, Some, Ok, Err, ◌⊎◌}
use Rattle.uefi_text.specs.Packed.{little_endian}
use Rattle.uefi_device_nodes.proofs.Lists.{all_of_both}
use Rattle.uefi_node_steps.specs.Heads.{IsFound, IsHead, agree, agree_with, all_agree, can_tell, describes, has_fixed, have_data, is_byte, is_fixed, is_free, is_laid, is_parts, is_small, is_told_step, is_told_value, lacks_fixed, may_print, must_print, node_at, number_of_data, number_read, parts_at, parts_read, same_data, stop_of, tells_head, with_fields}
use Rattle.uefi_node_steps.specs.Leaves.{Each, IsBytes, Read}
use Rattle.uefi_node_steps.specs.Nodes.{Node, find_form, has_bytes, is_printed, node_of, parts_in, prints, tells}
use Rattle.uefi_node_steps.specs.Printing.{is_laid_step}
use Rattle.uefi_node_steps.specs.Steps.{FitSteps, FitsData, FitsLists, FitsShape, FitsStep, Parts, Step, blank, fits_shape, is_sound_step, part_of, put_part, put_parts}
use Rattle.uefi_node_steps.specs.Table.{FitsForm, Form, are_sound, form_leaf, forms_read, is_exact, is_read, is_sound_form}
use Rattle.uefi_node_steps.specs.declared.steps.Encoding.TheVariants as encoding
use Rattle.uefi_node_steps.specs.declared.steps.Field.{Field as FieldOf}
use Rattle.uefi_node_steps.specs.declared.steps.Items.TheVariants.{Numbers, Ipv4 as Ipv4Items, Ipv6 as Ipv6Items}
use Rattle.uefi_node_steps.specs.declared.steps.Shape.{Shape}
use Rattle.uefi_node_steps.specs.declared.steps.Shape.TheVariants.{Hexadecimal, Marked, Decimal, OrDefault, Next, Forth, Back, BaseForth, BaseBack, Apart, Dashed, Guid, Ipv4, Ipv6, Eisa, Word}
use Rattle.uefi_node_steps.specs.declared.steps.StepOf.TheVariants.{Literal, Field, Data, Many}
use Rattle.uefi_node_steps.proofs.Addresses.{number_small}
use Rattle.uefi_node_steps.proofs.Combinations.{Goes}
use Rattle.uefi_node_steps.proofs.ItemLaws.{Sound, sized, sound_is}
use Rattle.uefi_node_steps.proofs.Layouts.{Sized, put, put_part_size}
use Rattle.uefi_node_steps.proofs.NodeLaws.{back_again, back_fits, exact_is_read, found_is, same_self}
use Rattle.uefi_node_steps.proofs.TextLaws.{uid_ids}
use Rattle.uefi_node_steps.proofs.TableLaws.{form_keeps, of_all, unless}
use Rattle.uefi_node_steps.proofs.Walks.{form_of}

-- bytes, and parts of them
each_byte : (bytes : List ℕ) → list_all is_byte bytes ≡ true → Each (λ b. b < 256) bytes
each_byte [] e = tt
each_byte (b ∷ bytes) e = let parts = and_parts (is_byte b) (list_all is_byte bytes) e in (ltb-true b 256 parts.0, each_byte bytes parts.1)

bytes_before : (n : ℕ) (bytes : List ℕ) → list_all is_byte bytes ≡ true → list_all is_byte (take n bytes) ≡ true
bytes_before n bytes e = (all_of_both is_byte (take n bytes) (drop n bytes) (ap (list_all is_byte) (take-append-drop n bytes) ∙ e)).0

bytes_behind : (n : ℕ) (bytes : List ℕ) → list_all is_byte bytes ≡ true → list_all is_byte (drop n bytes) ≡ true
bytes_behind n bytes e = (all_of_both is_byte (take n bytes) (drop n bytes) (ap (list_all is_byte) (take-append-drop n bytes) ∙ e)).1

no_bytes : (bytes : List ℕ) → length bytes ≡ 0 → bytes ≡ []
no_bytes [] e = refl
no_bytes (b ∷ bytes) e = absurd (omega (arith, e))

-- the value of a field
value_fits : (shape : Shape) (width : ℕ) (bytes : List ℕ) → fits_shape shape width ≡ true → IsBytes width bytes → is_told_value shape bytes ≡ true → FitsShape shape width bytes
value_fits Hexadecimal width bytes s b e = b
value_fits Marked width bytes s b e = b
value_fits Decimal width bytes s b e = b
value_fits OrDefault width bytes s b e = b
value_fits Next width bytes s b e = b
value_fits Forth width bytes s b e = b
value_fits Back width bytes s b e = b
value_fits BaseForth width bytes s b e = b
value_fits BaseBack width bytes s b e = b
value_fits (Apart letter) width bytes s b e = b
value_fits Dashed width bytes s b e = b
value_fits Guid width bytes s b e = b
value_fits Ipv4 width bytes s b e = b
value_fits Ipv6 width bytes s b e = b
value_fits Eisa width bytes s b e =
    let four : width ≡ 4 = eqb-true width 4 s in
    let small : little_endian bytes < 256 ^ 4 = subst (λ (n : ℕ). little_endian bytes < 256 ^ n) four (number_small width bytes b) in
    (b, (small, eqb-true _ _ e))
value_fits (Word words) width bytes s b e = (b, (number_small width bytes b, e))

value_told : (shape : Shape) (width : ℕ) (bytes : List ℕ) → FitsShape shape width bytes → is_told_value shape bytes ≡ true
value_told Hexadecimal width bytes f = refl
value_told Marked width bytes f = refl
value_told Decimal width bytes f = refl
value_told OrDefault width bytes f = refl
value_told Next width bytes f = refl
value_told Forth width bytes f = refl
value_told Back width bytes f = refl
value_told BaseForth width bytes f = refl
value_told BaseBack width bytes f = refl
value_told (Apart letter) width bytes f = refl
value_told Dashed width bytes f = refl
value_told Guid width bytes f = refl
value_told Ipv4 width bytes f = refl
value_told Ipv6 width bytes f = refl
value_told Eisa width bytes f = eq-eqb _ _ f.1.1
value_told (Word words) width bytes f = f.1.1

-- what a step says of the data after the fixed part
abbrev FitsTail : List ℕ → Step → Type 0
FitsTail tail (Literal letters) = Unit {0}
FitsTail tail (Field f) = Unit {0}
FitsTail tail (Data encoding) = FitsData encoding tail
FitsTail tail (Many items) = FitsLists items tail

-- the same, by the numbers of the step
abbrev FitsNumbers : List ℕ → ℕ → ℕ → Type 0
FitsNumbers tail (suc zero) stop = FitsData encoding.Bytes tail
FitsNumbers tail (suc (suc zero)) stop = FitsData (encoding.Text stop) tail
FitsNumbers tail (suc (suc (suc zero))) stop = FitsData (encoding.Utf16 stop) tail
FitsNumbers tail (suc (suc (suc (suc zero)))) stop = FitsData (encoding.Name stop) tail
FitsNumbers tail (suc (suc (suc (suc (suc zero))))) stop = FitsData (encoding.Padded stop) tail
FitsNumbers tail (suc (suc (suc (suc (suc (suc zero)))))) stop = FitsData (encoding.Ids stop) tail
FitsNumbers tail (suc (suc (suc (suc (suc (suc (suc zero))))))) stop = FitsLists Numbers tail
FitsNumbers tail (suc (suc (suc (suc (suc (suc (suc (suc zero)))))))) stop = FitsLists Ipv4Items tail
FitsNumbers tail (suc (suc (suc (suc (suc (suc (suc (suc (suc zero))))))))) stop = FitsLists Ipv6Items tail
FitsNumbers tail (suc (suc (suc (suc (suc (suc (suc (suc (suc (suc zero)))))))))) stop = FitsData (encoding.Uid stop) tail
FitsNumbers tail n stop = Unit {0}

numbered : (tail : List ℕ) (step : Step) → FitsTail tail step → FitsNumbers tail (number_read step) (stop_of step)
numbered tail (Literal letters) f = tt
numbered tail (Field g) f = tt
numbered tail (Data encoding.Bytes) f = f
numbered tail (Data (encoding.Text stop)) f = f
numbered tail (Data (encoding.Utf16 stop)) f = f
numbered tail (Data (encoding.Name stop)) f = f
numbered tail (Data (encoding.NameAfterComma stop)) f = f
numbered tail (Data (encoding.Padded stop)) f = f
numbered tail (Data (encoding.Ids stop)) f = f
numbered tail (Data (encoding.Uid stop)) f = uid_ids stop tail f
numbered tail (Many Numbers) f = f
numbered tail (Many Ipv4Items) f = f
numbered tail (Many Ipv6Items) f = f

by_numbers : (tail : List ℕ) (step : Step) → FitsNumbers tail (number_of_data step) (stop_of step) → FitsTail tail step
by_numbers tail (Literal letters) f = tt
by_numbers tail (Field g) f = tt
by_numbers tail (Data encoding.Bytes) f = f
by_numbers tail (Data (encoding.Text stop)) f = f
by_numbers tail (Data (encoding.Utf16 stop)) f = f
by_numbers tail (Data (encoding.Name stop)) f = f
by_numbers tail (Data (encoding.NameAfterComma stop)) f = f
by_numbers tail (Data (encoding.Padded stop)) f = f
by_numbers tail (Data (encoding.Ids stop)) f = f
by_numbers tail (Data (encoding.Uid stop)) f = f
by_numbers tail (Many Numbers) f = f
by_numbers tail (Many Ipv4Items) f = f
by_numbers tail (Many Ipv6Items) f = f

same_fits : (tail : List ℕ) (step other : Step) → same_data step other ≡ true → FitsTail tail other → FitsTail tail step
same_fits tail step other e f =
    let parts = and_parts (eqb (number_of_data step) (number_read other)) _ e in
    let number : number_of_data step ≡ number_read other = eqb-true _ _ parts.0 in
    let stop : stop_of step ≡ stop_of other = eqb-true _ _ parts.1 in
    by_numbers tail step (subst (λ (n : ℕ). FitsNumbers tail n (stop_of step)) (sym number) (subst (λ (s : ℕ). FitsNumbers tail (number_read other) s) (sym stop) (numbered tail other f)))

-- a step that says no more than that data is bytes
few_fit : (tail : List ℕ) (step : Step) → ltb (number_of_data step) 2 ≡ true → Each (λ b. b < 256) tail → FitsTail tail step
few_fit tail (Literal letters) e b = tt
few_fit tail (Field g) e b = tt
few_fit tail (Data encoding.Bytes) e b = b
few_fit tail (Data (encoding.Text stop)) e b = cc
few_fit tail (Data (encoding.Utf16 stop)) e b = cc
few_fit tail (Data (encoding.Name stop)) e b = cc
few_fit tail (Data (encoding.NameAfterComma stop)) e b = cc
few_fit tail (Data (encoding.Padded stop)) e b = cc
few_fit tail (Data (encoding.Ids stop)) e b = cc
few_fit tail (Data (encoding.Uid stop)) e b = cc
few_fit tail (Many Numbers) e b = cc
few_fit tail (Many Ipv4Items) e b = cc
few_fit tail (Many Ipv6Items) e b = cc

-- what told data says of its tail
step_tail : (data_ : Parts) (step : Step) → FitsStep FitsLists step (part_of data_ step) → FitsTail data_.1 step
step_tail data_ (Literal letters) f = tt
step_tail data_ (Field g) f = tt
step_tail data_ (Data encoding) f = f
step_tail data_ (Many items) f = f

any_tail : (data_ : Parts) (step : Step) (steps : List Step) → FitSteps (FitsStep FitsLists) steps (map (part_of data_) steps) → list_any (same_data step) steps ≡ true → FitsTail data_.1 step
any_tail data_ step [] f e = cc
any_tail data_ step (other ∷ steps) f e = by (or_cases (same_data step other) (list_any (same_data step) steps) e) (any_tail data_ step steps f.1)
  where
    by : (same_data step other ≡ true) ⊎ (list_any (same_data step) steps ≡ true) → (list_any (same_data step) steps ≡ true → FitsTail data_.1 step) → FitsTail data_.1 step
    by (inl s) h = same_fits data_.1 step other s (step_tail data_ other f.0)
    by (inr s) h = h s

-- data whose fields are told
module _ (fixed tail : List ℕ) (size : ℕ) (long : length fixed ≡ size) (bytes : list_all is_byte fixed ≡ true) where
  step_fits : (step : Step) → is_sound_step size step ≡ true → is_told_step fixed step ≡ true → FitsTail tail step → FitsStep FitsLists step (part_of (fixed, tail) step)
  step_fits (Literal letters) s e t = refl
  step_fits (Field f) s e t =
      let parts = and_parts (leb (f.place + f.width) size) _ s in
      let within : f.place + f.width ≤ size = leb-true _ _ parts.0 in
      let shape = and_parts (fits_shape f.shape f.width) _ parts.1 in
      let all = bytes_before (f.place + f.width - f.place) (drop f.place fixed) (bytes_behind f.place fixed bytes) in
      let width : length (slice_range fixed f.place (f.place + f.width))
      ≡ f.width = length-take-le (f.place + f.width - f.place) (drop f.place fixed) (omega (arith, length-drop f.place fixed)) ∙ omega arith in
      value_fits f.shape f.width (slice_range fixed f.place (f.place + f.width)) shape.0 (width, each_byte _ all) e
  step_fits (Data encoding) s e t = t
  step_fits (Many items) s e t = t

  steps_fit : (steps : List Step) → list_all (is_sound_step size) steps ≡ true → list_all (is_told_step fixed) steps ≡ true
      → (test : Step → Bool) → ((step : Step) → test step ≡ true → FitsTail tail step) → list_all test steps ≡ true
      → FitSteps (FitsStep FitsLists) steps (map (part_of (fixed, tail)) steps)
  steps_fit [] s e test fits t = refl
  steps_fit (step ∷ steps) s e test fits t =
      let ss = and_parts (is_sound_step size step) (list_all (is_sound_step size) steps) s in
      let es = and_parts (is_told_step fixed step) (list_all (is_told_step fixed) steps) e in
      let ts = and_parts (test step) (list_all test steps) t in
      (step_fits step ss.0 es.0 (fits step ts.0), steps_fit steps ss.1 es.1 test fits ts.1)

-- told data has told fields
step_told : (fixed tail : List ℕ) (step : Step) → FitsStep FitsLists step (part_of (fixed, tail) step) → is_told_step fixed step ≡ true
step_told fixed tail (Literal letters) f = refl
step_told fixed tail (Field g) f = value_told g.shape g.width _ f
step_told fixed tail (Data encoding) f = refl
step_told fixed tail (Many items) f = refl

steps_told : (fixed tail : List ℕ) (steps : List Step) → FitSteps (FitsStep FitsLists) steps (map (part_of (fixed, tail)) steps) → list_all (is_told_step fixed) steps ≡ true
steps_told fixed tail [] f = refl
steps_told fixed tail (step ∷ steps) f = and_from _ _ (step_told fixed tail step f.0) (steps_told fixed tail steps f.1)

-- the fixed part does not depend on the data after it, and the data after it is there if a step prints it
module _ (fixed tail : List ℕ) where
  abbrev those : List Step → List (List ℕ)
  those steps = map (part_of (fixed, tail)) steps

  fixed_same : (steps : List Step) (b t s : List ℕ) → (put_parts steps (those steps) (b, t)).0 ≡ (put_parts steps (map (part_of (fixed, [])) steps) (b, s)).0
  fixed_same [] b t s = refl
  fixed_same (Literal letters ∷ steps) b t s = fixed_same steps b t s
  fixed_same (Field f ∷ steps) b t s = fixed_same steps _ t s
  fixed_same (Data encoding ∷ steps) b t s = fixed_same steps b tail []
  fixed_same (Many items ∷ steps) b t s = fixed_same steps b tail []

  stays : (steps : List Step) (b t : List ℕ) → have_data steps ≡ false → (put_parts steps (those steps) (b, t)).1 ≡ t
  stays [] b t e = refl
  stays (Literal letters ∷ steps) b t e = stays steps b t e
  stays (Field f ∷ steps) b t e = stays steps _ t e
  stays (Data encoding ∷ steps) b t e = cc
  stays (Many items ∷ steps) b t e = cc

  reached : (steps : List Step) (b : List ℕ) → (put_parts steps (those steps) (b, tail)).1 ≡ tail
  reached [] b = refl
  reached (Literal letters ∷ steps) b = reached steps b
  reached (Field f ∷ steps) b = reached steps _
  reached (Data encoding ∷ steps) b = reached steps b
  reached (Many items ∷ steps) b = reached steps b

  comes : (steps : List Step) (b t : List ℕ) → have_data steps ≡ true → (put_parts steps (those steps) (b, t)).1 ≡ tail
  comes [] b t e = cc
  comes (Literal letters ∷ steps) b t e = comes steps b t e
  comes (Field f ∷ steps) b t e = comes steps _ t e
  comes (Data encoding ∷ steps) b t e = reached steps b
  comes (Many items ∷ steps) b t e = reached steps b

-- a form that describes data, in terms of its head
module _ (form : Form) (sound : is_sound_form form ≡ true) (exact : is_exact form.mode ≡ true) (content : List ℕ) (bytes : list_all is_byte content ≡ true) (len : ℕ)
    (within : form.laid.size ≤ length content) (small : form.laid.size ≤ 56) (counted : len ≡ min (length content) (2 ^ 64 - 1)) where
  abbrev fixed : List ℕ
  fixed = take form.laid.size content

  abbrev tail : List ℕ
  tail = drop form.laid.size content

  abbrev steps : List Step
  steps = form.laid.steps

  abbrev base : List ℕ
  base = (blank form.laid).0

  laid : Sound form.laid
  laid = sound_is form.laid (and_parts _ _ sound).0

  -- how many bytes there are after the fixed part
  no_tail : eqb len form.laid.size ≡ true → tail ≡ []
  no_tail e = let same : len ≡ form.laid.size = eqb-true _ _ e in no_bytes tail (omega (arith, length-drop form.laid.size content))

  all_fixed : tail ≡ [] → eqb len form.laid.size ≡ true
  all_fixed e = let none : length tail ≡ 0 = ap length e in eq-eqb len form.laid.size (omega (arith, length-drop form.laid.size content))

  is_whole : have_data steps || eqb len form.laid.size ≡ true → (put_parts steps (map (part_of (fixed, tail)) steps) (blank form.laid)).1 ≡ tail
  is_whole e = by (have_data steps) refl e
    where
      by : (b : Bool) → have_data steps ≡ b → b || eqb len form.laid.size ≡ true → (put_parts steps (map (part_of (fixed, tail)) steps) (blank form.laid)).1 ≡ tail
      by true h e = comes fixed tail steps base [] h
      by false h e = stays fixed tail steps base [] h ∙ sym (no_tail e)

  head_fits : (test : Step → Bool) → ((step : Step) → test step ≡ true → FitsTail tail step) → list_all test steps ≡ true → tells_head form fixed len ≡ true → FitsForm form (fixed, tail)
  head_fits test fits t e =
      let first = and_parts (is_exact form.mode) _ e in
      let told = and_parts (list_all (is_told_step fixed) steps) _ first.1 in
      let kept = and_parts (pointwise nat_eq (with_fields steps fixed base) fixed) _ told.1 in
      let same = fixed_same fixed tail steps base [] [] ∙ same_text _ _ (sym kept.0) in
      let whole = is_whole kept.1 in
      record {
        parts = steps_fit fixed tail form.laid.size (length-take-le form.laid.size content within) (bytes_before form.laid.size content bytes) steps laid.steps told.0 test fits t;
        whole = λ i. (same i, whole i);
      }

  fits_head : FitsForm form (fixed, tail) → tells_head form fixed len ≡ true
  fits_head f =
      let kept : with_fields steps fixed base ≡ fixed = sym (fixed_same fixed tail steps base [] []) ∙ ap (λ (p : Parts). p.0) f.whole in
      let same = ap (λ (l : List ℕ). pointwise nat_eq l fixed) kept ∙ same_self fixed in
      and_from _ _ exact (and_from _ _ (steps_told fixed tail steps f.parts) (and_from _ _ same (last (have_data steps) refl)))
    where
      last : (b : Bool) → have_data steps ≡ b → have_data steps || eqb len form.laid.size ≡ true
      last true h = or_left _ _ h
      last false h = or_right _ _ (all_fixed (sym (ap (λ (p : Parts). p.1) f.whole) ∙ stays fixed tail steps base [] h))

  pub head_tells : (test : Step → Bool) → ((step : Step) → test step ≡ true → FitsTail tail step) → list_all test steps ≡ true
      → tells_head form fixed len ≡ tells (Some form) content
  head_tells test fits t = same_from_decides {P = FitsForm form (fixed, tail)} (tells_head form fixed len) (tells (Some form) content)
      (head_fits test fits t, fits_head) (
        λ e. back_fits form sound (parts_in form content) (and_parts (is_exact form.mode) _ e).1,
        λ f. and_from _ _ exact (back_again form sound (parts_in form content) f),
      )

-- bytes of no field
free_put : (f : FieldOf) (v content : List ℕ) (k : ℕ) → length v ≡ f.width → f.place + f.width ≤ length content → ltb k f.place || leb (f.place + f.width) k ≡ true
    → get_or (put f v content) k 0 ≡ get_or content k 0
free_put f v content k w l e = by (or_cases (ltb k f.place) (leb (f.place + f.width) k) e)
  where
    by : (ltb k f.place ≡ true) ⊎ (leb (f.place + f.width) k ≡ true) → get_or (put f v content) k 0 ≡ get_or content k 0
    by (inl h) =
        let before : k < f.place = ltb-true _ _ h in
        sym (get_or-take f.place (put f v content) k 0 before) ∙ ap (λ (x : List ℕ). get_or x k 0) (take-put_mid_below f.place f.width content v f.place (omega arith) (omega arith))
        ∙ get_or-take f.place content k 0 before
    by (inr h) =
        let n : ℕ = f.place + f.width in
        let behind : f.place + f.width ≤ k = leb-true _ _ h in
        let at : n + (k - n) ≡ k = omega arith in
        ap (λ (i : ℕ). get_or (put f v content) i 0) (sym at) ∙ sym (get_or-drop n (put f v content) (k - n) 0)
        ∙ ap (λ (x : List ℕ). get_or x (k - n) 0) (drop-put_mid f.place f.width content v n (omega arith) (omega arith) w) ∙ get_or-drop n content (k - n) 0 ∙ ap (λ (i : ℕ). get_or content i 0) at

free_all : (size : ℕ) (steps : List Step) (vs : List (List ℕ)) (data_ : Parts) (k : ℕ) → list_all (is_sound_step size) steps ≡ true → FitSteps (FitsStep FitsLists) steps vs
    → length data_.0 ≡ size → list_all (is_free k) steps ≡ true → get_or (put_parts steps vs data_).0 k 0 ≡ get_or data_.0 k 0
free_all size [] vs data_ k s f l e = refl
free_all size (step ∷ steps) [] data_ k s f l e = absurd f
free_all size (step ∷ steps) (v ∷ vs) data_ k s f l e =
    let ss = and_parts (is_sound_step size step) (list_all (is_sound_step size) steps) s in
    let es = and_parts (is_free k step) (list_all (is_free k) steps) e in
    free_all size steps vs (put_part step v data_) k ss.1 f.1 (put_part_size (FitsStep FitsLists) (sized FitsLists) size step v data_ ss.0 (sized FitsLists step v f.0) l) es.1
    ∙ one step ss.0 es.0 (sized FitsLists step v f.0)
  where
    one : (step : Step) → is_sound_step size step ≡ true → is_free k step ≡ true → Sized step v → get_or (put_part step v data_).0 k 0 ≡ get_or data_.0 k 0
    one (Literal letters) s e w = refl
    one (Field g) s e w = free_put g v data_.0 k w (omega (arith, leb-true _ _ (and_parts (leb (g.place + g.width) size) _ s).0)) e
    one (Data encoding) s e w = refl
    one (Many items) s e w = refl

-- a node that a form read, and the forms that print it
module _ (form : Form) (data_ : Parts) (sound : is_sound_form form ≡ true) (told : FitsForm form data_) (long : length data_.0 ≡ form.laid.size) where
  abbrev content : List ℕ
  content = data_.0 ++ data_.1

  abbrev node : Node
  node = node_of (form, data_)

  fixed_is : (k : ℕ) → is_fixed form k ≡ true → get_or content k 0 ≡ get_or (blank form.laid).0 k 0
  fixed_is k e =
      let parts = and_parts (ltb k form.laid.size) _ e in
      let below : k < form.laid.size = ltb-true _ _ parts.0 in
      let laid = sound_is form.laid (and_parts _ _ sound).0 in
      get_or_append_left data_.0 data_.1 0 k (omega arith) ∙ ap (λ (p : Parts). get_or p.0 k 0) (sym told.whole)
      ∙ free_all form.laid.size form.laid.steps _ (blank form.laid) k laid.steps told.parts laid.long parts.1

  no_lack : (bytes : List (ℕ × ℕ)) → has_bytes bytes content ≡ true → list_any (lacks_fixed form) bytes ≡ false
  no_lack [] e = refl
  no_lack (b ∷ bytes) e =
      let parts = and_parts (eqb (get_or content b.0 0) b.1) (has_bytes bytes content) e in or_from _ _ (by (lacks_fixed form b) refl parts.0) (no_lack bytes parts.1)
    where
      by : (c : Bool) → lacks_fixed form b ≡ c → eqb (get_or content b.0 0) b.1 ≡ true → c ≡ false
      by false h e = refl
      by true h e =
          let parts = and_parts (is_fixed form b.0) _ h in
          let same = ap (λ (n : ℕ). eqb n b.1) (fixed_is b.0 parts.0) in
          let other = not-true _ parts.1 in absurd (both_ways _ other (sym same ∙ e))

  has_all : (bytes : List (ℕ × ℕ)) → list_all (has_fixed form) bytes ≡ true → has_bytes bytes content ≡ true
  has_all [] e = refl
  has_all (b ∷ bytes) e =
      let parts = and_parts (has_fixed form b) (list_all (has_fixed form) bytes) e in
      let here = and_parts (is_fixed form b.0) _ parts.0 in
      and_from _ _ (ap (λ (n : ℕ). eqb n b.1) (fixed_is b.0 here.0) ∙ here.1) (has_all bytes parts.1)

  may : (other : Form) → prints false node other ≡ true → may_print form other ≡ true
  may other e =
      let parts = and_parts _ _ e in
      let lengths = and_parts _ _ parts.1 in and_from _ _ parts.0 (not_from_false _ (no_lack other.when lengths.1))

  must : (other : Form) → may_print form other ≡ true → must_print form other ≡ true → prints false node other ≡ true
  must other e f =
      let parts = and_parts _ _ e in
      let here = and_parts (leb (other.laid.size + other.more) form.laid.size) _ f in
      let enough : other.laid.size + other.more ≤ length content = omega (arith, leb-true _ _ here.0, length-append data_.0 data_.1) in
      and_from _ _ parts.0 (and_from _ _ (le-leb _ _ enough) (has_all other.when here.1))

  pub agree_found : (forms : List Form) (other : Form) → agree_with form forms ≡ true → find_form (prints false node) forms ≡ Some other → agree form other ≡ true
  agree_found [] other a e = cc
  agree_found (first ∷ forms) other a e = by (may_print form first) (prints false node first) refl refl a e (agree_found forms other)
    where
      by : (m p : Bool) → may_print form first ≡ m → prints false node first ≡ p → cond m (agree form first && (must_print form first || agree_with form forms)) (agree_with form forms) ≡ true
          → cond p (Some first) (find_form (prints false node) forms) ≡ Some other → (agree_with form forms ≡ true → find_form (prints false node) forms ≡ Some other → agree form other ≡ true)
          → agree form other ≡ true
      by true true m p a e h = let same : first ≡ other = cc in subst (λ (f : Form). agree form f ≡ true) same (and_parts (agree form first) _ a).0
      by false true m p a e h = absurd (both_ways _ m (may first p))
      by false false m p a e h = h a e
      by true false m p a e h = next (or_cases (must_print form first) (agree_with form forms) (and_parts (agree form first) _ a).1)
        where
          next : (must_print form first ≡ true) ⊎ (agree_with form forms ≡ true) → agree form other ≡ true
          next (inl k) = absurd (both_ways _ p (must first m k))
          next (inr k) = h k e

  -- the data after the fixed part in a form that agrees
  tail_fits : (size : ℕ) → list_all is_byte content ≡ true → (step : Step) → describes form size step ≡ true → FitsTail (drop size content) step
  tail_fits size b step e = by (or_cases (ltb (number_of_data step) 2) _ e)
    where
      by : (ltb (number_of_data step) 2 ≡ true) ⊎ (eqb form.laid.size size && list_any (same_data step) form.laid.steps ≡ true) → FitsTail (drop size content) step
      by (inl h) = few_fit (drop size content) step h (each_byte _ (bytes_behind size content b))
      by (inr h) =
          let parts = and_parts (eqb form.laid.size size) _ h in
          let same : drop size content ≡ data_.1 = drop_at data_.0 data_.1 size (long ∙ eqb-true _ _ parts.0) in
          subst (λ (t : List ℕ). FitsTail t step) (sym same) (any_tail data_ step form.laid.steps told.parts parts.1)

-- the first bytes of data are those of its head
pub take_head : (content head : List ℕ) (len n : ℕ) → IsHead content head len → n ≤ 56 → n ≤ len → take n head ≡ take n content
take_head content head len n h small short = sym (take-take n len head short) ∙ ap (λ (l : List ℕ). take n l) h.kept ∙ take-take n 56 content small

pub within_head : (form : Form) (text head : List ℕ) (len : ℕ) → IsFound form text head len → form.laid.size ≤ len
within_head form text head len f =
    let counted = f.known.counted in
    let few : form.laid.size ≤ 56 = leb-true _ _ (and_parts _ _ f.small).0 in
    let size = f.size in omega (arith, length-append (parts_at form text).0 (parts_at form text).1)

-- what a form reads at the start of a text is told
pub found_told : (form : Form) (text : List ℕ) → is_sound_form form ≡ true → is_parts ((form_leaf form).read text) ≡ true → FitsForm form (parts_at form text)
found_told form text s e = by ((form_leaf form).read text) ((form_keeps form s).goes text) e
  where
    by : (r : Read Parts) → Goes (FitsForm form) text r → is_parts r ≡ true → FitsForm form (parts_read r)
    by (Ok read) g e = g.0
    by (Err stop) g e = cc

-- whether a form that prints a node that was found describes it completely
pub tells_found : (form other : Form) (forms : List Form) (text head : List ℕ) (len : ℕ) → IsFound form text head len → agree_with form forms ≡ true
    → find_form (prints false (node_at form text)) forms ≡ Some other → not (is_read other.mode) || is_sound_form other ≡ true → other.laid.size ≤ 56
    → tells_head other (take other.laid.size head) len ≡ tells (Some other) (node_at form text).content
tells_found form other forms text head len f a e s small = by (is_exact other.mode) refl
  where
    by : (b : Bool) → is_exact other.mode ≡ b → tells_head other (take other.laid.size head) len ≡ tells (Some other) (node_at form text).content
    by false x = and_left _ _ x ∙ sym (and_left _ _ x)
    by true x =
        let bytes : List ℕ = (parts_at form text).0 ++ (parts_at form text).1 in
        let told = found_told form text f.sound f.read in
        let test = (found_is (prints false (node_at form text)) forms other e).1 in
        let long = and_parts (leb (other.laid.size + other.more) (length bytes)) _ (and_parts _ _ test).1 in
        let within : other.laid.size ≤ length bytes = omega (arith, leb-true _ _ long.0) in
        let is = unless (is_read other.mode) (is_sound_form other) s (exact_is_read other.mode x) in
        let counted = f.known.counted in
        let same = take_head bytes head len other.laid.size f.known small (omega arith) in
        let agrees = unless (is_exact other.mode) _ (agree_found form (parts_at form text) f.sound told f.size forms other a e) x in
        ap (λ (l : List ℕ). tells_head other l len) same
        ∙ head_tells other is x bytes f.known.bytes len within small counted (describes form other.laid.size) (tail_fits form
        (parts_at form text) f.sound told f.size other.laid.size f.known.bytes) agrees

-- what is known of a form that prints a node that was read
pub record IsPrinting (form other : Form) (text head : List ℕ) (len : ℕ) : Type 0 where
  pub small : is_small other ≡ true
  pub sound : not (is_read other.mode) || is_sound_form other ≡ true
  pub within : other.laid.size ≤ len
  pub tells : tells_head other (take other.laid.size head) len ≡ tells (Some other) (node_at form text).content

pub is_printing : (form other : Form) (forms : List Form) (text head : List ℕ) (len : ℕ) (rest : List ℕ) → can_tell forms ≡ true → IsFound form text head len
    → forms_read forms text ≡ Ok ((form, parts_at form text), rest) → find_form (prints false (node_at form text)) forms ≡ Some other → IsPrinting form other text head len
is_printing form other forms text head len rest t f r e =
    let parts = and_parts (are_sound forms) _ t in
    let others = and_parts (list_all is_small forms) (all_agree forms) parts.1 in
    let is = found_is (prints false (node_at form text)) forms other e in
    let one = form_of forms text (form, parts_at form text) rest r in
    let small = of_all is_small other forms is.0 others.0 in
    let sound = of_all (λ (f : Form). not (is_read f.mode) || is_sound_form f) other forms is.0 parts.0 in
    let size : other.laid.size ≤ 56 = leb-true _ _ (and_parts _ _ small).0 in
    let agrees = unless (is_read form.mode) (agree_with form forms) (of_all (λ (f : Form). not (is_read f.mode) || agree_with f forms) form forms one.0 others.1) one.1 in
    let bytes : List ℕ = (parts_at form text).0 ++ (parts_at form text).1 in
    let long = and_parts (leb (other.laid.size + other.more) (length bytes)) _ (and_parts _ _ is.1).1 in
    let counted = f.known.counted in
    record {
      small = small;
      sound = sound;
      within = omega (arith, leb-true _ _ long.0);
      tells = tells_found form other forms text head len f agrees e sound size;
    }

-- what code needs to print a form that was found
pub laid_found : (node : Node) (other : Form) (forms : List Form) → list_all is_laid forms ≡ true → find_form (prints false node) forms ≡ Some other
    → (list_all (is_laid_step other.laid.size) other.laid.steps ≡ true) × (other.laid.size ≤ length node.content)
laid_found node other forms l e =
    let is = found_is (prints false node) forms other e in
    let parts = and_parts (eqb other.kind node.kind && (eqb other.sub_kind node.sub_kind && is_printed false other.mode)) _ is.1 in
    let kinds = and_parts (eqb other.kind node.kind) _ parts.0 in
    let sub_kinds = and_parts (eqb other.sub_kind node.sub_kind) _ kinds.1 in
    let long = and_parts (leb (other.laid.size + other.more) (length node.content)) _ parts.1 in
    let enough : other.laid.size + other.more ≤ length node.content = leb-true _ _ long.0 in
    (unless (is_printed false other.mode) _ (of_all is_laid other forms is.0 l) sub_kinds.1, omega arith)
