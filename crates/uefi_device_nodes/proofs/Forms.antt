-- What the printer needs of the forms of a table.
use Rattle.std.proofs.Common.{◌≡◌, ℕ, ◌+◌, ◌≤◌, Bool, true, false, cond, leb, List, [], ◌∷◌, ◌++◌, length, refl, ap, subst, arith}
use Rattle.std.specs.Prelude.{Some, slice_range}
use Rattle.std.specs.List.{list_all}
use Rattle.std.proofs.lemmas.Bool.{and_from, and_parts, le-leb, leb-true}
use Rattle.std.proofs.lemmas.Slice.{between_to_end}
use Rattle.uefi_device_nodes.specs.Fields.{fits_shape}
use Rattle.uefi_device_nodes.proofs.Lists.{all_of_both}
use Rattle.uefi_device_nodes.specs.Rows.{Piece, Form, find_form, form_text, is_laid_out, is_within, matches, pieces_text, tail_text}

-- fields within data lie within longer data
pub wider : (m n : ℕ) → m ≤ n → (pieces : List Piece) → list_all (is_within m) pieces ≡ true → list_all (is_within n) pieces ≡ true
wider m n l [] e = refl
wider m n l (p ∷ ps) e =
    let parts = and_parts (is_within m p) (list_all (is_within m) ps) e in
    let one = and_parts (leb (p.place + p.width) m) (fits_shape p.shape p.width) parts.0 in
    let low = leb-true (p.place + p.width) m one.0 in
    and_from _ _ (and_from _ _ (le-leb (p.place + p.width) n (omega arith)) one.1) (wider m n l ps parts.1)

-- the fields of a form lie within data that are as long as it wants
module _ (form : Form) (n : ℕ) (long : form.least ≤ n) (within : is_laid_out form ≡ true) where
  parts : (list_all (is_within form.least) form.pieces ≡ true) × (list_all (is_within form.least) form.rest ≡ true)
  parts = all_of_both (is_within form.least) form.pieces form.rest within

  pub wider_pieces : list_all (is_within n) form.pieces ≡ true
  wider_pieces = wider form.least n long form.pieces parts.0

  pub wider_rest : list_all (is_within n) form.rest ≡ true
  wider_rest = wider form.least n long form.rest parts.1

-- a form that is found passes the test, and what holds of all forms holds of it
pub found : (test all : Form → Bool) (forms : List Form) (form : Form) → find_form test forms ≡ Some form → list_all all forms ≡ true
    → (all form ≡ true) × (test form ≡ true)
found test all [] form e s = cc
found test all (f ∷ fs) form e s = by (test f) refl e (found test all fs form)
  where
    by : (b : Bool) → test f ≡ b → cond b (Some f) (find_form test fs) ≡ Some form
        → (find_form test fs ≡ Some form → list_all all fs ≡ true → (all form ≡ true) × (test form ≡ true))
        → (all form ≡ true) × (test form ≡ true)
    by false p q h = h q (and_parts (all f) (list_all all fs) s).1
    by true p q h = let same : f ≡ form = cc in subst (λ (x : Form). (all x ≡ true) × (test x ≡ true)) same ((and_parts (all f) (list_all all fs) s).0, p)

-- the data are as long as the form wants
pub long_enough : (display_only : Bool) (kind sub_kind : ℕ) (content : List ℕ) (form : Form) → matches display_only kind sub_kind content form ≡ true
    → form.least ≤ length content
long_enough display_only kind sub_kind content form e =
    let long : form.least + form.more ≤ length content = leb-true _ _ (and_parts _ _ (and_parts _ _ e).1).0 in omega (arith, long)

-- the parts of the text of a node
pub parts_text : (form : Form) (content : List ℕ)
    → form.start ++ (pieces_text form.pieces content
    ++ (tail_text form.tail (slice_range content (form.least) (length content)) ++ (form.close ++ pieces_text form.rest content))) ≡ form_text form content
parts_text form content = ap (λ (x : List ℕ). form.start ++ (pieces_text form.pieces content ++ (tail_text form.tail x ++ (form.close ++ pieces_text form.rest content))))
    (between_to_end content (form.least) (length content) (omega arith))
