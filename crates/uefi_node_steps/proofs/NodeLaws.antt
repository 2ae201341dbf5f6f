-- The laws of nodes.
use Rattle.std.proofs.Common.{◌≡◌, ℕ, ◌≤◌, Bool, true, false, cond, eqb, List, [], ◌∷◌, ◌++◌, ◌&&◌, ◌||◌, not, inl, inr, length, refl, sym, ap, subst, ◌∙◌, arith}
use Rattle.std.proofs.lemmas.Bool.{and_from, and_parts, cond-true}
use Rattle.std.proofs.lemmas.List.{append-nil, take-append-drop}
use Rattle.std.specs.Cmp.Lexicographic.{pointwise, same_text}
use Rattle.std.specs.Prelude.{nat_eq, Option, Some, None, Result, Ok, Err, ◌⊎◌}
use borrow.Author.Tests.{eq-eqb, eqb-true}
use Rattle.uefi_node_steps.specs.Leaves.{Read, ◌>>=◌, stop_at}
use Rattle.uefi_node_steps.specs.Nodes.{IsToldNode, Node, ReadsNodes, exact_read, find_form, if_exact, if_told, is_back, is_printed, node_of, node_text, parts_in, printed_read, prints, tells, text_in, told_read, with_rest}
use Rattle.uefi_node_steps.specs.Steps.{Parts}
use Rattle.uefi_node_steps.specs.Table.{FitsForm, Form, IsOf, Tabled, all_differ, are_sound, form_leaf, form_text, forms_read, is_exact, is_read, is_sound_form}
use Rattle.uefi_node_steps.specs.declared.steps.Expected.TheVariants as expected
use Rattle.uefi_node_steps.specs.declared.steps.Mode.{Mode}
use Rattle.uefi_node_steps.specs.declared.steps.Mode.TheVariants.{Read as ReadMode, Printed, Display, Libefivar, People}
use Rattle.uefi_node_steps.specs.declared.steps.Stop.{Stop}
use Rattle.uefi_node_steps.proofs.Combinations.{Goes, next}
use Rattle.uefi_node_steps.proofs.TableLaws.{Reads, form_keeps, of_all, table_reads, unless}

-- a text is equal to itself
pub same_self : (text : List ℕ) → pointwise nat_eq text text ≡ true
same_self [] = refl
same_self (c ∷ cs) = rw (eq-eqb c c refl) (same_self cs)

-- a text that begins with what is printed
strip_again : (printed rest : List ℕ) → printed_read printed (printed ++ rest) ≡ Ok rest
strip_again [] rest = refl
strip_again (d ∷ ds) rest = cond-true _ _ _ (eq-eqb d d refl) ∙ strip_again ds rest

strip_takes : (printed text rest : List ℕ) → printed_read printed text ≡ Ok rest → text ≡ printed ++ rest
strip_takes [] text rest e = cc
strip_takes (d ∷ ds) [] rest e = cc
strip_takes (d ∷ ds) (c ∷ cs) rest e = by (eqb c d) refl e (strip_takes ds cs rest)
  where
    by : (b : Bool) → eqb c d ≡ b → cond b (printed_read ds cs) (Err (stop_at (c ∷ cs) (expected.Letter d))) ≡ Ok rest → (printed_read ds cs ≡ Ok rest → cs ≡ ds ++ rest)
        → c ∷ cs ≡ d ∷ (ds ++ rest)
    by true s e h = λ i. eqb-true c d s i ∷ h e i
    by false s e h = cc

-- a form that was found
pub found_is : (test : Form → Bool) (forms : List Form) (form : Form) → find_form test forms ≡ Some form → IsOf form forms × (test form ≡ true)
found_is test [] form e = cc
found_is test (other ∷ forms) form e = by (test other) refl e (found_is test forms form)
  where
    by : (b : Bool) → test other ≡ b → cond b (Some other) (find_form test forms) ≡ Some form → (find_form test forms ≡ Some form → IsOf form forms × (test form ≡ true))
        → ((form ≡ other) ⊎ IsOf form forms) × (test form ≡ true)
    by true t e h = let same : other ≡ form = cc in (inl (sym same), ap test (sym same) ∙ t)
    by false t e h = let others = h e in (inr others.0, others.1)

pub exact_is_read : (mode : Mode) → is_exact mode ≡ true → is_read mode ≡ true
exact_is_read ReadMode e = refl
exact_is_read Printed e = cc
exact_is_read Display e = cc
exact_is_read Libefivar e = cc
exact_is_read People e = cc

-- told data is read back, and only told data is
pub back_again : (form : Form) → is_sound_form form ≡ true → (data_ : Parts) → FitsForm form data_ → is_back data_ ((form_leaf form).read ((form_leaf form).text data_)) ≡ true
back_again form s data_ f =
    let text : List ℕ = (form_leaf form).text data_ in
    ap (λ t. is_back data_ ((form_leaf form).read t)) (sym (append-nil text))
    ∙ ap (is_back data_) ((form_keeps form s).again data_ [] f refl) ∙ and_from _ _ (same_self data_.0) (same_self data_.1)

read_fits : (form : Form) (data_ : Parts) (text : List ℕ) (r : Read Parts) → Goes (FitsForm form) text r → is_back data_ r ≡ true → FitsForm form data_
read_fits form data_ text (Err stop) g b = cc
read_fits form data_ text (Ok read) g b =
    let same = and_parts (pointwise nat_eq read.0.0 data_.0) (pointwise nat_eq read.0.1 data_.1) b in
    subst (FitsForm form) (λ i. (same_text read.0.0 data_.0 (sym same.0) i, same_text read.0.1 data_.1 (sym same.1) i)) g.0

pub back_fits : (form : Form) → is_sound_form form ≡ true → (data_ : Parts) → is_back data_ ((form_leaf form).read ((form_leaf form).text data_)) ≡ true → FitsForm form data_
back_fits form s data_ b =
    let text : List ℕ = (form_leaf form).text data_ in read_fits form data_ text _ ((form_keeps form s).goes text) b

module _ (forms : List Form) (sound : are_sound forms ≡ true) (differs : all_differ forms ≡ true) where
  reads : Reads forms
  reads = table_reads forms sound differs

  -- a form of the table that prints and reads
  sound_at : (form : Form) → IsOf form forms → is_exact form.mode ≡ true → is_sound_form form ≡ true
  sound_at form o e = unless (is_read form.mode) (is_sound_form form) (of_all (λ (f : Form). not (is_read f.mode) || is_sound_form f) form forms o sound) (exact_is_read form.mode e)

  told_is : (node : Node) → tells (find_form (prints false node) forms) node.content ≡ true → IsToldNode forms node
  told_is node t = by (find_form (prints false node) forms) refl t
    where
      by : (found : Option Form) → find_form (prints false node) forms ≡ found → tells found node.content ≡ true → IsToldNode forms node
      by None e t = cc
      by (Some form) e t =
          let parts = and_parts (is_exact form.mode) _ t in
          record {
            form = form;
            found = e;
            exact = parts.0;
            told = back_fits form (sound_at form (found_is (prints false node) forms form e).0 parts.0) (parts_in form node.content) parts.1;
          }

  -- what a told node is printed in
  same_node : (node : Node) (t : IsToldNode forms node) → node_of (t.form, parts_in t.form node.content) ≡ node
  same_node node t =
      let test = (found_is (prints false node) forms t.form t.found).1 in
      let heads = and_parts (eqb t.form.kind node.kind && (eqb t.form.sub_kind node.sub_kind && is_printed false t.form.mode)) _ test in
      let kinds = and_parts (eqb t.form.kind node.kind) _ heads.0 in
      let sub_kinds = and_parts (eqb t.form.sub_kind node.sub_kind) _ kinds.1 in
      λ i. record { kind = eqb-true t.form.kind node.kind kinds.0 i; sub_kind = eqb-true t.form.sub_kind node.sub_kind sub_kinds.0 i; content = take-append-drop t.form.laid.size node.content i }

  abbrev chosen : Bool → Node × List ℕ → Stop → Read Node
  chosen b read stop = cond b (Ok read) (Err stop)

  told_again : (node : Node) (rest : List ℕ) → IsToldNode forms node → told_read forms (node_text false forms node ++ rest) ≡ Ok (node, rest)
  told_again node rest t =
      let x : Form × Parts = (t.form, parts_in t.form node.content) in
      let o = (found_is (prints false node) forms t.form t.found).0 in
      let read = reads.again x rest (record { listed = o; read = exact_is_read t.form.mode t.exact; told = t.told }) t.exact in
      let tells_it : tells (find_form (prints false node) forms) node.content ≡ true = ap (λ found. tells found node.content) t.found
      ∙ and_from _ _ t.exact (back_again t.form (sound_at t.form o t.exact) (parts_in t.form node.content) t.told) in
      ap (λ found. told_read forms (text_in found node.content ++ rest)) t.found
      ∙ next _ _ (if_told forms (form_text x ++ rest)) _ read (subst (λ (n : Node). chosen (tells (find_form (prints false n) forms) n.content) (n, rest) (stop_at
      (form_text x ++ rest) expected.Untold) ≡ Ok (node, rest)) (sym (same_node node t))
      (cond-true _ _ _ tells_it))

  -- what is read as people write it
  Told : List ℕ → Read Node → Type 0
  Told text (Ok read) = IsToldNode forms read.0 × (length read.1 ≤ length text)
  Told text (Err stop) = stop.left ≤ length text

  is_told : (text : List ℕ) (x : (Form × Parts) × List ℕ) → length x.1 ≤ length text → Told text (if_told forms text x)
  unfolding Told
  is_told text x l = by (tells (find_form (prints false (node_of x.0)) forms) (node_of x.0).content) refl
    where
      by : (b : Bool) → tells (find_form (prints false (node_of x.0)) forms) (node_of x.0).content ≡ b → Told text (cond b (Ok (node_of x.0, x.1)) (Err (stop_at text expected.Untold)))
      by true t = (told_is (node_of x.0) t, l)
      by false t = omega arith

  told_goes : (text : List ℕ) → Told text (told_read forms text)
  unfolding Told
  told_goes text = by (forms_read forms text) (reads.goes text)
    where
      by : (r : Read (Form × Parts)) → Goes (Tabled forms) text r → Told text (r >>= if_told forms text)
      by (Err stop) g = g
      by (Ok x) g = is_told text x g.1

  -- exact texts
  abbrev Taken : List ℕ → Node → List ℕ → Type 0
  Taken text node rest = (text ≡ node_text false forms node ++ rest) × (told_read forms text ≡ Ok (node, rest))

  exact_takes : (text : List ℕ) (node : Node) (rest : List ℕ) → exact_read forms text ≡ Ok (node, rest) → Taken text node rest
  unfolding Told
  exact_takes text node rest e = by (told_read forms text) refl e
    where
      taken : (other : Node) → IsToldNode forms other → (r : Result (List ℕ) Stop) → printed_read (node_text false forms other) text ≡ r
          → (r >>= with_rest other) ≡ Ok (node, rest) → Taken text node rest
      taken other t (Err stop) p e = cc
      taken other t (Ok after) p e =
          let same : (other, after) ≡ (node, rest) = cc in
          let whole = strip_takes (node_text false forms other) text after p in
          subst (λ (x : Node × List ℕ). Taken text x.0 x.1) same (whole, ap (told_read forms) whole ∙ told_again other after t)

      by : (r : Read Node) → told_read forms text ≡ r → (r >>= if_exact forms text) ≡ Ok (node, rest) → Taken text node rest
      by (Err stop) p e = cc
      by (Ok read) p e = taken read.0 (subst (Told text) p (told_goes text)).0 (printed_read (node_text false forms read.0) text) refl e

  pub reads_nodes : ReadsNodes forms
  unfolding Told
  reads_nodes = record {
    again = λ node rest t. next _ _ (if_exact forms (node_text false forms node ++ rest)) _ (told_again node rest t) (ap (λ r. r >>= with_rest node) (strip_again (node_text false forms node) rest));
    takes = λ text node rest e. (exact_takes text node rest e).0;
    more = λ text node rest e. (exact_takes text node rest e).1;
    told = λ text node rest e. subst (Told text) e (told_goes text);
    stops = λ text stop e. subst (Told text) e (told_goes text);
  }
