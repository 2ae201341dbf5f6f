-- The texts of nodes in the forms of a table are read back, and what is read is printed so.
use Rattle.std.proofs.Common.{◌≡◌, ℕ, suc, ◌+◌, ◌≤◌, Bool, true, false, cond, eqb, leb, ltb, List, [], ◌∷◌, ◌&&◌, ◌||◌, ◌++◌, length, drop, refl, sym, ap, subst, ◌∙◌, append_assoc, length-append, arith}
use Rattle.std.proofs.lemmas.Bool.{and_from, and_parts}
use Rattle.std.specs.Prelude.{All, Option, Some, None, not, option_and_then}
use Rattle.std.specs.List.{list_all}
use Rattle.std.proofs.Math.Seq.{drop-append_seam}
use Rattle.std.proofs.lemmas.List.{take-append-le}
use Rattle.std.proofs.lemmas.Slice.{between_is}
use Rattle.std.proofs.lemmas.List.Elements.{All-append, All-drop, All-nil, All-cons}
use borrow.Author.Tests.{eq-eqb, eqb-true, ltb-true}
use Rattle.uefi_text.specs.Packed.{IsByte}
use Rattle.uefi_device_nodes.specs.Rows.{Form, Piece, fields_of, find_form, form_text, is_used, is_within, pieces_text, tail_text}
use Rattle.uefi_device_nodes.specs.Table.{text_in}
use Rattle.uefi_device_nodes.specs.declared.node_table.rows.Mode.{Mode}
use Rattle.uefi_device_nodes.specs.declared.node_table.rows.Mode.TheVariants.{Read, Printed, Display, Libefivar, People}
use Rattle.uefi_device_nodes.specs.Nodes.{Node, node_with}
use Rattle.uefi_node_reader.specs.FieldReading.{◌>>=◌, either_read, read_if}
use Rattle.uefi_node_reader.specs.WordReading.{after}
use Rattle.uefi_node_reader.specs.TableReading.{IsTabled, IsTailTold, IsWhole, all_differ, are_apart, blank, differ, ends_pieces, ends_tail, followed, form_place, form_read, forms_read, is_apart, is_kept, is_exact, is_open, is_read, is_sound, kept, overlay, pieces_differ, pieces_put, printed_in, prints, rest_read, table_read, tail_read}
use Rattle.uefi_node_reader.specs.WordReading.{clash, same_text}
use Rattle.uefi_node_reader.proofs.Digits.{some_pair}
use Rattle.uefi_node_reader.proofs.Literals.{after_again, after_some, after_takes, bind_some, clash_none, same_is}
use Rattle.uefi_device_nodes.proofs.Forms.{found, long_enough}
use Rattle.uefi_device_nodes.proofs.Lists.{all_of_both}
use Rattle.uefi_node_reader.proofs.PieceLaws.{Apart, alike, apart_parts, differ_none, overlay-append, pieces_again, pieces_takes, within_parts}
use Rattle.uefi_node_reader.proofs.TailLaws.{tail_again, tail_starts, tail_takes}

are_bytes : (bytes : List ℕ) → list_all (λ b. ltb b 256) bytes ≡ true → All IsByte bytes
are_bytes [] e = All-nil IsByte
are_bytes (b ∷ bs) e = let parts = and_parts (ltb b 256) (list_all (λ c. ltb c 256) bs) e in All-cons IsByte b bs (ltb-true b 256 parts.0) (are_bytes bs parts.1)

-- what is asked only where a test holds
asked : (a b : Bool) → a ≡ true → not a || b ≡ true → b ≡ true
asked true b p e = e
asked false b p e = cc

-- what the test of a form that is read says
pub record Sound (form : Form) : Type 0 where
  pub fields : list_all (is_within (length (blank form))) (fields_of form) ≡ true
  pub within : list_all (is_within (length (blank form))) form.pieces ≡ true
  pub rest_within : list_all (is_within (length (blank form))) form.rest ≡ true
  pub apart : Apart form.pieces form.rest
  pub ends : ends_pieces (is_open form.tail) form.pieces ≡ true
  pub rest_ends : ends_pieces false form.rest ≡ true
  pub tail_ends : ends_tail form.tail form.close ≡ true
  pub bytes : All IsByte (blank form)
  pub size : length (blank form) ≡ form.least

pub sound : (form : Form) → is_read form.mode ≡ true → is_sound form ≡ true → Sound form
sound form r e =
    let parts = and_parts (list_all (is_within (length (blank form))) (fields_of form) && are_apart (fields_of form)) _ (asked (is_read form.mode) _ r e) in
    let low = and_parts (list_all (is_within (length (blank form))) (fields_of form)) (are_apart (fields_of form)) parts.0 in
    let both = all_of_both (is_within (length (blank form))) form.pieces form.rest low.0 in
    let high = and_parts (ends_pieces (is_open form.tail) form.pieces && ends_pieces false form.rest) _ parts.1 in
    let ends = and_parts (ends_pieces (is_open form.tail) form.pieces) (ends_pieces false form.rest) high.0 in
    let last = and_parts (ends_tail form.tail form.close) _ high.1 in
    let fixed = and_parts (list_all (λ b. ltb b 256) (blank form)) _ last.1 in
    record {
      fields = low.0;
      within = both.0;
      rest_within = both.1;
      apart = apart_parts form.pieces form.rest low.1;
      ends = ends.0;
      rest_ends = ends.1;
      tail_ends = last.0;
      bytes = are_bytes (blank form) fixed.0;
      size = eqb-true _ _ fixed.1;
    }

-- a form that is read exactly is read
pub exact_is_read : (mode : Mode) → is_exact mode ≡ true → is_read mode ≡ true
exact_is_read Read e = refl
exact_is_read Printed e = cc
exact_is_read Display e = cc
exact_is_read Libefivar e = refl
exact_is_read People e = cc

-- what a form reads, where it is read
abbrev body : Form → List ℕ → Option (List ℕ × List ℕ)
body form text = after form.start text >>= λ t. pieces_put form.pieces (blank form) t >>= rest_read form

reads : (form : Form) (text : List ℕ) → is_exact form.mode ≡ true → form_read form text ≡ body form text
reads form text r = ap (λ (b : Bool). cond b (body form text) None) r

is_body : (form : Form) (text : List ℕ) (x : List ℕ × List ℕ) → form_read form text ≡ Some x → (is_exact form.mode ≡ true) × (body form text ≡ Some x)
is_body form text x e = by (is_exact form.mode) refl e
  where
    by : (b : Bool) → is_exact form.mode ≡ b → cond b (body form text) None ≡ Some x → (is_exact form.mode ≡ true) × (body form text ≡ Some x)
    by true p q = (p, q)
    by false p q = cc

-- the text of a node, with what follows
text_parts : (form : Form) (content rest : List ℕ) → form_text form content ++ rest
    ≡ form.start ++ (pieces_text form.pieces content ++ (tail_text form.tail (drop form.least content)
    ++ (form.close ++ (pieces_text form.rest content ++ rest))))
text_parts form content rest = simp append_assoc

form_again : (form : Form) → is_exact form.mode ≡ true → is_sound form ≡ true → (content : List ℕ) → form.least ≤ length content → All IsByte content → IsWhole form content
    → (rest : List ℕ) → form_read form (form_text form content ++ rest) ≡ Some (content, rest)
form_again form r s content l all whole rest =
    let is = sound form (exact_is_read form.mode r) s in
    let extra : List ℕ = drop form.least content in
    let others : List ℕ = pieces_text form.rest content ++ rest in
    let ending : List ℕ = form.close ++ others in
    let tail : List ℕ = tail_text form.tail extra ++ ending in
    let head : List ℕ = overlay form.pieces content (blank form) in
    let long : length (blank form) ≤ length content = omega (arith, is.size) in
    reads form (form_text form content ++ rest) r
    ∙ ap (λ (x : List ℕ). body form x) (text_parts form content rest)
    ∙ after_some _ (λ (t : List ℕ). pieces_put form.pieces (blank form) t >>= rest_read form)
    (pieces_text form.pieces content ++ tail) (after_again form.start (pieces_text form.pieces content ++ tail))
    ∙ after_some _ (rest_read form) (head, tail) (pieces_again (length (blank form)) form.pieces (blank form) content tail is.within (is_open form.tail) is.ends
    (tail_starts form.tail form.close extra others is.tail_ends) long all)
    ∙ after_some _ (λ (x : List ℕ × List ℕ). after form.close x.1 >>= λ t. pieces_put form.rest head t >>= followed x.0) (extra, ending)
    (tail_again form.tail form.close extra others is.tail_ends (All-drop IsByte form.least content all) whole.1)
    ∙ after_some _ (λ (t : List ℕ). pieces_put form.rest head t >>= followed extra) others (after_again form.close others)
    ∙ after_some _ (followed extra) (overlay form.rest content head, rest)
    (pieces_again (length (blank form)) form.rest head content rest is.rest_within false is.rest_ends (λ free. cc) long all)
    ∙ ap (λ (x : List ℕ). Some (x ++ extra, rest)) (sym (overlay-append form.pieces form.rest content (blank form)))
    ∙ ap (λ (x : List ℕ). Some (x, rest)) whole.0

-- what is known of data that were read in a form
pub record Taken (form : Form) (text content rest : List ℕ) : Type 0 where
  pub text_is : text ≡ form_text form content ++ rest
  pub read : is_exact form.mode ≡ true
  pub whole : IsWhole form content
  pub bytes : All IsByte content

-- fields lie within the head of data
pub values_same : (n : ℕ) (head extra : List ℕ) → length head ≡ n → (pieces : List Piece) → list_all (is_within n) pieces ≡ true
    → (pieces_text pieces (head ++ extra) ≡ pieces_text pieces head) × ((content : List ℕ) → overlay pieces (head ++ extra) content ≡ overlay pieces head content)
values_same n head extra l = alike (is_within n) (head ++ extra) head (λ p w.
    let here = within_parts n p w in
    let to : ℕ = p.place + p.width in
    between_is (head ++ extra) p.place to
    ∙ ap (λ (x : List ℕ). drop p.place x) (take-append-le to head extra (omega (arith, here.0, l))) ∙ sym (between_is head p.place to))

pub form_takes : (form : Form) → is_sound form ≡ true → (text content rest : List ℕ) → form_read form text ≡ Some (content, rest) → Taken form text content rest
form_takes form s text content rest read =
    let r = is_body form text (content, rest) read in
    let is = sound form (exact_is_read form.mode r.0) s in
    let n : ℕ = length (blank form) in
    let t = bind_some (after form.start text) _ (content, rest) r.1 in
    let h = bind_some (pieces_put form.pieces (blank form) t.0) (rest_read form) (content, rest) t.2 in
    let x = bind_some (tail_read form.tail form.close h.0.1) _ (content, rest) h.2 in
    let c = bind_some (after form.close x.0.1) _ (content, rest) x.2 in
    let f = bind_some (pieces_put form.rest h.0.0 c.0) (followed x.0.0) (content, rest) c.2 in
    let same = some_pair (f.0.0 ++ x.0.0, f.0.1) (content, rest) f.2 in
    let fields = pieces_takes n form.pieces (blank form) t.0 h.0.0 h.0.1 is.within is.apart.front refl is.bytes h.1 in
    let tail = tail_takes form.tail form.close h.0.1 x.0.0 x.0.1 x.1 in
    let others = pieces_takes n form.rest h.0.0 c.0 f.0.0 f.0.1 is.rest_within is.apart.back fields.size fields.bytes f.1 in
    let first : List ℕ = h.0.0 in
    let head : List ℕ = f.0.0 in
    let extra : List ℕ = x.0.0 in
    let size : length head ≡ n = others.size ∙ fields.size in
    let unchanged = alike (λ p. list_all (is_apart p) form.rest) head first others.others form.pieces is.apart.both in
    let values = values_same n head extra size form.pieces is.within in
    let rest_values = values_same n head extra size form.rest is.rest_within in
    let left : drop form.least (head ++ extra) ≡ extra = ap (λ (k : ℕ). drop k (head ++ extra)) (sym is.size ∙ sym size) ∙ drop-append_seam head extra in
    let made : Taken form text (head ++ extra) rest = record {
      text_is = after_takes form.start text t.0 t.1 ∙ ap (λ (y : List ℕ). form.start ++ y) (fields.text_is
          ∙ ap (λ (y : List ℕ). pieces_text form.pieces first ++ y) (tail.0 ∙ ap (λ (y : List ℕ). tail_text form.tail extra ++ y)
          (after_takes form.close x.0.1 c.0 c.1 ∙ ap (λ (y : List ℕ). form.close ++ y)
          (others.text_is ∙ ap (λ (y : List ℕ). pieces_text form.rest head ++ y) same.1))))
          ∙ (λ i. form.start ++ (sym (values.0 ∙ unchanged.0) i ++ (tail_text form.tail (sym left i) ++ (form.close ++ (sym rest_values.0 i ++ rest)))))
          ∙ sym (text_parts form (head ++ extra) rest);
      read = r.0;
      whole = (
        ap (λ (y : List ℕ). y ++ drop form.least (head ++ extra)) (overlay-append form.pieces form.rest (head ++ extra) (blank form)
            ∙ rest_values.1 (overlay form.pieces (head ++ extra) (blank form))
            ∙ ap (λ (y : List ℕ). overlay form.rest head y) (values.1 (blank form) ∙ unchanged.1 (blank form) ∙ fields.overlaid)
            ∙ others.overlaid) ∙ ap (λ (y : List ℕ). head ++ y) left,
        subst (λ (y : List ℕ). IsTailTold form.tail form.close y) (sym left) tail.2,
      );
      bytes = All-append IsByte head extra others.bytes tail.1;
    } in
    subst (λ (y : List ℕ). Taken form text y rest) same.0 made

-- the place of the form that a node is printed in
placed : (test : Form → Bool) (before : List Form) (form : Form) (others : List Form) → form_place test (before ++ form ∷ others) ≡ length before
    → find_form test (before ++ form ∷ others) ≡ Some form
placed test [] form others e = by (test form) refl e
  where
    by : (b : Bool) → test form ≡ b → cond b 0 (form_place test others + 1) ≡ 0 → cond (test form) (Some form) (find_form test others) ≡ Some form
    by true p q = ap (λ (b : Bool). cond b (Some form) (find_form test others)) p
    by false p q = absurd (omega arith)
placed test (b ∷ bs) form others e = by (test b) refl e (placed test bs form others)
  where
    by : (t : Bool) → test b ≡ t → cond t 0 (form_place test (bs ++ form ∷ others) + 1) ≡ suc (length bs)
        → (form_place test (bs ++ form ∷ others) ≡ length bs → find_form test (bs ++ form ∷ others) ≡ Some form)
        → cond (test b) (Some b) (find_form test (bs ++ form ∷ others)) ≡ Some form
    by true p q h = absurd (omega arith)
    by false p q h = ap (λ (t : Bool). cond t (Some b) (find_form test (bs ++ form ∷ others))) p ∙ h (omega arith)

some_takes : (all before forms : List Form) → all ≡ before ++ forms → list_all is_sound forms ≡ true → (text : List ℕ) (node : Node) (rest : List ℕ)
    → forms_read all (length before) forms text ≡ Some (node, rest) → IsTabled all node × (text ≡ printed_in all node ++ rest)
some_takes all before [] a s text node rest e = cc
some_takes all before (f ∷ fs) a s text node rest e =
    let parts = and_parts (is_sound f) (list_all is_sound fs) s in
    by (form_read f text) refl (form_takes f parts.0 text) e (some_takes all (before ++ f ∷ []) fs (a ∙ sym (append_assoc before (f ∷ []) fs)) parts.1 text node rest)
  where
    Told : Type 0
    Told = IsTabled all node × (text ≡ printed_in all node ++ rest)

    next : ℕ
    next = length before + 1

    here : (content left : List ℕ) → Taken f text content left → (t : Bool) → is_kept all (length before) (node_with f.kind f.sub_kind content) ≡ t
        → either_read (read_if t (node_with f.kind f.sub_kind content) left) (forms_read all next fs text) ≡ Some (node, rest)
        → (forms_read all next fs text ≡ Some (node, rest) → Told) → Told
    here content left r false p q h = h q
    here content left r true p q h =
        let made : Node = node_with f.kind f.sub_kind content in
        let same = some_pair (made, left) (node, rest) q in
        let tests = and_parts (eqb (form_place (prints made) all) (length before)) (leb (length content) 0xfffb) p in
        let is_here : form_place (prints made) (before ++ f ∷ fs) ≡ length before = ap (λ (l : List Form). form_place (prints made) l) (sym a) ∙ eqb-true _ _ tests.0 in
        let chosen : find_form (prints made) all ≡ Some f = ap (λ (l : List Form). find_form (prints made) l) a ∙ placed (prints made) before f fs is_here in
        let told : IsTabled all made = record { form = f; found = chosen; read = r.read; whole = r.whole; bytes = r.bytes; fits = tests.1 } in
        let printed : printed_in all made ≡ form_text f content = ap (λ (o : Option Form). text_in o content) chosen in (
          subst (λ (x : Node). IsTabled all x) same.0 told,
          r.text_is ∙ ap (λ (x : List ℕ). x ++ left) (sym printed) ∙ (λ i. printed_in all (same.0 i) ++ same.1 i),
        )

    by : (r : Option (List ℕ × List ℕ)) → form_read f text ≡ r → ((content left : List ℕ) → form_read f text ≡ Some (content, left) → Taken f text content left)
        → either_read (kept all (length before) f r) (forms_read all next fs text) ≡ Some (node, rest)
        → (forms_read all (length (before ++ f ∷ [])) fs text ≡ Some (node, rest) → Told) → Told
    by None p t q h = h (ap (λ (n : ℕ). forms_read all n fs text) (length-append before (f ∷ [])) ∙ q)
    by (Some x) p t q h =
        here x.0 x.1 (t x.0 x.1 p) (is_kept all (length before) (node_with f.kind f.sub_kind x.0)) refl q
        (λ r. h (ap (λ (n : ℕ). forms_read all n fs text) (length-append before (f ∷ [])) ∙ r))

-- what is read is told by the table, and is printed so
pub table_takes : (forms : List Form) → list_all is_sound forms ≡ true → (text : List ℕ) (node : Node) (rest : List ℕ)
    → table_read forms text ≡ Some (node, rest) → IsTabled forms node × (text ≡ printed_in forms node ++ rest)
table_takes forms s text node rest e = some_takes forms [] forms refl s text node rest e

-- where the form stands that is found
record Stands (test : Form → Bool) (forms : List Form) (form : Form) : Type 0 where
  pub before : List Form
  pub others : List Form
  pub all : forms ≡ before ++ form ∷ others
  pub place : form_place test forms ≡ length before

stands : (test : Form → Bool) (forms : List Form) (form : Form) → find_form test forms ≡ Some form → Stands test forms form
stands test [] form e = cc
stands test (f ∷ fs) form e = by (test f) refl e (stands test fs form)
  where
    by : (b : Bool) → test f ≡ b → cond b (Some f) (find_form test fs) ≡ Some form → (find_form test fs ≡ Some form → Stands test fs form) → Stands test (f ∷ fs) form
    by true p q h = let same : f ≡ form = cc in
        record { before = []; others = fs; all = ap (λ (x : Form). x ∷ fs) same; place = ap (λ (b : Bool). cond b 0 (form_place test fs + 1)) p }
    by false p q h = let rest = h q in
        record {
          before = f ∷ rest.before;
          others = rest.others;
          all = ap (λ (l : List Form). f ∷ l) rest.all;
          place = ap (λ (b : Bool). cond b 0 (form_place test fs + 1)) p ∙ ap (λ (n : ℕ). n + 1) rest.place ∙ omega arith;
        }

-- a form is not read where a node stands in another
not_read : (one other : Form) → differ one other ≡ true → is_exact other.mode ≡ true → is_sound other ≡ true → (content rest : List ℕ) → other.least ≤ length content
    → All IsByte content → form_read one (form_text other content ++ rest) ≡ None
not_read one other d r s content rest l all = first (is_exact one.mode) refl
  where
    is : Sound other
    is = sound other (exact_is_read other.mode r) s

    tail : List ℕ
    tail = tail_text other.tail (drop other.least content) ++ (other.close ++ (pieces_text other.rest content ++ rest))

    others : List ℕ
    others = pieces_text other.pieces content ++ tail

    go : Option (List ℕ) → Option (List ℕ × List ℕ)
    go o = option_and_then (λ (t : List ℕ). pieces_put one.pieces (blank one) t >>= rest_read one) o

    by : (b : Bool) → clash one.start other.start ≡ b → b || (same_text one.start other.start && pieces_differ one.pieces other.pieces) ≡ true
        → go (after one.start (other.start ++ others)) ≡ None
    by true p q = ap go (clash_none one.start other.start others p)
    by false p q =
        let parts = and_parts (same_text one.start other.start) (pieces_differ one.pieces other.pieces) q in
        ap go (ap (λ (y : List ℕ). after y (other.start ++ others)) (same_is one.start other.start parts.0) ∙ after_again other.start others)
        ∙ ap (λ (o : Option (List ℕ × List ℕ)). option_and_then (rest_read one) o)
        (differ_none (length (blank other)) one.pieces other.pieces (blank one) content tail parts.1 is.within (is_open other.tail) is.ends
        (tail_starts other.tail other.close (drop other.least content) (pieces_text other.rest content ++ rest) is.tail_ends) (omega (arith, is.size)) all)

    first : (b : Bool) → is_exact one.mode ≡ b → form_read one (form_text other content ++ rest) ≡ None
    first false p = ap (λ (b : Bool). cond b (body one (form_text other content ++ rest)) None) p
    first true p =
        reads one (form_text other content ++ rest) p ∙ ap (λ (x : List ℕ). body one x) (text_parts other content rest)
        ∙ by (clash one.start other.start) refl (asked (is_exact other.mode) _ r (asked (is_exact one.mode) _ p d))

one_of : (one form : Form) (before others : List Form) → list_all (differ one) (before ++ form ∷ others) ≡ true → differ one form ≡ true
one_of one form [] others e = (and_parts (differ one form) (list_all (differ one) others) e).0
one_of one form (b ∷ bs) others e = one_of one form bs others (and_parts (differ one b) (list_all (differ one) (bs ++ form ∷ others)) e).1

skips : (all : List Form) (before : List Form) (form : Form) (others : List Form) (place : ℕ) → all_differ (before ++ form ∷ others) ≡ true
    → is_exact form.mode ≡ true → is_sound form ≡ true → (content rest : List ℕ) → form.least ≤ length content → All IsByte content
    → forms_read all place (before ++ form ∷ others) (form_text form content ++ rest) ≡ forms_read all (place + length before) (form ∷ others) (form_text form content ++ rest)
skips all [] form others place d r s content rest l bytes = ap (λ (n : ℕ). forms_read all n (form ∷ others) (form_text form content ++ rest)) {x = place} {y = place + 0} (omega arith)
skips all (b ∷ bs) form others place d r s content rest l bytes =
    let parts = and_parts (list_all (differ b) (bs ++ form ∷ others)) (all_differ (bs ++ form ∷ others)) d in
    let text : List ℕ = form_text form content ++ rest in
    ap (λ (o : Option (List ℕ × List ℕ)). either_read (kept all place b o) (forms_read all (place + 1) (bs ++ form ∷ others) text))
    (not_read b form (one_of b form bs others parts.0) r s content rest l bytes)
    ∙ skips all bs form others (place + 1) parts.1 r s content rest l bytes
    ∙ ap (λ (n : ℕ). forms_read all n (form ∷ others) text) {x = place + 1 + length bs} {y = place + suc (length bs)} (omega arith)

-- a node that is told by the table is read from its text
pub table_again : (forms : List Form) → list_all is_sound forms ≡ true → all_differ forms ≡ true → (node : Node) → IsTabled forms node → (rest : List ℕ)
    → table_read forms (printed_in forms node ++ rest) ≡ Some (node, rest)
table_again forms s d node told rest =
    let form : Form = told.form in
    let st = stands (prints node) forms form told.found in
    let is = found (prints node) is_sound forms form told.found s in
    let long = long_enough false node.device_type node.sub_type node.content form is.1 in
    let kinds = and_parts (eqb form.kind node.device_type) _ (and_parts (eqb form.kind node.device_type && (eqb form.sub_kind node.sub_type && is_used false form.mode)) _ is.1).0 in
    let kind = eqb-true form.kind node.device_type kinds.0 in
    let sub_kind = eqb-true form.sub_kind node.sub_type (and_parts (eqb form.sub_kind node.sub_type) (is_used false form.mode) kinds.1).0 in
    let text : List ℕ = form_text form node.content ++ rest in
    let place : ℕ = 0 + length st.before in
    let made : node_with form.kind form.sub_kind node.content ≡ node = λ i. node_with (kind i) (sub_kind i) node.content in
    let here : form_place (prints node) forms ≡ place = st.place ∙ omega arith in
    let is_here : is_kept forms place node ≡ true = and_from _ _ (eq-eqb _ place here) told.fits in
    ap (λ (o : Option Form). table_read forms (text_in o node.content ++ rest)) told.found
    ∙ ap (λ (l : List Form). forms_read forms 0 l text) st.all
    ∙ skips forms st.before form st.others 0 (subst (λ (l : List Form). all_differ l ≡ true) st.all d) told.read is.0 node.content rest long told.bytes
    ∙ ap (λ (o : Option (List ℕ × List ℕ)). either_read (kept forms place form o) (forms_read forms (place + 1) st.others text))
    (form_again form told.read is.0 node.content long told.bytes told.whole rest)
    ∙ ap (λ (x : Node). either_read (read_if (is_kept forms place x) x rest) (forms_read forms (place + 1) st.others text)) made
    ∙ ap (λ (b : Bool). either_read (read_if b node rest) (forms_read forms (place + 1) st.others text)) is_here

-- a text is not read by forms of which each begins otherwise
pub unread : (all : List Form) (place : ℕ) (forms : List Form) (start others : List ℕ) → list_all (λ f. clash f.start start) forms ≡ true
    → forms_read all place forms (start ++ others) ≡ None
unread all place [] start others e = refl
unread all place (f ∷ fs) start others e =
    let parts = and_parts (clash f.start start) (list_all (λ g. clash g.start start) fs) e in
    let none : body f (start ++ others) ≡ None = ap (λ (o : Option (List ℕ)). option_and_then (λ (t : List ℕ). pieces_put f.pieces (blank f) t >>= rest_read f) o)
    (clash_none f.start start others parts.0) in
    ap (λ (o : Option (List ℕ × List ℕ)). either_read (kept all place f o) (forms_read all (place + 1) fs (start ++ others))) (by (is_exact f.mode) none)
    ∙ unread all (place + 1) fs start others parts.1
  where
    by : (b : Bool) → body f (start ++ others) ≡ None → cond b (body f (start ++ others)) None ≡ None
    by true p = p
    by false p = refl
