-- The forms of a table, one after the other.
use Rattle.std.proofs.Common.{◌≡◌, ℕ, ◌+◌, ◌^◌, ◌<◌, ◌≤◌, Bool, true, false, cond, eqb, ltb, leb, List, [], ◌∷◌, ◌++◌, ◌&&◌, inl, inr, length, take, get_or, refl, sym, ap, subst, ◌∙◌, append_assoc, arith}
use Rattle.std.proofs.Math.ListN.{replicate}
use Rattle.std.proofs.lemmas.Bool.{and_from, and_parts, cond-false, cond-true, le-leb, le-ltb, leb-false, leb-true, lt-leb, lt-ltb, ltb-false, ltb-true}
use Rattle.std.proofs.lemmas.List.{append-nil, get_or-take, take-replicate}
use Rattle.std.specs.List.{list_all}
use Rattle.std.specs.Prelude.{nat_le, nat_lt, Option, Some, None, Result, Ok, Err}
use Rattle.uefi_node_steps.specs.Heads.{IsHead, further_of, is_parts, is_small, parts_at, parts_read, reads_at}
use Rattle.uefi_node_steps.specs.Leaves.{ByteLeaf, Read, ◌>>=◌}
use Rattle.uefi_node_steps.specs.Nodes.{has_bytes}
use Rattle.uefi_node_steps.specs.Steps.{Laid, Parts, Step, blank, lists, put_all, step_leaf}
use Rattle.uefi_node_steps.specs.Table.{Form, IsOf, form_leaf, forms_read, further, is_read, is_sound_form, or_next}
use Rattle.uefi_node_steps.specs.Views.{add_part, after_these, filled_with, steps_in}
use Rattle.uefi_node_steps.specs.declared.steps.Items.{Items}
use Rattle.uefi_node_steps.specs.declared.steps.StepOf.TheVariants.{Literal, Field, Data, Many}
use Rattle.uefi_node_steps.specs.declared.steps.Stop.{Stop}
use Rattle.uefi_node_steps.proofs.CodeLaws.{code_reads}
use Rattle.uefi_node_steps.proofs.ItemLaws.{Sound, sound_is}

-- bytes at their offsets, of two lists
pub put_both : (some others : List (ℕ × ℕ)) (content : List ℕ) → put_all (some ++ others) content ≡ put_all others (put_all some content)
put_both [] others content = refl
put_both (b ∷ some) others content = put_both some others _

-- the furthest stop does not depend on where one begins
further_again : (a b c : Stop) → further a (further b c) ≡ further (further a b) c
further_again a b c = by (ltb c.left b.left) (ltb b.left a.left) refl refl
  where
    by : (cb ba : Bool) → ltb c.left b.left ≡ cb → ltb b.left a.left ≡ ba → further a (cond cb c b) ≡ further (cond ba b a) c
    by true true p q = cond-true _ _ _ (lt-ltb c.left a.left (omega (arith, ltb-true _ _ p, ltb-true _ _ q))) ∙ sym (cond-true _ _ _ p)
    by true false p q = refl
    by false true p q = cond-true _ _ _ q ∙ sym (cond-false _ _ _ p)
    by false false p q = cond-false _ _ _ q ∙ sym (cond-false _ _ _ (le-ltb c.left a.left (omega (arith, ltb-false _ _ p, ltb-false _ _ q))))

-- what is read after some stops
abbrev pub after_stops : {V : Type 0} → Option Stop → Read V → Read V
after_stops None read = read
after_stops (Some stop) (Ok read) = Ok read
after_stops (Some stop) (Err other) = Err (further stop other)

pub one_stop : (form : Form) (furthest : Option Stop) (stop : Stop) (r : Read (Form × Parts)) → after_stops furthest (or_next form (Err stop) r) ≡ after_stops (Some (further_of furthest stop)) r
one_stop form None stop (Ok read) = refl
one_stop form None stop (Err other) = refl
one_stop form (Some first) stop (Ok read) = refl
one_stop form (Some first) stop (Err other) = ap (λ s. Err s) (further_again first stop other)

pub one_read : (form : Form) (furthest : Option Stop) (read : Parts × List ℕ) (r : Read (Form × Parts)) → after_stops furthest (or_next form (Ok read) r) ≡ Ok ((form, read.0), read.1)
one_read form None read r = refl
one_read form (Some stop) read r = refl

pub no_form : (furthest : Option Stop) (stop : Stop) → after_stops {V = Form × Parts} furthest (Err stop) ≡ Err (further_of furthest stop)
no_form None stop = refl
no_form (Some first) stop = refl

-- the form that read a text is one of the table, and is read
pub form_of : (forms : List Form) (text : List ℕ) (x : Form × Parts) (rest : List ℕ) → forms_read forms text ≡ Ok (x, rest) → IsOf x.0 forms × (is_read x.0.mode ≡ true)
form_of [] text x rest e = cc
form_of (form ∷ forms) text x rest e = by (is_read form.mode) refl ((form_leaf form).read text) e (form_of forms text x rest)
  where
    other : (r : Read (Form × Parts)) (stop : Stop) → or_next form (Err stop) r ≡ Ok (x, rest) → r ≡ Ok (x, rest)
    other (Ok read) stop e = e
    other (Err next) stop e = cc

    by : (b : Bool) → is_read form.mode ≡ b → (r : Read Parts) → cond b (or_next form r (forms_read forms text)) (forms_read forms text) ≡ Ok (x, rest)
        → (forms_read forms text ≡ Ok (x, rest) → IsOf x.0 forms × (is_read x.0.mode ≡ true)) → IsOf x.0 (form ∷ forms) × (is_read x.0.mode ≡ true)
    by true b (Ok read) e h =
        let both : ((form, read.0), read.1) ≡ (x, rest) = cc in
        let same : form ≡ x.0 = ap (λ (y : (Form × Parts) × List ℕ). y.0.0) both in (inl (sym same), subst (λ (f : Form). is_read f.mode ≡ true) same b)
    by true b (Err stop) e h = let others = h (other (forms_read forms text) stop e) in (inr others.0, others.1)
    by false b r e h = let others = h e in (inr others.0, others.1)

-- the bytes that distinguish a form, in the head of data
pub head_bytes : (content head : List ℕ) (len n : ℕ) → IsHead content head len → n ≤ 56 → n ≤ len → (bytes : List (ℕ × ℕ)) → list_all (λ (b : ℕ × ℕ). nat_lt b.0 n) bytes ≡ true
    → has_bytes bytes head ≡ has_bytes bytes content
head_bytes content head len n h few short [] e = refl
head_bytes content head len n h few short (b ∷ bytes) e =
    let parts = and_parts (ltb b.0 n) _ e in
    let below : b.0 < n = ltb-true _ _ parts.0 in
    let same = sym (get_or-take len head b.0 0 (omega arith)) ∙ ap (λ (l : List ℕ). get_or l b.0 0) h.kept ∙ get_or-take 56 content b.0 0 (omega arith) in
    λ i. eqb (same i) b.1 && head_bytes content head len n h few short bytes parts.1 i

pub below_more : (n : ℕ) → n ≤ 56 → (bytes : List (ℕ × ℕ)) → list_all (λ (b : ℕ × ℕ). nat_lt b.0 n) bytes ≡ true → list_all (λ (b : ℕ × ℕ). nat_lt b.0 56) bytes ≡ true
below_more n few [] e = refl
below_more n few (b ∷ bytes) e =
    let parts = and_parts (ltb b.0 n) _ e in
    and_from _ _ (lt-ltb b.0 56 (omega (arith, ltb-true b.0 n parts.0))) (below_more n few bytes parts.1)

-- code that knows the head of a node finds out whether a form prints it
pub head_prints : (content head : List ℕ) (len : ℕ) → IsHead content head len → (form : Form) → is_small form ≡ true
    → leb (form.laid.size + form.more) len && has_bytes form.when head ≡ nat_le (form.laid.size + form.more) (length content) && has_bytes form.when content
head_prints content head len h form s =
    by (leb (form.laid.size + form.more) len) refl
  where
    small : (leb form.laid.size 56 ≡ true) × (nat_lt form.more (2 ^ 32) && list_all (λ (b : ℕ × ℕ). nat_lt b.0 form.laid.size) form.when ≡ true)
    small = and_parts _ _ s

    more : (nat_lt form.more (2 ^ 32) ≡ true) × (list_all (λ (b : ℕ × ℕ). nat_lt b.0 form.laid.size) form.when ≡ true)
    more = and_parts _ _ small.1

    size : form.laid.size ≤ 56
    size = leb-true _ _ small.0

    few : form.more < 2 ^ 32
    few = ltb-true _ _ more.0

    by : (b : Bool) → leb (form.laid.size + form.more) len ≡ b
        → b && has_bytes form.when head ≡ nat_le (form.laid.size + form.more) (length content) && has_bytes form.when content
    by true e =
        let counted = h.counted in
        let enough : form.laid.size + form.more ≤ len = leb-true _ _ e in
        let long : nat_le (form.laid.size + form.more) (length content) ≡ true = le-leb _ _ (omega (arith, size, few)) in
        head_bytes content head len form.laid.size h size (omega arith) form.when more.1 ∙ ap (λ (b : Bool). b && has_bytes form.when content) (sym long)
    by false e =
        let counted = h.counted in
        let over : len < form.laid.size + form.more = leb-false _ _ e in
        let none : nat_le (form.laid.size + form.more) (length content) ≡ false = lt-leb _ _ (omega (arith, size, few)) in
        ap (λ (b : Bool). b && has_bytes form.when content) (sym none)

-- the fixed bytes of a form, written to a buffer of zeros
pub blank_is : (laid : Laid) (some others : List (ℕ × ℕ)) (n : ℕ) → laid.bytes ≡ some ++ others → n ≡ laid.size → n ≤ 56
    → put_all others (put_all some (take n (replicate 56 0))) ≡ (blank laid).0
blank_is laid some others n b e few =
    ap (λ (l : List ℕ). put_all others (put_all some l)) (take-replicate n 56 0 few ∙ ap (λ (n : ℕ). replicate n 0) e)
    ∙ sym (put_both some others (replicate laid.size 0)) ∙ ap (λ (l : List (ℕ × ℕ)). put_all l (replicate laid.size 0)) (sym b)

-- what code puts after other data
abbrev tails : Read Parts → Read (List ℕ)
tails (Ok read) = Ok (read.0.1, read.1)
tails (Err stop) = Err stop

abbrev added : Step → Parts → List ℕ × List ℕ → Read Parts
added step data_ v = Ok (add_part step v.0 data_, v.1)

module _ (lists : Items → ByteLeaf) (front : List ℕ) where
  abbrev then_tails : List Step → Parts → Step → Read (List ℕ) → Read (List ℕ)
  then_tails steps data_ step r = tails ((r >>= added step data_) >>= λ (read : Parts × List ℕ). steps_in lists steps read.0 read.1)

  tails_are : (steps : List Step) (f g t text : List ℕ) → tails (steps_in lists steps (f, front ++ t) text) ≡ after_these front (tails (steps_in lists steps (g, t) text))
  tails_are [] f g t text = refl
  tails_are (step ∷ steps) f g t text = by step ((step_leaf lists step).read text) (tails_are steps)
    where
      by : (step : Step) (r : Read (List ℕ)) → ((f g t text : List ℕ) → tails (steps_in lists steps (f, front ++ t) text) ≡ after_these front (tails (steps_in lists steps (g, t) text)))
          → then_tails steps (f, front ++ t) step r ≡ after_these front (then_tails steps (g, t) step r)
      by step (Err stop) h = refl
      by (Literal letters) (Ok v) h = h f g t v.1
      by (Field field) (Ok v) h = h _ _ t v.1
      by (Data encoding) (Ok v) h = ap (λ (l : List ℕ). tails (steps_in lists steps (f, l) v.1)) (append_assoc front t v.0) ∙ h f g (t ++ v.0) v.1
      by (Many items) (Ok v) h = ap (λ (l : List ℕ). tails (steps_in lists steps (f, l) v.1)) (append_assoc front t v.0) ∙ h f g (t ++ v.0) v.1

pub reread : {T : Type 0} (codes : T → List ℕ) (form : Form) (text old new front found : List ℕ) (result : Result T Stop) → is_sound_form form ≡ true → reads_at form text ≡ true
    → filled_with {V = List ℕ × List ℕ} codes (new, found) result ≡ steps_in lists form.laid.steps (old, front) text → found ≡ front ++ (parts_at form text).1
reread codes form text old new front found result s r e = by result ((form_leaf form).read text) r (ap tails e ∙ same)
  where
    laid : Sound form.laid
    laid = sound_is form.laid (and_parts _ _ s).0

    same : tails (steps_in lists form.laid.steps (old, front) text) ≡ after_these front (tails ((form_leaf form).read text))
    same = ap (λ (l : List ℕ). tails (steps_in lists form.laid.steps (old, l) text)) (sym (append-nil front))
        ∙ tails_are lists front form.laid.steps old (blank form.laid).0 [] text ∙ ap (λ r. after_these front (tails r)) (code_reads lists form.laid text laid.apart)

    by : (result : Result _ Stop) (r : Read Parts) → is_parts r ≡ true → tails (filled_with {V = List ℕ × List ℕ} codes (new, found) result)
        ≡ after_these front (tails r) → found ≡ front ++ (parts_read r).1
    by result (Err stop) p e = cc
    by (Err stop) (Ok read) p e = cc
    by (Ok rest) (Ok read) p e = let both : (found, codes rest) ≡ (front ++ read.0.1, read.1) = cc in ap (λ (x : List ℕ × List ℕ). x.0) both
