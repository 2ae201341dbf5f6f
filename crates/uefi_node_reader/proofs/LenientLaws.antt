-- What is read leniently is told, and what is read strictly is read so too.
use Rattle.std.proofs.Common.{◌≡◌, ◌++◌, append_assoc, take, ℕ, suc, ◌+◌, ◌<◌, Bool, true, false, cond, eqb, ltb, not, ◌==◌, ◌&&◌, ◌⊎◌, List, [], ◌∷◌, drop, refl, sym, ap, subst, ◌∙◌, inl, inr, arith, true≢false}
use Rattle.std.specs.Prelude.{IfSome, Option, Some, None, Result, Ok, Err, codes, position}
use Rattle.std.specs.Char.{to_ascii_uppercase}
use Rattle.std.specs.List.{list_all, list_any, position_or_len}
use Rattle.std.specs.Option.{ok_or, option_map, option_or}
use Rattle.std.specs.Result.{result_map_both}
use Rattle.std.specs.Str.{chars, is_utf8}
use borrow.Author.Tests.{ltb-true}
use Rattle.std.proofs.lemmas.Bool.{and_parts}
use Rattle.std.proofs.lemmas.List.{take-append-drop}
use Rattle.uefi_device_nodes.specs.Rows.{Form}
use Rattle.uefi_device_nodes.specs.Table.{forms}
use Rattle.uefi_device_nodes.specs.Nodes.{Node, node_with}
use Rattle.uefi_node_reader.specs.FieldReading.{read_if}
use Rattle.uefi_device_nodes.specs.NodeTexts.{node_text}
use Rattle.uefi_node_reader.specs.LenientFields.{after_letter, after_literal, any_number, begins_base, literal_left, past_base}
use Rattle.uefi_node_reader.specs.Ambiguous.{ambiguous_stop}
use Rattle.uefi_node_reader.specs.LenientCalls.{begins_call_name, call_told, call_tried, cut_call, form_told, form_tried, forms_tried, is_textless, named_told, names_tried, plain_names, plain_told, sub_type_told, tidied, told_in, types_told, whole}
use Rattle.uefi_node_reader.specs.LenientNodes.{call_read, or_short, or_textless, IsRestOf, bare_name, bare_read, begins_call, call_in, end_fault, ended, ended_at, exact_or, cut_file, fault_at_byte, file_end, file_in, file_or_call, is_escaped_name, lenient_read, named_read, or_fault, rooted, spaced, stop_fault, typed_name, written_read}
use Rattle.uefi_node_reader.specs.Notations.{head_in, lenient}
use Rattle.uefi_node_reader.specs.Stops.{◌>?◌, rest_end, stop_at, stop_of}
use Rattle.uefi_node_reader.specs.NamedFiles.{IsTold, before_spaces, ends_name, is_after_node, is_name, name_bytes, name_data, name_read, node_read, past_spaces}
use Rattle.uefi_node_reader.specs.TableReading.{is_empty, is_read, is_sound, rest_read}
use Rattle.uefi_device_nodes.specs.declared.node_table.rows.Mode.{Mode}
use Rattle.uefi_device_nodes.specs.declared.node_table.rows.Mode.TheVariants.{Read, Printed, Display, Libefivar, People}
use Rattle.uefi_node_reader.specs.declared.errors.faults.Expected.TheVariants as expected
use Rattle.uefi_node_reader.specs.declared.errors.faults.NodeFault.{NodeFault}
use Rattle.uefi_node_reader.specs.declared.errors.faults.Stop.{Stop}
use Rattle.uefi_node_reader.proofs.Digits.{some_pair}
use Rattle.uefi_node_reader.proofs.Groups.{table_sound}
use Rattle.uefi_node_reader.specs.WordReading.{after}
use Rattle.uefi_node_reader.proofs.LenientFields.{form_set_in}
use Rattle.uefi_node_reader.proofs.LenientNumbers.{number_small}
use Rattle.uefi_node_reader.proofs.Literals.{bind_ok, bind_some, map_ok, ok_same, ok_some}
use Rattle.uefi_node_reader.proofs.NamedFiles.{name_takes}
use Rattle.uefi_node_reader.proofs.NodeLaws.{node_starts, node_takes}
use Rattle.uefi_node_reader.proofs.PlainNodes.{rest_takes}
use Rattle.uefi_node_reader.proofs.Spaces.{IsEnd, past_spaces-after, rest_then, spaces_end, whole_end}
use Rattle.uefi_node_reader.specs.ShortAddresses.{short_ipv6}
use Rattle.uefi_node_reader.specs.TextCalls.{texts_tried}
use Rattle.uefi_node_reader.proofs.ShortAddresses.{short_told}
use Rattle.uefi_node_reader.proofs.TextCalls.{texts_told}
use Rattle.uefi_node_reader.proofs.ToldForms.{all_told, next_way, of_form, told_as}
use Rattle.uefi_node_reader.proofs.ToldNodes.{tells_told}

-- what was read, if a test holds
if_read : (b : Bool) (x node : Node) (r rest : List ℕ) → read_if b x r ≡ Some (node, rest)
    → (b ≡ true) × (x ≡ node) × (r ≡ rest)
if_read false x node r rest e = cc
if_read true x node r rest e = let p = some_pair (x, r) (node, rest) e in (refl, p.0, p.1)

-- a form whose start and fields were read
abbrev ended_row : Form → List ℕ × List ℕ → Result Node Stop
ended_row form read = ok_or (told_in form (rest_read form read)) (stop_of (rest_end form.tail form.close read.1))

module _ (form : Form) (text : List ℕ) (read : List ℕ × List ℕ) (fields : Ok read ≡ head_in lenient form text) where
  from_fields : ended_row form read ≡ form_told form text
  from_fields = ap (λ (r : Result (List ℕ × List ℕ) Stop). r >? ended_row form) fields

  last : Option Node → Result Node Stop
  last o = ok_or o (stop_of (rest_end form.tail form.close read.1))

  pub told_by : (node : Node) → Some node ≡ told_in form (rest_read form read) → Ok node ≡ form_told form text
  unfolding last
  told_by node told = ap last told ∙ from_fields

  pub untold_by : (stop : Stop) → None ≡ told_in form (rest_read form read) → stop ≡ stop_of (rest_end form.tail form.close read.1)
      → Err stop ≡ form_told form text
  unfolding last
  untold_by stop told is = ap (λ (s : Stop). Err s) is ∙ ap last told ∙ from_fields

form_is_told : (form : Form) → is_sound form ≡ true → is_read form.mode ≡ true → (text : List ℕ) (node : Node)
    → form_told form text ≡ Ok node → IsTold node
form_is_told form sound mode text node e =
    let fields = bind_ok (head_in lenient form text) _ node e in
    let start = bind_ok (after_literal form.start text) _ fields.0 fields.1 in
    let told = told_as form (rest_read form fields.0) node (ok_some (told_in form (rest_read form fields.0)) _ node fields.2) in
    subst IsTold told.3 (inl (tells_told form (of_form form told.0.0)
    (form_set_in form sound mode start.0 told.0.0 told.0.1 fields.0 start.2 told.1) told.2))

tried_told : (form : Form) → is_sound form ≡ true → (text : List ℕ) (node : Node) → form_tried form text ≡ Ok node → IsTold node
tried_told form sound text node e = by (begins_call_name form.start text) form.mode refl e
  where
    textless : (b : Bool) → is_read form.mode ≡ true
        → cond b (result_map_both (λ (n : Node). n) (λ (s : Stop). Some s) (form_told form text)) (Err None) ≡ Ok node
        → IsTold node
    textless false m q = cc
    textless true m q =
        let read = map_ok (λ (n : Node). n) (λ (s : Stop). Some s) (form_told form text) node q in
        subst IsTold read.2 (form_is_told form sound m text read.0 read.1)

    by : (b : Bool) (mode : Mode) → form.mode ≡ mode → cond b (named_told mode form text) (Err None) ≡ Ok node → IsTold node
    by false mode m q = cc
    by true Read m q = textless (is_textless form.tail) (ap is_read m) q
    by true Printed m q = cc
    by true Display m q = cc
    by true Libefivar m q = cc
    by true People m q = textless (is_textless form.tail) (ap is_read m) q

forms_told : (all : List Form) → list_all is_sound all ≡ true → (furthest : Option Stop) (text : List ℕ) (node : Node)
    → forms_tried all furthest text ≡ Ok node → IsTold node
forms_told all sound furthest text node e =
    all_told (λ form. form_tried form text) is_sound (λ form s. tried_told form s text) 0 all sound furthest node e

-- a node after which nothing stands
whole_read : (o : Option (Node × List ℕ)) (node : Node) → whole o ≡ Some node
    → (rest : List ℕ) × (o ≡ Some (node, rest))
whole_read None node e = cc
whole_read (Some read) node e = by (is_empty read.1) e
  where
    by : (b : Bool) → cond b (Some read.0) None ≡ Some node
        → (rest : List ℕ) × (Some read ≡ Some (node, rest))
    by false q = cc
    by true q = let same : read.0 ≡ node = cc in (read.1, λ i. Some (same i, read.1))

sub_type_is_told : (kind : ℕ) → kind < 256 → (text : List ℕ) (node : Node) (rest : List ℕ)
    → sub_type_told kind text ≡ Some (node, rest) → IsTold node
sub_type_is_told kind small text node rest e =
    let s = bind_some (any_number 256 text) _ (node, rest) e in
    inr (inl (rest_takes kind s.0.0 small (number_small 256 text s.0.0 s.0.1 (omega arith) s.1) s.0.1 node rest s.2))

types_are_told : (kind : Option ℕ) → IfSome kind (λ n. n < 256) → (text : List ℕ) (node : Node) (rest : List ℕ)
    → types_told kind text ≡ Some (node, rest) → IsTold node
types_are_told (Some kind) small text node rest e = sub_type_is_told kind small text node rest e
types_are_told None small text node rest e =
    let k = bind_some (any_number 256 text) _ (node, rest) e in
    let u = bind_some (after (codes ",") k.0.1) _ (node, rest) k.2 in
    sub_type_is_told k.0.0 (number_small 256 text k.0.0 k.0.1 (omega arith) k.1) u.0 node rest u.2

-- the test for a type that a name stands for: a byte
abbrev is_byte : Option ℕ → Bool
is_byte None = true
is_byte (Some n) = ltb n 256

plain_is_told : (kind : Option ℕ) → IfSome kind (λ n. n < 256) → (r : Result (List ℕ) Stop) (node : Node)
    → plain_told kind r ≡ Ok node → IsTold node
plain_is_told kind small (Err stop) node e = cc
plain_is_told kind small (Ok rest) node e =
    let read = whole_read (types_told kind rest) node (ok_some (whole (types_told kind rest)) _ node e) in
    types_are_told kind small rest node read.0 read.1

names_are_told : (furthest : Option Stop) (text : List ℕ) (node : Node) → names_tried plain_names furthest text ≡ Ok node → IsTold node
names_are_told furthest text node e =
    all_told (λ (name : List ℕ × Option ℕ). plain_told name.1 (after_literal name.0 text)) (λ (name : List ℕ × Option ℕ). is_byte name.1)
    (λ name small. plain_is_told name.1 (byte_type name.1 small) (after_literal name.0 text)) 0 plain_names refl furthest node e
  where
    byte_type : (kind : Option ℕ) → is_byte kind ≡ true → IfSome kind (λ n. n < 256)
    byte_type None small = tt
    byte_type (Some n) small = ltb-true n 256 small

call_is_told : (o : Option Stop) (text : List ℕ) (node : Node) → call_tried o text ≡ Ok node → IsTold node
call_is_told (Some stop) text node e = cc
call_is_told None text node e = elim (next_way (forms_tried forms None text) _ node e) [
  | inl p ↦ forms_told forms table_sound None text node p
  | inr p ↦ names_are_told p.0 text node p.1
]

-- any call, with a text or without one
read_is_told : (front call : List ℕ) (node : Node) → call_read front call ≡ Ok node → IsTold node
read_is_told front call node e = by (texts_tried front call) refl e
  where
    by : (r : Result Node (Option Stop)) → texts_tried front call ≡ r → or_textless call r ≡ Ok node → IsTold node
    by (Ok x) p q = texts_told front call node (p ∙ q)
    by (Err (Some stop)) p q = cc
    by (Err None) p q = short (call_told call) (short_ipv6 call) refl refl q
      where
        short : (r : Result Node (Option Stop)) (o : Option Node) → call_told call ≡ r → short_ipv6 call ≡ o → or_short r o ≡ Ok node → IsTold node
        short (Ok x) o r s t = call_is_told (ambiguous_stop call) call node (r ∙ t)
        short (Err stop) None r s t = cc
        short (Err stop) (Some x) r s t = short_told call node (s ∙ ok_some (Some x) stop node t)

name_told : (text : List ℕ) (node : Node) → whole (name_read text) ≡ Some node → IsTold node
name_told text node e =
    let read = whole_read (name_read text) node e in inr (inr (name_takes text node read.0 read.1).0)

-- a node that was read, with what stands after it
pub with_rest : (o : Option Node) (after : List ℕ) (node : Node) (rest : List ℕ)
    → option_map {U = Node × List ℕ} (λ (x : Node). (x, after)) o ≡ Some (node, rest)
    → (o ≡ Some node) × (after ≡ rest)
with_rest None after node rest e = cc
with_rest (Some x) after node rest e = let p = some_pair (x, after) (node, rest) e in (λ i. Some (p.0 i), p.1)

typed_told : (name : List ℕ) (node : Node) → typed_name name ≡ Some node → IsTold node
typed_told name node e = by (is_escaped_name name) e
  where
    by : (b : Bool) → cond b None (whole (name_read (rooted name))) ≡ Some node → IsTold node
    by true q = cc
    by false q = name_told (rooted name) node q

if_bare : {A : Type 0} (b : Bool) (o : Option A) (x : A) → cond b o None ≡ Some x → o ≡ Some x
if_bare true o x e = e
if_bare false o x e = cc

-- what a call was read of
called : (text : List ℕ) (node : Node) (rest : List ℕ) (o : Option (List ℕ × List ℕ)) → call_in text o ≡ Ok (node, rest)
    → (call : List ℕ × List ℕ) × (o ≡ Some call) × ((call_read call.0 (tidied call.0) ≡ Ok node) × (call.1 ≡ rest))
called text node rest None e = cc
called text node rest (Some call) e =
    let read = map_ok (λ (n : Node). (n, call.1)) (stop_fault text (tidied call.0)) (call_read call.0 (tidied call.0)) (node, rest) e in
    let same : read.0 ≡ node = ap (λ (x : Node × List ℕ). x.0) read.2 in
    (call, refl, (read.1 ∙ ap (λ (n : Node). Ok n) same, ap (λ (x : Node × List ℕ). x.1) read.2))

-- what a bare name was read of
bare_named : (is_rooted : Bool) (text : List ℕ) (node : Node) (rest : List ℕ) → bare_read is_rooted text ≡ Some (node, rest)
    → (typed_name (bare_name text) ≡ Some node) × (drop (position_or_len ends_name text) text ≡ rest)
bare_named is_rooted text node rest e = with_rest _ _ node rest (if_bare _ (named_read text) (node, rest) e)

-- what a name in `File(..)` was read of
filed : (text name : List ℕ) (node : Node) (rest : List ℕ) (o : Option (List ℕ × List ℕ)) → file_in text name o ≡ Ok (node, rest)
    → (call : List ℕ × List ℕ) × (o ≡ Some call) × ((typed_name call.0 ≡ Some node) × (call.1 ≡ rest))
filed text name node rest None e = cc
filed text name node rest (Some call) e =
    (call, refl, with_rest _ call.1 node rest (ok_some (option_map (λ (n : Node). (n, call.1)) (typed_name call.0)) _ (node, rest) e))

-- what was read, and ends where a node may end
pub ends : (o : Option (Node × List ℕ)) (node : Node) (rest : List ℕ) → ended o ≡ Some (node, rest)
    → (o ≡ Some (node, rest)) × (is_after_node rest ≡ true)
ends None node rest e = cc
ends (Some read) node rest e =
    let q = if_read (is_after_node read.1) read.0 node read.1 rest e in
    (λ i. Some (q.1 i, q.2 i), ap is_after_node (sym q.2) ∙ q.0)

-- the same, with blanks after it
pub record EndsAs (read : Node × List ℕ) (node : Node) (rest : List ℕ) : Type 0 where
  pub read_node : read.0 ≡ node
  pub spaces : past_spaces read.1 ≡ rest
  pub ends : is_after_node rest ≡ true

ends_as : (read : Node × List ℕ) (node : Node) (rest : List ℕ) → is_after_node (past_spaces read.1) ≡ true
    → spaced read ≡ (node, rest) → EndsAs read node rest
ends_as read node rest after same =
    let left : past_spaces read.1 ≡ rest = ap (λ (x : Node × List ℕ). x.1) same in
    record { read_node = ap (λ (x : Node × List ℕ). x.0) same; spaces = left; ends = ap is_after_node (sym left) ∙ after }

pub ends_at : (text : List ℕ) (read : Node × List ℕ) (node : Node) (rest : List ℕ) → ended_at text read ≡ Ok (node, rest)
    → EndsAs read node rest
ends_at text read node rest e = by (is_after_node (past_spaces read.1)) refl e
  where
    by : (b : Bool) → is_after_node (past_spaces read.1) ≡ b → cond b (Ok (spaced read)) (Err (end_fault text read.1)) ≡ Ok (node, rest)
        → EndsAs read node rest
    by false p q = cc
    by true p q = ends_as read node rest p (ok_same (Ok (node, rest)) (spaced read) (node, rest) (sym q) refl)

-- what was read exactly, or else otherwise
exact_way : (text : List ℕ) (o : Option (Node × List ℕ)) (other : Result (Node × List ℕ) NodeFault) (node : Node) (rest : List ℕ)
    → exact_or text o other ≡ Ok (node, rest)
    → ((read : Node × List ℕ) × (o ≡ Some read) × EndsAs read node rest) ⊎ (other ≡ Ok (node, rest))
exact_way text None other node rest e = inr e
exact_way text (Some read) other node rest e = by (is_after_node (past_spaces read.1)) refl other e
  where
    by : (b : Bool) → is_after_node (past_spaces read.1) ≡ b → (other : Result (Node × List ℕ) NodeFault)
        → cond b (Ok (spaced read)) (or_fault (end_fault text read.1) other) ≡ Ok (node, rest)
        → ((x : Node × List ℕ) × (Some read ≡ Some x) × EndsAs x node rest) ⊎ (other ≡ Ok (node, rest))
    by false p (Ok read) q = inr q
    by false p (Err fault) q = cc
    by true p other q = inl (read, refl, ends_as read node rest p (ok_same (Ok (node, rest)) (spaced read) (node, rest) (sym q) refl))

-- one of the four that are tried
module _ (is_rooted : Bool) (text : List ℕ) (node : Node) (rest : List ℕ) (Goal : Type 0)
    (strict : (before : List ℕ) → node_read text ≡ Some (node, before) → past_spaces before ≡ rest → is_after_node rest ≡ true → Goal)
    (file : begins_call text ≡ true → (name : List ℕ) → after_literal (codes "File(") (past_spaces text) ≡ Ok name → (before : List ℕ)
    → file_in text name (cut_file name) ≡ Ok (node, before) → past_spaces before ≡ rest → is_after_node rest ≡ true → Goal)
    (call : begins_call text ≡ true → (before : List ℕ) → call_in text (cut_call text) ≡ Ok (node, before)
    → past_spaces before ≡ rest → is_after_node rest ≡ true → Goal)
    (bare : bare_read is_rooted text ≡ Some (node, rest) → Goal) where
  either_call : begins_call text ≡ true → (r : Result (List ℕ) Stop) → after_literal (codes "File(") (past_spaces text) ≡ r
      → (read : Node × List ℕ) → file_or_call r text ≡ Ok read → ended_at text read ≡ Ok (node, rest) → Goal
  either_call b (Err stop) f read e end =
      let q = ends_at text read node rest end in call b read.1 (e ∙ (λ i. Ok (q.read_node i, read.1))) q.spaces q.ends
  either_call b (Ok name) f read e end =
      let q = ends_at text read node rest end in file b name f read.1 (e ∙ (λ i. Ok (q.read_node i, read.1))) q.spaces q.ends

  call_or_name : (b : Bool) → begins_call text ≡ b
      → cond b (file_or_call (after_literal (codes "File(") (past_spaces text)) text >? ended_at text)
      (ok_or (bare_read is_rooted text) (fault_at_byte 0 (cond (is_after_node text) expected.Node expected.FileName))) ≡ Ok (node, rest)
      → Goal
  call_or_name true b e =
      let read = bind_ok (file_or_call (after_literal (codes "File(") (past_spaces text)) text) (ended_at text) (node, rest) e in
      either_call b (after_literal (codes "File(") (past_spaces text)) refl read.0 read.1 read.2
  call_or_name false b e = bare (ok_some (bare_read is_rooted text) _ (node, rest) e)

  one_of_four : lenient_read is_rooted text ≡ Ok (node, rest) → Goal
  unfolding lenient_read
  one_of_four = by (is_escaped_name text)
    where
      by : (b : Bool) → cond b (Err (fault_at_byte 1 expected.FileName)) (exact_or text (node_read text) (written_read is_rooted text)) ≡ Ok (node, rest) → Goal
      by true e = cc
      by false e = elim (exact_way text (node_read text) (written_read is_rooted text) node rest e) [
        | inl p ↦ strict p.0.1 (p.1 ∙ (λ i. Some (p.2.read_node i, p.0.1))) p.2.spaces p.2.ends
        | inr p ↦ call_or_name (begins_call text) refl p
      ]

pub lenient_again : (is_rooted : Bool) (text : List ℕ) → is_escaped_name text ≡ false → (node : Node) (rest : List ℕ)
    → node_read text ≡ Some (node, rest) → is_after_node rest ≡ true → lenient_read is_rooted text ≡ Ok (node, rest)
unfolding lenient_read
lenient_again is_rooted text plain node rest e after =
    let same = past_spaces-after rest after in
    ap (λ (b : Bool). cond b (Err (fault_at_byte 1 expected.FileName)) (exact_or text (node_read text) (written_read is_rooted text))) plain
    ∙ ap (λ (o : Option (Node × List ℕ)). exact_or text o (written_read is_rooted text)) e
    ∙ ap (λ (t : List ℕ). cond (is_after_node t) (Ok (node, t)) (or_fault (end_fault text rest) (written_read is_rooted text))) same
    ∙ ap (λ (b : Bool). cond b (Ok (node, rest)) (or_fault (end_fault text rest) (written_read is_rooted text))) after

then_end : (text middle rest : List ℕ) → IsEnd text middle → IsEnd middle rest → IsEnd text rest
then_end text middle rest (front, p) (others, q) =
    (front ++ others, p ∙ ap (λ (x : List ℕ). front ++ x) q ∙ sym (append_assoc front others rest))

drop_end : (n : ℕ) (text : List ℕ) → IsEnd text (drop n text)
drop_end n text = (take n text, sym (take-append-drop n text))

-- what stands after one byte or more
more_end : (c : ℕ) (text rest : List ℕ) → IsEnd text rest → IsRestOf (c ∷ text) rest
more_end c text rest (front, p) = (c, front, λ i. c ∷ p i)

then_rest : (text middle rest : List ℕ) → IsEnd text middle → IsRestOf middle rest → IsRestOf text rest
then_rest text middle rest ([], p) (c, others, q) = (c, others, p ∙ q)
then_rest text middle rest (b ∷ front, p) (c, others, q) =
    let left = then_end (front ++ middle) middle rest (front, refl) (c ∷ others, q) in
    let more = more_end b (front ++ middle) rest left in
    (more.0, more.1, p ∙ more.2)

dropped : (m n c : ℕ) (text : List ℕ) → m ≡ suc n → IsRestOf (c ∷ text) (drop m (c ∷ text))
dropped m n c text e = let more = more_end c text (drop n text) (drop_end n text) in
    subst (λ (k : ℕ). IsRestOf (c ∷ text) (drop k (c ∷ text))) (sym e) more

-- what stands after a literal ends the text
base_end : (text : List ℕ) → IsEnd text (past_base text)
base_end [] = whole_end []
base_end (c ∷ []) = whole_end (c ∷ [])
base_end (c ∷ d ∷ cs) = by (eqb c 48 && eqb d 120)
  where
    by : (b : Bool) → IsEnd (c ∷ d ∷ cs) (cond b cs (c ∷ d ∷ cs))
    by true = (c ∷ d ∷ [], refl)
    by false = whole_end (c ∷ d ∷ cs)

letter_end : (c : ℕ) (text rest : List ℕ) → after_letter c text ≡ Some rest → IsEnd text rest
letter_end c [] rest e = cc
letter_end c (t ∷ ts) rest e = by (eqb (to_ascii_uppercase c) (to_ascii_uppercase t)) e
  where
    by : (b : Bool) → cond b (Some ts) None ≡ Some rest → IsEnd (t ∷ ts) rest
    by false q = cc
    by true q = let same : ts ≡ rest = cc in (t ∷ [], λ i. t ∷ same i)

literal_end : (literal : List ℕ) (at_x : Bool) (text rest : List ℕ)
    → literal_left literal at_x text ≡ Ok rest → IsEnd text rest
literal_end [] at_x text rest e = ([], ok_same (Ok rest) text rest (sym e) refl)
literal_end (c ∷ cs) true text rest e = by (is_empty cs) e (literal_end cs false)
  where
    by : (b : Bool) → literal_left cs false (cond b text (past_base text)) ≡ Ok rest
        → ((t r : List ℕ) → literal_left cs false t ≡ Ok r → IsEnd t r) → IsEnd text rest
    by true q others = others text rest q
    by false q others = then_end text (past_base text) rest (base_end text) (others (past_base text) rest q)
literal_end (c ∷ cs) false text rest e = by (begins_base (c ∷ cs)) e (literal_end cs)
  where
    by : (b : Bool)
        → cond b (literal_left cs true text) (ok_or (after_letter c text) (stop_at text (expected.Byte c)) >? literal_left cs false) ≡ Ok rest
        → ((x : Bool) (t r : List ℕ) → literal_left cs x t ≡ Ok r → IsEnd t r) → IsEnd text rest
    by true q others = others true text rest q
    by false q others =
        let letter = bind_ok (ok_or (after_letter c text) (stop_at text (expected.Byte c))) (literal_left cs false) rest q in
        let after = others false letter.0 rest letter.2 in
        then_end text letter.0 rest (letter_end c text letter.0 (ok_some (after_letter c text) _ letter.0 letter.1)) after

-- what stands after a call
pub cut_end : (text : List ℕ) (call : List ℕ × List ℕ) → cut_call text ≡ Some call → IsRestOf text call.1
cut_end [] call e = cc
cut_end (c ∷ cs) call e = by (position (λ (x : ℕ). x == 41) (c ∷ cs)) e
  where
    parts : ℕ → List ℕ × List ℕ
    parts place = (take place (c ∷ cs), drop (place + 1) (c ∷ cs))

    by : (o : Option ℕ) → option_map parts o ≡ Some call → IsRestOf (c ∷ cs) call.1
    by None q = cc
    by (Some place) q = subst (λ (x : List ℕ). IsRestOf (c ∷ cs) x) (some_pair (parts place) call q).1
        (dropped (place + 1) place c cs (omega arith))

-- what stands after the name of a file
file_cut_end : (text : List ℕ) (call : List ℕ × List ℕ) → cut_file text ≡ Some call → IsRestOf text call.1
file_cut_end [] call e = cut_end [] call e
file_cut_end (c ∷ cs) call e = by (file_end (c ∷ cs)) e
  where
    parts : ℕ → List ℕ × List ℕ
    parts place = (take place (c ∷ cs), drop (place + 1) (c ∷ cs))

    by : (o : Option ℕ) → option_or (option_map parts o) (cut_call (c ∷ cs)) ≡ Some call → IsRestOf (c ∷ cs) call.1
    by None q = cut_end (c ∷ cs) call q
    by (Some place) q = subst (λ (x : List ℕ). IsRestOf (c ∷ cs) x) (some_pair (parts place) call q).1
        (dropped (place + 1) place c cs (omega arith))

call_end : (text : List ℕ) (node : Node) (rest : List ℕ)
    → call_in text (cut_call text) ≡ Ok (node, rest) → IsRestOf text rest
call_end text node rest e = let call = called text node rest (cut_call text) e in
    subst (λ (x : List ℕ). IsRestOf text x) call.2.1 (cut_end text call.0 call.1)

filed_end : (text name : List ℕ) (node : Node) (rest : List ℕ) → after_literal (codes "File(") (past_spaces text) ≡ Ok name
    → file_in text name (cut_file name) ≡ Ok (node, rest) → IsRestOf text rest
filed_end text name node rest begun e =
    let call = filed text name node rest (cut_file name) e in
    let after = literal_end (codes "File(") false (past_spaces text) name begun in
    let whole = then_end text (past_spaces text) name (spaces_end text) after in
    subst (λ (x : List ℕ). IsRestOf text x) call.2.1
    (then_rest text name call.0.1 whole (file_cut_end name call.0 call.1))

strict_end : (text : List ℕ) (node : Node) (rest : List ℕ) → node_read text ≡ Some (node, rest) → IsRestOf text rest
strict_end text node rest e =
    let read = node_takes text node rest e in
    by (node_text false false node) read.1 (node_starts node read.0 [])
  where
    by : (own : List ℕ) → text ≡ own ++ rest → is_after_node (own ++ []) ≡ false → IsRestOf text rest
    by [] p q = absurd (true≢false q)
    by (c ∷ cs) p q = (c, cs, p)

-- where a name ends, by whether the first byte ends it
abbrev name_place : List ℕ → Bool → ℕ
name_place others first = cond (not first) (1 + position_or_len ends_name others) 0

-- after a name stands nothing, or what ends it
after_name : (text : List ℕ) → is_after_node (drop (position_or_len ends_name text) text) ≡ true
after_name [] = refl
after_name (c ∷ cs) = by (ends_name c) refl (after_name cs)
  where
    by : (b : Bool) → ends_name c ≡ b → is_after_node (drop (position_or_len ends_name cs) cs) ≡ true
        → is_after_node (drop (name_place cs (ends_name c)) (c ∷ cs)) ≡ true
    by true e h = ap (λ (t : Bool). is_after_node (drop (name_place cs t) (c ∷ cs))) e ∙ e
    by false e h = ap (λ (t : Bool). is_after_node (drop (name_place cs t) (c ∷ cs))) e
        ∙ ap (λ (n : ℕ). is_after_node (drop n (c ∷ cs))) {x = 1 + position_or_len ends_name cs}
        {y = suc (position_or_len ends_name cs)} (omega arith) ∙ h

-- an empty name is none
no_name : typed_name (before_spaces []) ≡ None
unfolding chars
no_name = by (is_utf8 [])
  where
    by : (b : Bool)
        → whole (read_if (b && is_name (chars [])) (node_with 4 4 (name_data (chars []))) []) ≡ None
    by true = refl
    by false = refl

bare_rest : (text : List ℕ) (node : Node) → typed_name (bare_name text) ≡ Some node
    → IsRestOf text (drop (position_or_len ends_name text) text)
bare_rest [] node e = let none = no_name in cc
bare_rest (c ∷ cs) node e = by (ends_name c) e
  where
    by : (b : Bool) → typed_name (before_spaces (past_spaces (take (name_place cs b) (c ∷ cs)))) ≡ Some node
        → IsRestOf (c ∷ cs) (drop (name_place cs b) (c ∷ cs))
    by true q = let none = no_name in cc
    by false q = dropped (1 + position_or_len ends_name cs) (position_or_len ends_name cs) c cs (omega arith)

bare_end : (is_rooted : Bool) (text : List ℕ) (node : Node) (rest : List ℕ) → bare_read is_rooted text ≡ Some (node, rest)
    → IsRestOf text rest × (is_after_node rest ≡ true)
bare_end is_rooted text node rest e =
    let name = bare_named is_rooted text node rest e in
    subst (λ (x : List ℕ). IsRestOf text x × (is_after_node x ≡ true)) name.1
    (bare_rest text node name.0, after_name text)

-- nothing is read where a slash or a comma stands first, or nothing
no_bytes : (text : List ℕ) → is_after_node text ≡ true → name_bytes text ≡ []
no_bytes [] e = refl
no_bytes (c ∷ cs) e = ap (λ (t : Bool). take (name_place cs t) (c ∷ cs)) e

pub call_starts : (text : List ℕ) → begins_call text ≡ true → is_after_node text ≡ false
call_starts text call = by (is_after_node text) refl
  where
    by : (b : Bool) → is_after_node text ≡ b → is_after_node text ≡ false
    by false first = first
    by true first = absurd (true≢false (sym (and_parts _ _ call).0 ∙ ap (λ (x : List ℕ). list_any (λ c. c == 40) x) (no_bytes text first)))

bare_starts : (text : List ℕ) (node : Node) → typed_name (bare_name text) ≡ Some node
    → is_after_node text ≡ false
bare_starts text node name = by (is_after_node text) refl
  where
    by : (b : Bool) → is_after_node text ≡ b → is_after_node text ≡ false
    by false first = first
    by true first =
        let none : typed_name (bare_name text) ≡ None =
        ap (λ (x : List ℕ). typed_name (before_spaces (past_spaces x))) (no_bytes text first) ∙ no_name in
        cc (name, none)

-- what is known of a node that was read, and of what stands after it
pub record WellRead (text : List ℕ) (node : Node) (rest : List ℕ) : Type 0 where
  pub told : IsTold node
  pub rest_of : IsRestOf text rest
  pub ends : is_after_node rest ≡ true
  pub starts : is_after_node text ≡ false

-- after blanks, if there are any
pub spaced_rest : (text before rest : List ℕ) → IsRestOf text before → past_spaces before ≡ rest → IsRestOf text rest
spaced_rest text before rest of spaces =
    subst (λ (x : List ℕ). IsRestOf text x) spaces (rest_then text before (past_spaces before) of (spaces_end before))

pub strict_well : (text : List ℕ) (node : Node) (before rest : List ℕ) → node_read text ≡ Some (node, before)
    → past_spaces before ≡ rest → is_after_node rest ≡ true → WellRead text node rest
strict_well text node before rest e spaces after =
    let read = node_takes text node before e in
    record {
      told = read.0;
      rest_of = spaced_rest text before rest (strict_end text node before e) spaces;
      ends = after;
      starts = ap is_after_node read.1 ∙ node_starts node read.0 before;
    }

pub lenient_well : (is_rooted : Bool) (text : List ℕ) (node : Node) (rest : List ℕ) → lenient_read is_rooted text ≡ Ok (node, rest)
    → WellRead text node rest
lenient_well is_rooted text node rest e = one_of_four is_rooted text node rest (WellRead text node rest)
    (λ before. strict_well text node before rest)
    (λ b name begun before p spaces after. let call = filed text name node before (cut_file name) p in record {
      told = typed_told call.0.0 node call.2.0;
      rest_of = spaced_rest text before rest (filed_end text name node before begun p) spaces;
      ends = after;
      starts = call_starts text b;
    })
    (λ b before p spaces after. let call = called text node before (cut_call text) p in record {
      told = read_is_told call.0.0 (tidied call.0.0) node call.2.0;
      rest_of = spaced_rest text before rest (call_end text node before p) spaces;
      ends = after;
      starts = call_starts text b;
    })
    (λ p. let name = (bare_named is_rooted text node rest p).0 in let end = bare_end is_rooted text node rest p in record {
      told = typed_told (bare_name text) node name;
      rest_of = end.0;
      ends = end.1;
      starts = bare_starts text node name;
    }) e
