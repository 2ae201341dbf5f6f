-- A node is read from its text, and what is read is printed so.
use Rattle.std.specs.List.{list_all}
use Rattle.std.proofs.lemmas.Bool.{and_parts, not-true}
use Rattle.std.specs.Prelude.{not, Option, Some, None, codes}
use Rattle.std.proofs.Common.{subst, ◌%◌, eqb, leb, ◌&&◌, ◌||◌, cond, ◌≤◌, ◌≡◌, ℕ, true, false, List, [], ◌∷◌, ◌++◌, refl, ap, sym, ◌∙◌, append_assoc, inl, inr, length, Bool, arith}
use borrow.Author.Tests.{eqb-true, leb-true}
use lib.Utf8.{encode, encodes}
use Rattle.uefi_device_nodes.specs.Rows.{Form, is_used}
use Rattle.uefi_device_nodes.specs.Table.{forms, group_forms, has_form, is_found, table_text, text_in}
use Rattle.uefi_device_nodes.proofs.Forms.{found}
use Rattle.uefi_device_nodes.specs.Nodes.{Node}
use Rattle.uefi_device_nodes.specs.NodeTexts.{irregular_text, is_irregular, node_text, unknown_text}
use Rattle.uefi_node_reader.specs.FieldReading.{either_read}
use Rattle.uefi_node_reader.specs.TableReading.{first_of, IsTabled, printed_in, prints, table_read}
use Rattle.uefi_node_reader.specs.WordReading.{clash}
use Rattle.uefi_node_reader.specs.PlainNodes.{is_formed, is_plain, plain_read}
use Rattle.uefi_node_reader.specs.NamedFiles.{name_data, is_name_char, begins_name, is_after_node, IsTold, name_read, node_read, is_name}
use Rattle.uefi_node_reader.specs.Laws.{NodeTextOnce}
use Rattle.uefi_node_reader.proofs.Digits.{some_pair}
use Rattle.uefi_node_reader.proofs.Groups.{table_differs, table_sound}
use Rattle.uefi_node_reader.proofs.TableLaws.{table_again, table_takes, unread}
use Rattle.uefi_node_reader.proofs.NamedFiles.{name_again, name_parts, name_printed, name_takes}
use Rattle.uefi_node_reader.proofs.PlainNodes.{plain_again, plain_parts, plain_takes, plain_text}

-- what is computed of each form: it names no file, and ends nothing
is_regular : Form → Bool
is_regular form = not (eqb form.kind 0x7f) && not (eqb form.kind 4 && eqb form.sub_kind 4)

table_regular : list_all is_regular forms ≡ true
unfolding group_forms is_regular
table_regular = refl

-- and its text begins as no text of another kind does, and with nothing that may stand after a node
clear_of_path : list_all (λ f. clash f.start (codes "Path(")) forms ≡ true
unfolding group_forms
clear_of_path = refl

clear_of_names : list_all (λ f. clash f.start (92 ∷ [])) forms ≡ true
unfolding group_forms
clear_of_names = refl

begins : Form → Bool
begins form = not (is_after_node form.start)

table_begins : list_all begins forms ≡ true
unfolding group_forms begins
table_begins = refl

no_file : (a b c : Bool) → not (a && b) ≡ true → (a && b) && c ≡ false
no_file a b c e = ap (λ (x : Bool). x && c) (not-true (a && b) e)

-- what a node that is told by the table is not
record Regular (node : Node) : Type 0 where
  pub no_end : eqb node.device_type 0x7f ≡ false
  pub regular : is_irregular false node ≡ false

regular : (node : Node) → IsTabled forms node → Regular node
unfolding is_regular
regular node told =
    let form : Form = told.form in
    let is = found (prints node) is_regular forms form told.found table_regular in
    let kinds = and_parts (eqb form.kind node.device_type) _ (and_parts (eqb form.kind node.device_type && (eqb form.sub_kind node.sub_type && is_used false form.mode)) _ is.1).0 in
    let kind = eqb-true form.kind node.device_type kinds.0 in
    let sub_kind = eqb-true form.sub_kind node.sub_type (and_parts (eqb form.sub_kind node.sub_type) (is_used false form.mode) kinds.1).0 in
    let same : is_regular form ≡ (not (eqb node.device_type 0x7f) && not (eqb node.device_type 4 && eqb node.sub_type 4)) =
    λ i. not (eqb (kind i) 0x7f) && not (eqb (kind i) 4 && eqb (sub_kind i) 4) in
    let parts = and_parts (not (eqb node.device_type 0x7f)) (not (eqb node.device_type 4 && eqb node.sub_type 4)) (sym same ∙ is.0) in
    record {
      no_end = not-true _ parts.0;
      regular = λ i. no_file (eqb node.device_type 4) (eqb node.sub_type 4) (eqb (length node.content % 2) 0) parts.1 i || false;
    }

-- such a node is printed by the table
tabled_text : (node : Node) → IsTabled forms node → node_text false false node ≡ printed_in forms node
unfolding node_text has_form table_text
tabled_text node told =
    let none = (regular node told).regular in
    let has : has_form false node.device_type node.sub_type node.content ≡ true = ap is_found told.found in
    ap (λ (b : Bool). cond b (irregular_text false false node) (cond (has_form false node.device_type node.sub_type node.content)
    (table_text false node.device_type node.sub_type node.content) (unknown_text node))) none
    ∙ ap (λ (b : Bool). cond b (table_text false node.device_type node.sub_type node.content) (unknown_text node)) has

no_form_plain : (node : Node) (rest : List ℕ) → table_read forms (unknown_text node ++ rest) ≡ None
unfolding unknown_text
no_form_plain node rest =
    ap (λ (x : List ℕ). table_read forms x) (append_assoc (codes "Path(") _ rest) ∙ unread forms 0 forms (codes "Path(") _ clear_of_path

-- what begins with a backslash is of no other form
other : (cs rest : List ℕ) → begins_name cs ≡ true → (table_read forms (encodes cs ++ rest) ≡ None) × (plain_read (encodes cs ++ rest) ≡ None)
unfolding encode
other [] rest e = cc
other (c ∷ cs) rest e =
    let same = eqb-true c 92 e in (
      ap (λ (x : ℕ). table_read forms ((encode x ++ encodes cs) ++ rest)) same ∙ unread forms 0 forms (92 ∷ []) (encodes cs ++ rest) clear_of_names,
      ap (λ (x : ℕ). plain_read ((encode x ++ encodes cs) ++ rest)) same,
    )

-- the text of a node is read as that node, with what stands after it
pub node_again : (node : Node) → IsTold node → (rest : List ℕ) → is_after_node rest ≡ true
    → node_read (node_text false false node ++ rest) ≡ Some (node, rest)
unfolding node_read
node_again node (inl form) rest ends =
    let text : List ℕ = node_text false false node ++ rest in
    ap (λ r. either_read r (either_read (plain_read text) (name_read text)))
    (ap (λ (x : List ℕ). table_read forms (x ++ rest)) (tabled_text node form) ∙ table_again forms table_sound table_differs node form rest)
node_again node (inr (inl plain)) rest ends =
    let text : List ℕ = node_text false false node ++ rest in
    let none : table_read forms text ≡ None = ap (λ (x : List ℕ). table_read forms (x ++ rest)) (plain_text node (plain_parts node plain.plain)) ∙ no_form_plain node rest in
    (λ i. either_read (none i) (either_read (plain_again node plain rest i) (name_read text)))
node_again node (inr (inr named)) rest ends =
    let text : List ℕ = node_text false false node ++ rest in
    let none = other named.name rest (name_parts named.name named.is_name).0 in
    let same = ap (λ (x : List ℕ). x ++ rest) (name_printed node named) in
    (λ i. either_read ((ap (λ (x : List ℕ). table_read forms x) same ∙ none.0) i) (either_read ((ap plain_read same ∙ none.1) i) (name_again node named rest ends i)))

-- a text that begins with a backslash is that of a name alone
name_alone : (others : List ℕ) → name_read (92 ∷ others) ≡ node_read (92 ∷ others)
unfolding node_read
name_alone others = ap (λ (o : Option (Node × List ℕ)). either_read o (either_read (plain_read (92 ∷ others)) (name_read (92 ∷ others))))
    (sym (unread forms 0 forms (92 ∷ []) others clear_of_names))

pub name_first : (text : List ℕ) → first_of text ≡ 92 → name_read text ≡ node_read text
name_first [] e = absurd (omega (arith, e))
name_first (c ∷ cs) e = subst (λ (x : ℕ). name_read (x ∷ cs) ≡ node_read (x ∷ cs)) (sym e) (name_alone cs)

-- what is read is a node that is told, and is printed so
pub node_takes : (text : List ℕ) (node : Node) (rest : List ℕ) → node_read text ≡ Some (node, rest)
    → IsTold node × (text ≡ node_text false false node ++ rest)
unfolding node_read
node_takes text node rest e = by (table_read forms text) refl e
  where
    Taken : Type 0
    Taken = IsTold node × (text ≡ node_text false false node ++ rest)

    others : (r : Option (Node × List ℕ)) → plain_read text ≡ r → either_read r (name_read text) ≡ Some (node, rest) → Taken
    others None p q = let t = name_takes text node rest q in (inr (inr t.0), t.1)
    others (Some x) p q = let t = plain_takes text node rest (p ∙ q) in (inr (inl t.0), t.1)

    by : (r : Option (Node × List ℕ)) → table_read forms text ≡ r → either_read r (either_read (plain_read text) (name_read text)) ≡ Some (node, rest) → Taken
    by None p q = others (plain_read text) refl q
    by (Some x) p q = let t = table_takes forms table_sound text node rest (p ∙ q) in (inl t.0, t.1 ∙ ap (λ (y : List ℕ). y ++ rest) (sym (tabled_text node t.0)))

pub text_once : NodeTextOnce
text_once first second a b told told' ends ends' e =
    some_pair (first, a) (second, b) (sym (node_again first told a ends) ∙ ap node_read e ∙ node_again second told' b ends')

plain_starts : (node : Node) (rest : List ℕ) → is_after_node (unknown_text node ++ rest) ≡ false
unfolding unknown_text
plain_starts node rest = refl

name_starts : (cs rest : List ℕ) → begins_name cs ≡ true → is_after_node (encodes cs ++ rest) ≡ false
unfolding encode
name_starts [] rest e = cc
name_starts (c ∷ cs) rest e = ap (λ (x : ℕ). is_after_node ((encode x ++ encodes cs) ++ rest)) (eqb-true c 92 e)

-- a text that begins so goes on so
start_first : (start text rest : List ℕ) → is_after_node start ≡ false → is_after_node ((start ++ text) ++ rest) ≡ false
start_first [] text rest e = cc
start_first (c ∷ cs) text rest e = e

-- the text of a node begins with no byte that may stand after one
pub node_starts : (node : Node) → IsTold node → (rest : List ℕ) → is_after_node (node_text false false node ++ rest) ≡ false
unfolding begins
node_starts node (inl told) rest =
    let form : Form = told.form in
    ap (λ (x : List ℕ). is_after_node (x ++ rest)) (tabled_text node told ∙ ap (λ (o : Option Form). text_in o node.content) told.found)
    ∙ start_first form.start _ rest (not-true _ (found (prints node) begins forms form told.found table_begins).0)
node_starts node (inr (inl plain)) rest =
    ap (λ (x : List ℕ). is_after_node (x ++ rest)) (plain_text node (plain_parts node plain.plain)) ∙ plain_starts node rest
node_starts node (inr (inr named)) rest =
    ap (λ (x : List ℕ). is_after_node (x ++ rest)) (name_printed node named) ∙ name_starts named.name rest (name_parts named.name named.is_name).0

plain_fits : (node : Node) → is_plain node ≡ true → (eqb node.device_type 0x7f ≡ false) × (length node.content ≤ 0xfffb)
plain_fits node e = by (eqb node.device_type 0x7f) (is_formed node) (leb (length node.content) 0xfffb) refl e
  where
    by : (a b c : Bool) → leb (length node.content) 0xfffb ≡ c → not a && (not b && c) ≡ true → (a ≡ false) × (length node.content ≤ 0xfffb)
    by true b c p q = cc
    by false true c p q = cc
    by false false false p q = cc
    by false false true p q = (refl, leb-true _ _ p)

name_fits : (name : List ℕ) → is_name name ≡ true → length (name_data name) ≤ 0xfffb
name_fits name e = by (begins_name name) (list_all is_name_char name) (leb (length (name_data name)) 0xfffb) refl e
  where
    by : (a b c : Bool) → leb (length (name_data name)) 0xfffb ≡ c → a && (b && c) ≡ true → length (name_data name) ≤ 0xfffb
    by false b c p q = cc
    by true false c p q = cc
    by true true false p q = cc
    by true true true p q = leb-true _ _ p

-- a node may stand in a path
pub node_fits : (node : Node) → IsTold node → (eqb node.device_type 0x7f ≡ false) × (length node.content ≤ 0xfffb)
node_fits node (inl told) = ((regular node told).no_end, leb-true _ _ told.fits)
node_fits node (inr (inl plain)) = plain_fits node plain.plain
node_fits node (inr (inr named)) = (
  ap (λ (x : Node). eqb x.device_type 0x7f) named.is,
  let size = ap (λ (x : Node). length x.content) named.is in omega (arith, name_fits named.name named.is_name),
)
