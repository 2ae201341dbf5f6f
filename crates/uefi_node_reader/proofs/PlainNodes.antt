-- Nodes of no kind are read back, and what is read is printed so.
use Rattle.std.proofs.Common.{◌≡◌, ℕ, ◌<◌, ◌≤◌, Bool, true, false, cond, eqb, leb, ◌&&◌, ◌||◌, List, [], ◌∷◌, ◌++◌, codes, length, take, refl, ap, sym, subst, ◌∙◌, append_assoc, arith}
use Rattle.std.specs.Prelude.{None, Option, Some, not, option_and_then}
use Rattle.std.proofs.lemmas.Bool.{le-leb}
use Rattle.std.specs.Fmt.{decimal}
use Rattle.uefi_device_nodes.specs.FieldTexts.{comma_bytes}
use Rattle.uefi_device_nodes.specs.Nodes.{Node, node_with}
use Rattle.uefi_device_nodes.specs.Table.{has_form, table_text}
use Rattle.uefi_device_nodes.specs.NodeTexts.{irregular_text, is_irregular, node_text, unknown_text}
use Rattle.uefi_node_reader.specs.Numerals.{has_digit, number_read}
use Rattle.uefi_node_reader.specs.FieldReading.{comma_read, read_if}
use Rattle.uefi_node_reader.specs.TableReading.{added}
use Rattle.uefi_node_reader.specs.ParsedNodes.{fitting}
use Rattle.uefi_node_reader.specs.WordReading.{after}
use Rattle.uefi_node_reader.proofs.FormsByFirstBytes.{form_shown}
use Rattle.uefi_node_reader.specs.PlainNodes.{IsPlainNode, is_formed, is_plain, plain_read, plain_rest}
use Rattle.uefi_node_reader.proofs.Digits.{decimal_base, number_again, number_takes, some_pair}
use Rattle.uefi_node_reader.proofs.Literals.{after_takes, bind_some}
use Rattle.uefi_node_reader.proofs.TailLaws.{comma_again, comma_takes}

no_or : (a b : Bool) → a || b ≡ false → (a ≡ false) × (b ≡ false)
no_or false b e = (refl, e)
no_or true b e = cc

-- a node of no kind is printed with its data
pub plain_text : (node : Node) → is_formed node ≡ false → node_text false false node ≡ unknown_text node
unfolding node_text
plain_text node e =
    let parts = no_or (is_irregular false node) (has_form false node.device_type node.sub_type node.content) e in
    ap (λ (b : Bool). cond b (irregular_text false false node) (cond (has_form false node.device_type node.sub_type node.content)
    (table_text false node.device_type node.sub_type node.content) (unknown_text node))) parts.0
    ∙ ap (λ (b : Bool). cond b (table_text false node.device_type node.sub_type node.content) (unknown_text node)) parts.1

-- what a plain node is not
pub plain_parts : (node : Node) → is_plain node ≡ true → is_formed node ≡ false
plain_parts node e = by (eqb node.device_type 0x7f) (is_formed node) e
  where
    by : (a b : Bool) → not a && (not b && leb (length node.content) 0xfffb) ≡ true → b ≡ false
    by true b p = cc
    by false true p = cc
    by false false p = refl

no_more_digits : (bytes rest : List ℕ) → has_digit 10 (comma_bytes bytes ++ (codes ")" ++ rest)) ≡ false
unfolding comma_bytes
no_more_digits [] rest = refl
no_more_digits (b ∷ bs) rest = refl

unknown_parts : (node : Node) (rest : List ℕ) → unknown_text node ++ rest
    ≡ codes "Path(" ++ (decimal node.device_type ++ (codes "," ++ (decimal node.sub_type ++ (comma_bytes node.content ++ (codes ")" ++ rest)))))
unfolding unknown_text
unknown_parts node rest = simp append_assoc

-- the text of a plain node is read as that node
pub plain_again : (node : Node) → IsPlainNode node → (rest : List ℕ) → plain_read (node_text false false node ++ rest) ≡ Some (node, rest)
plain_again node is rest =
    let a : List ℕ = codes ")" ++ rest in
    let b : List ℕ = comma_bytes node.content ++ a in
    let c : List ℕ = codes "," ++ (decimal node.sub_type ++ b) in
    ap (λ (x : List ℕ). plain_read (x ++ rest)) (plain_text node (plain_parts node is.plain))
    ∙ ap plain_read (unknown_parts node rest)
    ∙ rw (number_again 10 false decimal_base 256 (omega arith) node.device_type is.device_type c refl)
    (rw (number_again 10 false decimal_base 256 (omega arith) node.sub_type is.sub_type b (no_more_digits node.content rest))
    (rw (comma_again node.content is.content 41 [] rest refl refl) (ap (λ (t : Bool). read_if t node rest) is.plain)))

if_takes : (t : Bool) (made node : Node) (left rest : List ℕ) → read_if t made left ≡ Some (node, rest) → (t ≡ true) × (made ≡ node) × (left ≡ rest)
if_takes false made node left rest e = cc
if_takes true made node left rest e = let same = some_pair (made, left) (node, rest) e in (refl, same.0, same.1)

-- what is read from the data on is a plain node
pub rest_takes : (kind sub_kind : ℕ) → kind < 256 → sub_kind < 256 → (text : List ℕ) (node : Node) (rest : List ℕ)
    → plain_rest kind sub_kind text ≡ Some (node, rest) → IsPlainNode node
rest_takes kind sub_kind k s text node rest e =
    let c = bind_some (comma_read text) _ (node, rest) e in
    let r = bind_some (after (codes ")") c.0.1) _ (node, rest) c.2 in
    let made : Node = node_with kind sub_kind c.0.0 in
    let same = if_takes (is_plain made) made node r.0 rest r.2 in
    let is : IsPlainNode made = record { device_type = k; sub_type = s; content = (comma_takes text c.0.0 c.0.1 c.1).1; plain = same.0 } in
    subst (λ (x : Node). IsPlainNode x) same.1 is

-- what is read is a plain node, and is printed so
pub plain_takes : (text : List ℕ) (node : Node) (rest : List ℕ) → plain_read text ≡ Some (node, rest)
    → IsPlainNode node × (text ≡ node_text false false node ++ rest)
plain_takes text node rest e =
    let t = bind_some (after (codes "Path(") text) _ (node, rest) e in
    let k = bind_some (number_read 10 256 t.0) _ (node, rest) t.2 in
    let u = bind_some (after (codes ",") k.0.1) _ (node, rest) k.2 in
    let s = bind_some (number_read 10 256 u.0) _ (node, rest) u.2 in
    let c = bind_some (comma_read s.0.1) _ (node, rest) s.2 in
    let r = bind_some (after (codes ")") c.0.1) _ (node, rest) c.2 in
    let made : Node = node_with k.0.0 s.0.0 c.0.0 in
    let same = if_takes (is_plain made) made node r.0 rest r.2 in
    let kind = number_takes 10 false decimal_base 256 (omega arith) (omega arith) t.0 k.0.0 k.0.1 k.1 in
    let sub_kind = number_takes 10 false decimal_base 256 (omega arith) (omega arith) u.0 s.0.0 s.0.1 s.1 in
    let bytes = comma_takes s.0.1 c.0.0 c.0.1 c.1 in
    let whole : text ≡ unknown_text made ++ r.0 = after_takes (codes "Path(") text t.0 t.1
    ∙ ap (λ (x : List ℕ). codes "Path(" ++ x) (kind.0 ∙ ap (λ (x : List ℕ). decimal k.0.0 ++ x) (after_takes (codes ",") k.0.1 u.0 u.1
    ∙ ap (λ (x : List ℕ). codes "," ++ x) (sub_kind.0 ∙ ap (λ (x : List ℕ). decimal s.0.0 ++ x) (bytes.0
    ∙ ap (λ (x : List ℕ). comma_bytes c.0.0 ++ x) (after_takes (codes ")") c.0.1 r.0 r.1))))) ∙ sym (unknown_parts made r.0) in (
      rest_takes k.0.0 s.0.0 kind.1 sub_kind.1 s.0.1 node rest s.2,
      whole ∙ ap (λ (x : List ℕ). x ++ r.0) (sym (plain_text made (plain_parts made same.0))) ∙ (λ i. node_text false false (same.1 i) ++ same.2 i),
    )

-- whether a node is plain, by its first bytes
pub plain_shown : (node : Node) (kind sub_kind : ℕ) → kind ≡ node.device_type → sub_kind ≡ node.sub_type
    → (irregular formed : Bool) → irregular ≡ is_irregular false (node_with kind sub_kind node.content)
    → formed ≡ has_form false kind sub_kind (take 56 node.content) → length node.content ≤ 0xfffb
    → not (eqb kind 0x7f) && (not (irregular || formed) && true) ≡ is_plain node
plain_shown node kind sub_kind k s irregular formed is has fits =
    let a : irregular ≡ is_irregular false node = is ∙ (λ i. is_irregular false (node_with (k i) (s i) node.content)) in
    let b : formed ≡ has_form false node.device_type node.sub_type node.content =
    has ∙ form_shown kind sub_kind node.content ∙ (λ i. has_form false (k i) (s i) node.content) in
    let yes : true ≡ leb (length node.content) 0xfffb = sym (le-leb (length node.content) 0xfffb fits) in
    (λ i. not (eqb (k i) 0x7f) && (not (a i || b i) && yes i))

module _ (kind sub_kind : ℕ) where
  abbrev node_of : List ℕ → Node
  node_of data_ = node_with kind sub_kind data_

  -- the node with these data, if it is plain
  abbrev if_plain : List ℕ → List ℕ → Option (Node × List ℕ)
  if_plain data_ rest = read_if (is_plain (node_of data_)) (node_of data_) rest

  abbrev from_data : Option (List ℕ × List ℕ) → Option (Node × List ℕ)
  from_data o = option_and_then (λ (content : List ℕ × List ℕ). option_and_then (λ (rest : List ℕ). if_plain content.0 rest) (after (codes ")") content.1)) o

  not_plain : (data_ rest : List ℕ) → leb (length data_) 0xfffb ≡ false → None ≡ if_plain data_ rest
  not_plain data_ rest e = by (not (eqb kind 0x7f)) (not (is_formed (node_of data_))) (leb (length data_) 0xfffb) e
    where
      by : (a b c : Bool) → c ≡ false → None ≡ read_if (a && (b && c)) (node_of data_) rest
      by true true c e = ap (λ (t : Bool). read_if t (node_of data_) rest) (sym e)
      by true false c e = refl
      by false b c e = refl

  -- data that no node has room for
  pub none_fits : (o : Option (List ℕ × List ℕ)) → None ≡ fitting (option_and_then (added []) o) → None ≡ from_data o
  none_fits None e = refl
  none_fits (Some read) e = by (after (codes ")") read.1) (leb (length read.0) 0xfffb) refl e
    where
      by : (o : Option (List ℕ)) (t : Bool) → leb (length read.0) 0xfffb ≡ t → None ≡ cond t (Some read) None
          → None ≡ option_and_then (λ (rest : List ℕ). if_plain read.0 rest) o
      by None t h p = refl
      by (Some rest) true h p = cc
      by (Some rest) false h p = not_plain read.0 rest h

  -- data that are read
  pub some_fits : (o : Option (List ℕ × List ℕ)) (data_ rest : List ℕ) → Some (data_, rest) ≡ fitting (option_and_then (added []) o)
      → option_and_then (λ (left : List ℕ). if_plain data_ left) (after (codes ")") rest) ≡ from_data o
  some_fits None data_ rest e = cc
  some_fits (Some read) data_ rest e = by (leb (length read.0) 0xfffb) e
    where
      by : (t : Bool) → Some (data_, rest) ≡ cond t (Some read) None
          → option_and_then (λ (left : List ℕ). if_plain data_ left) (after (codes ")") rest) ≡ from_data (Some read)
      by true p = let same = some_pair (data_, rest) read p in
          (λ i. option_and_then (λ (left : List ℕ). if_plain (same.0 i) left) (after (codes ")") (same.1 i)))
      by false p = cc
