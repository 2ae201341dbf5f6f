-- A node whose text holds all of it, by what was read, is told by the table.
use Rattle.std.proofs.Common.{◌≡◌, ℕ, ◌+◌, ◌-◌, ◌^◌, ◌≤◌, Bool, true, false, eqb, leb, ◌&&◌, List, [], ◌∷◌, ◌++◌, length, take, drop, refl, sym, ap, subst, ◌∙◌, arith}
use Rattle.std.specs.Prelude.{Option, Some, None}
use Rattle.std.specs.Cmp.Lexicographic.{same_text}
use Rattle.std.proofs.lemmas.Bool.{and_parts, le-leb}
use Rattle.std.proofs.lemmas.List.{drop-drop, drop_all, length-take, length-take-le, take-append-drop, take-take, take_all}
use Rattle.std.specs.List.{list_all}
use borrow.Author.Tests.{eqb-true}
use Rattle.uefi_device_nodes.specs.Rows.{Form, Piece, fields_of, find_form, is_within, item_of}
use Rattle.uefi_device_nodes.specs.Table.{forms}
use Rattle.uefi_device_nodes.specs.declared.node_table.rows.Items.{Items}
use Rattle.uefi_device_nodes.specs.declared.node_table.rows.Items.TheVariants.{Numbers, Ipv4, Ipv6}
use Rattle.uefi_device_nodes.specs.declared.node_table.rows.Shape.{Shape}
use Rattle.uefi_device_nodes.specs.declared.node_table.rows.Shape.TheVariants.{Hexadecimal, Decimal, OrDefault, Back, Forth, Dashed, Next, Eisa, Word}
use Rattle.uefi_device_nodes.specs.declared.node_table.words.Words.{Words}
use Rattle.uefi_device_nodes.specs.declared.node_table.rows.Tail.{Tail}
use Rattle.uefi_device_nodes.specs.declared.node_table.rows.Tail.TheVariants.{Nothing, Bytes, Text, Utf16, Name, Padded, Ids, Repeated}
use Rattle.uefi_device_nodes.proofs.Forms.{found, long_enough}
use Rattle.uefi_device_nodes.specs.Nodes.{Node, node_with}
use Rattle.uefi_text.specs.UnitBytes.{unit_bytes}
use Rattle.uefi_node_reader.specs.CountedBytes.{pushed_bytes}
use Rattle.uefi_node_reader.specs.FieldReading.{field_kept, is_clear}
use Rattle.uefi_node_reader.specs.TableReading.{AreItems, IsTabled, IsTailTold, as_ids, blank, first_of, is_filled, is_exact, is_sound, overlay, padded, prints, put_at}
use Rattle.uefi_node_reader.specs.CompleteTexts.{are_items, are_texts, tells, tells_data, tells_fixed, tells_tail}
use Rattle.uefi_node_reader.proofs.CountedBytes.{pushed_is}
use Rattle.uefi_node_reader.proofs.Groups.{table_filled, table_sound}
use Rattle.uefi_node_reader.proofs.FormsByFirstBytes.{form_same}
use Rattle.uefi_node_reader.proofs.LenientFields.{SetIn}
use Rattle.uefi_node_reader.proofs.TableLaws.{exact_is_read, sound, values_same}

-- the same items
same_items : (items : Items) (tail : Tail) (close bytes : List ℕ) → are_items items tail ≡ true
    → IsTailTold tail close bytes → AreItems (item_of items) bytes
same_items Numbers (Repeated Numbers) close bytes e told = told
same_items Ipv4 (Repeated Ipv4) close bytes e told = told
same_items Ipv6 (Repeated Ipv6) close bytes e told = told
same_items items tail close bytes e told = cc

-- texts of one kind, with ends that begin alike
same_texts : (one other : Tail) (close end bytes : List ℕ) → are_texts one other ≡ true → first_of end ≡ first_of close
    → IsTailTold other end bytes → IsTailTold one close bytes
same_texts Text Text close end bytes e first told =
    subst (λ (stop : ℕ). list_all (is_clear stop) bytes ≡ true) first told
same_texts Utf16 Utf16 close end bytes e first told = subst (λ (stop : ℕ). (text : List ℕ)
    × ((bytes ≡ unit_bytes text) × (list_all (is_clear stop) text ≡ true))) first told
same_texts Name Name close end bytes e first told = subst (λ (stop : ℕ). (name : List ℕ)
    × ((bytes ≡ name ++ 0 ∷ []) × (list_all (is_clear stop) name ≡ true))) first told
same_texts Padded Padded close end bytes e first told = subst (λ (stop : ℕ). (text : List ℕ) × (bytes ≡ padded text)
    × (leb (length text) 32 ≡ true) × (list_all (is_clear stop) text ≡ true)) first told
same_texts Ids Ids close end bytes e first told = subst (λ (stop : ℕ). (hid cid uid : List ℕ) × (bytes ≡ as_ids hid cid uid)
    × (list_all (is_clear 44) hid ≡ true) × (list_all (is_clear 44) cid ≡ true)
    × (list_all (is_clear stop) uid ≡ true)) first told
same_texts one other close end bytes e first told = cc

text_told : (read : Form) (content : List ℕ) → SetIn read content → (least : ℕ) (tail : Tail) (close : List ℕ)
    → are_texts tail read.tail && (eqb read.least least && eqb (first_of read.close) (first_of close)) ≡ true
    → IsTailTold tail close (drop least content)
text_told read content is least tail close e =
    let parts = and_parts (are_texts tail read.tail) _ e in
    let ends = and_parts (eqb read.least least) (eqb (first_of read.close) (first_of close)) parts.1 in
    same_texts tail read.tail close read.close (drop least content) parts.0 (eqb-true _ _ ends.1)
    (subst (λ (n : ℕ). IsTailTold read.tail read.close (drop n content)) (eqb-true read.least least ends.0) is.tail)

tail_told : (read : Form) (content : List ℕ) → SetIn read content → (least : ℕ) (tail : Tail) (close : List ℕ)
    → tells_tail read least tail close (length content) ≡ true → IsTailTold tail close (drop least content)
tail_told read content is least Nothing close e =
    drop_all least content (omega (arith, eqb-true (length content) least e))
tail_told read content is least Bytes close e = tt
tail_told read content is least (Repeated items) close e =
    let parts = and_parts (are_items items read.tail) (eqb read.least least) e in
    same_items items read.tail read.close (drop least content) parts.0
    (subst (λ (n : ℕ). IsTailTold read.tail read.close (drop n content)) (eqb-true read.least least parts.1) is.tail)
tail_told read content is least Text close e = text_told read content is least Text close e
tail_told read content is least Utf16 close e = text_told read content is least Utf16 close e
tail_told read content is least Name close e = text_told read content is least Name close e
tail_told read content is least Padded close e = text_told read content is least Padded close e
tail_told read content is least Ids close e = text_told read content is least Ids close e

-- what passes the test is told
pub tells_told : (read : Form) (node : Node) → SetIn read node.content → tells read node ≡ true → IsTabled forms node
unfolding tells
tells_told read node is e =
    let parts = and_parts (leb (length node.content) 0xfffb) (tells_data read node.content (find_form (prints node) forms)) e in
    by (find_form (prints node) forms) refl parts.0 parts.1
  where
    content : List ℕ
    content = node.content

    by : (o : Option Form) → find_form (prints node) forms ≡ o → leb (length node.content) 0xfffb ≡ true
        → tells_data read node.content o ≡ true → IsTabled forms node
    by None f l t = cc
    by (Some form) f l t =
        let first = and_parts (is_exact form.mode) (tells_fixed form (take form.least node.content) && tells_tail read form.least form.tail form.close (length node.content)) t in
        let second = and_parts (tells_fixed form (take form.least node.content)) (tells_tail read form.least form.tail form.close (length node.content)) first.1 in
        let test = found (prints node) is_sound forms form f table_sound in
        let s = sound form (exact_is_read form.mode first.0) test.0 in
        let long = long_enough false node.device_type node.sub_type node.content form test.1 in
        let head : List ℕ = take form.least node.content in
        let extra : List ℕ = drop form.least node.content in
        let whole : head ++ extra ≡ node.content = take-append-drop form.least node.content in
        let within : list_all (is_within form.least) (fields_of form) ≡ true = ap (λ (n : ℕ). list_all (is_within n) (fields_of form)) (sym s.size) ∙ s.fields in
        let values = values_same form.least head extra (length-take-le form.least node.content long) (fields_of form) within in
        let fixed = same_text (overlay (fields_of form) head (blank form)) head (sym second.0) in
        record {
          form = form;
          found = f;
          read = first.0;
          whole = (
            ap (λ (x : List ℕ). overlay (fields_of form) x (blank form) ++ extra) (sym whole)
                ∙ ap (λ (x : List ℕ). x ++ extra) (values.1 (blank form) ∙ fixed) ∙ whole,
            tail_told read node.content is form.least form.tail form.close second.1,
          );
          bytes = is.bytes;
          fits = l;
        }

-- the form in which a node is printed, found by its first bytes
pub record ShownIn (node : Node) (form : Form) : Type 0 where
  pub chosen : find_form (prints node) forms ≡ Some form
  pub sounds : is_sound form ≡ true
  pub fills : is_filled form ≡ true
  pub within : form.least ≤ length (take 56 node.content)
  pub head : take form.least (take 56 node.content) ≡ take form.least node.content

pub shown_in : (node : Node) (form : Form)
    → Some form ≡ find_form (prints (node_with node.device_type node.sub_type (take 56 node.content))) forms → ShownIn node form
shown_in node form e =
    let short : Node = node_with node.device_type node.sub_type (take 56 node.content) in
    let test = found (prints short) is_sound forms form (sym e) table_sound in
    let long : form.least ≤ length (take 56 node.content) = long_enough false node.device_type node.sub_type (take 56 node.content) form test.1 in
    let size = length-take 56 node.content in
    record {
      chosen = sym (form_same node.device_type node.sub_type node.content) ∙ sym e;
      sounds = test.0;
      fills = (found (prints short) is_filled forms form (sym e) table_filled).0;
      within = long;
      head = take-take form.least 56 node.content (omega (arith, long, size));
    }

-- no form
pub shown_not : (node : Node)
    → None ≡ find_form (prints (node_with node.device_type node.sub_type (take 56 node.content))) forms
    → find_form (prints node) forms ≡ None
shown_not node e = sym (form_same node.device_type node.sub_type node.content) ∙ sym e

-- the same form by the parts of the node
pub by_parts : (node : Node) (kind sub_kind : ℕ) (head : List ℕ) (o : Option Form) → kind ≡ node.device_type
    → sub_kind ≡ node.sub_type → head ≡ take 56 node.content → o ≡ find_form (prints (node_with kind sub_kind head)) forms
    → o ≡ find_form (prints (node_with node.device_type node.sub_type (take 56 node.content))) forms
by_parts node kind sub_kind head o k s h e = e ∙ (λ i. find_form (prints (node_with (k i) (s i) (h i))) forms)

-- a node in no form, or in one that is not read
no : (x : Bool) → false ≡ x && false
no true = refl
no false = refl

pub tells_none : (read : Form) (node : Node) → find_form (prints node) forms ≡ None → false ≡ tells read node
unfolding tells
tells_none read node e = no (leb (length node.content) 0xfffb)
    ∙ ap (λ (o : Option Form). leb (length node.content) 0xfffb && tells_data read node.content o) (sym e)

pub tells_other : (read : Form) (node : Node) (form : Form) → find_form (prints node) forms ≡ Some form
    → is_exact form.mode ≡ false → false ≡ tells read node
unfolding tells
tells_other read node form e other =
    let rest : Bool = tells_fixed form (take form.least node.content) && tells_tail read form.least form.tail form.close (length node.content) in
    no (leb (length node.content) 0xfffb)
    ∙ ap (λ (t : Bool). leb (length node.content) 0xfffb && (t && rest)) (sym other)
    ∙ ap (λ (o : Option Form). leb (length node.content) 0xfffb && tells_data read node.content o) (sym e)

-- a node in one that is
pub tells_is : (read : Form) (node : Node) (form : Form) → ShownIn node form → is_exact form.mode ≡ true
    → length node.content ≤ 0xfffb → (fixed tail : Bool)
    → fixed ≡ tells_fixed form (take form.least (take 56 node.content))
    → tail ≡ tells_tail read form.least form.tail form.close (length node.content) → fixed && tail ≡ tells read node
unfolding tells
tells_is read node form shown is fits fixed tail f t =
    (λ i. sym (le-leb (length node.content) 0xfffb fits) i && (sym is i
    && ((f ∙ ap (tells_fixed form) shown.head) i && t i)))
    ∙ ap (λ (o : Option Form). leb (length node.content) 0xfffb && tells_data read node.content o) (sym shown.chosen)

-- a field that was put in its place byte by byte
pub put_is : (p : Piece) (value content new : List ℕ) (count : ℕ) → length value ≡ p.width → p.place + p.width ≤ length content
    → p.place + p.width ≤ 2 ^ 64 - 1 → (new, count) ≡ pushed_bytes (content, p.place) value → new ≡ put_at p value content
put_is p value content new count w l few e =
    ap (λ (s : List ℕ × ℕ). s.0) (e ∙ pushed_is value content p.place (omega (arith, l)) (omega (arith, w, few)))
    ∙ ap (λ (x : List ℕ). take p.place content ++ (x ++ drop (p.place + length value) content))
    (take_all (length content - p.place) value (omega (arith, w, l)))
    ∙ ap (λ (n : ℕ). take p.place content ++ (value ++ drop (p.place + n) content)) w
    ∙ ap (λ (x : List ℕ). take p.place content ++ (value ++ x)) (sym (drop-drop p.width p.place content))

-- all of a field is read of its text, but for words and IDs
pub kept_whole : (shape : Shape) → (shape ≡ Eisa → ⊥) → ((list : Words) → shape ≡ Word list → ⊥) → (bytes : List ℕ) → bytes ≡ field_kept shape bytes
kept_whole Hexadecimal id other bytes = refl
kept_whole Decimal id other bytes = refl
kept_whole OrDefault id other bytes = refl
kept_whole Back id other bytes = refl
kept_whole Forth id other bytes = refl
kept_whole Dashed id other bytes = refl
kept_whole Next id other bytes = refl
kept_whole Eisa id other bytes = absurd (id refl)
kept_whole (Word list) id other bytes = absurd (other list refl)
