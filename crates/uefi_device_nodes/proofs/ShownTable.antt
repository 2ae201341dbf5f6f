-- No text of the table holds a character that texts escape.
use Rattle.std.proofs.Common.{◌≡◌, ℕ, ◌+◌, ◌==◌, ◌&&◌, Bool, true, false, if◌then◌else◌, List, [], ◌∷◌, ◌++◌, codes, drop, take, refl}
use Rattle.std.proofs.lemmas.Bool.{and_parts}
use Rattle.std.specs.Prelude.{All, Option, Some, None}
use Rattle.std.specs.Fmt.{decimal}
use Rattle.std.specs.List.{flat_map, list_all}
use Rattle.std.proofs.lemmas.List.Elements.{All-drop}
use Rattle.uefi_text.specs.Packed.{IsByte, little_endian}
use Rattle.uefi_device_nodes.specs.FieldTexts.{cid_string, hid_string, id_strings_text, shown_bytes, uid_string, until_nul}
use Rattle.uefi_device_nodes.specs.ShownFields.{AsciiShown, BytesShown, IsShown, JoinedShown, NamesShown, NumbersShown, UnitsShown, is_printable}
use Rattle.uefi_device_nodes.specs.Fields.{field_text}
use Rattle.uefi_device_nodes.specs.Rows.{Form, Piece, form_text, item_of, item_text, list_items, matches, pieces_text, tail_text, value_at}
use Rattle.uefi_device_nodes.specs.ShownTable.{TableShown}
use Rattle.uefi_device_nodes.specs.Table.{form_of, forms, group_forms, table_text, text_in}
use Rattle.uefi_device_nodes.specs.Words.{Word, suits, word_text, words_of}
use Rattle.uefi_device_nodes.specs.declared.node_table.rows.Items.{Items}
use Rattle.uefi_device_nodes.specs.declared.node_table.rows.Items.TheVariants.{Ipv4, Ipv6, Numbers}
use Rattle.uefi_device_nodes.specs.declared.node_table.rows.Shape.{Shape}
use Rattle.uefi_device_nodes.specs.declared.node_table.rows.Shape.TheVariants.{Back, Dashed, Decimal, Forth, Hexadecimal, Next, OrDefault, Eisa, Word as AWord}
use Rattle.uefi_device_nodes.specs.declared.node_table.rows.Tail.{Tail}
use Rattle.uefi_device_nodes.specs.declared.node_table.rows.Tail.TheVariants.{Bytes, Ids, Name, Nothing, Padded, Repeated, Text, Utf16}
use Rattle.uefi_device_nodes.specs.declared.node_table.words.Words.{Words}
use Rattle.uefi_device_nodes.specs.declared.node_table.words.Words.TheVariants.{Digests, Login, Parity, Protocol, StopBits}
use Rattle.uefi_device_nodes.proofs.Forms.{found}

-- the tests for literals of printable ASCII alone
ends_clean : Piece → Bool
ends_clean piece = list_all is_printable piece.ending

is_clean : Form → Bool
is_clean form = (list_all is_printable form.start && list_all ends_clean form.pieces)
    && (list_all is_printable form.close && list_all ends_clean form.rest)

clean_word : Word → Bool
clean_word word = list_all is_printable word.text

-- each literal of the table is: computed
table_clean : list_all is_clean forms ≡ true
unfolding group_forms is_clean ends_clean
table_clean = refl

words_clean : (words : Words) → list_all clean_word (words_of words) ≡ true
unfolding words_of clean_word
words_clean Parity = refl
words_clean StopBits = refl
words_clean Digests = refl
words_clean Login = refl
words_clean Protocol = refl

starts_clean : (items : Items) → list_all is_printable (item_of items).start ≡ true
unfolding item_of
starts_clean Numbers = refl
starts_clean Ipv4 = refl
starts_clean Ipv6 = refl

items_clean : (items : Items) → list_all ends_clean (item_of items).pieces ≡ true
unfolding item_of ends_clean
items_clean Numbers = refl
items_clean Ipv4 = refl
items_clean Ipv6 = refl

module _ (joined : JoinedShown) (ascii : AsciiShown) (numbers : NumbersShown) (bytes_are : BytesShown) (names : NamesShown) (units : UnitsShown) where
  none : IsShown []
  none = ascii [] refl

  word_shown : (words : List Word) → list_all clean_word words ≡ true → (n : ℕ) → IsShown (word_text words n)
  unfolding clean_word
  word_shown [] e n = none
  word_shown (w ∷ ws) e n =
      let p = and_parts (list_all is_printable w.text) (list_all clean_word ws) e in
      by (suits n w) (ascii w.text p.0) (word_shown ws p.1 n)
    where
      by : (t : Bool) → IsShown w.text → IsShown (word_text ws n) → IsShown (if t then w.text else word_text ws n)
      by true one others = one
      by false one others = others

  field_shown : (shape : Shape) (bytes : List ℕ) → IsShown (field_text shape bytes)
  field_shown Hexadecimal bytes = (numbers (little_endian bytes)).0
  field_shown Decimal bytes = (numbers (little_endian bytes)).1
  field_shown OrDefault bytes = by (little_endian bytes == 0)
    where
      by : (t : Bool) → IsShown (if t then codes "DEFAULT" else decimal (little_endian bytes))
      by true = ascii (codes "DEFAULT") refl
      by false = (numbers (little_endian bytes)).1
  field_shown Back bytes = (bytes_are bytes).1
  field_shown Forth bytes = (bytes_are bytes).0
  field_shown Dashed bytes = (bytes_are bytes).2
  field_shown Next bytes = (numbers (little_endian bytes + 1)).0
  field_shown Eisa bytes = (names (little_endian bytes) 0).0
  field_shown (AWord words) bytes = word_shown (words_of words) (words_clean words) (little_endian bytes)

  pieces_shown : (pieces : List Piece) → list_all ends_clean pieces ≡ true → (content : List ℕ) → IsShown (pieces_text pieces content)
  unfolding ends_clean
  pieces_shown [] e content = none
  pieces_shown (piece ∷ pieces) e content =
      let p = and_parts (list_all is_printable piece.ending) (list_all ends_clean pieces) e in
      let field = field_text piece.shape (value_at piece content) in
      joined (field ++ piece.ending) (pieces_text pieces content)
      (joined field piece.ending (field_shown piece.shape (value_at piece content)) (ascii piece.ending p.0))
      (pieces_shown pieces p.1 content)

  list_shown : (items : Items) (chunks : List (List ℕ)) → IsShown (flat_map (item_text (item_of items)) chunks)
  list_shown items [] = none
  list_shown items (chunk ∷ chunks) =
      let item = item_of items in
      joined (item.start ++ pieces_text item.pieces chunk) (flat_map (item_text item) chunks)
      (joined item.start (pieces_text item.pieces chunk) (ascii item.start (starts_clean items)) (pieces_shown item.pieces (items_clean items) chunk))
      (list_shown items chunks)

  ids_shown : (bytes : List ℕ) → IsShown (id_strings_text bytes)
  unfolding id_strings_text
  ids_shown bytes =
      let text : List ℕ → List ℕ = λ string. shown_bytes string in
      let hid = hid_string bytes in
      let cid = cid_string bytes in
      let uid = uid_string bytes in
      let comma = ascii (codes ",") refl in
      joined (text hid) (codes "," ++ (text cid ++ (codes "," ++ text uid))) (bytes_are hid).4
      (joined (codes ",") (text cid ++ (codes "," ++ text uid)) comma
      (joined (text cid) (codes "," ++ text uid) (bytes_are cid).4 (joined (codes ",") (text uid) comma (bytes_are uid).4)))

  tail_shown : (tail : Tail) (bytes : List ℕ) → All IsByte bytes → IsShown (tail_text tail bytes)
  tail_shown Nothing bytes h = none
  tail_shown Bytes bytes h = (bytes_are bytes).3
  tail_shown Text bytes h = (bytes_are bytes).4
  tail_shown Utf16 bytes h = units bytes h
  tail_shown Name bytes h = (bytes_are (until_nul bytes)).4
  tail_shown Padded bytes h = (bytes_are (until_nul (take 32 bytes))).4
  tail_shown Ids bytes h = ids_shown bytes
  tail_shown (Repeated items) bytes h = list_shown items (list_items (item_of items).size bytes)

  form_shown : (form : Form) → is_clean form ≡ true → (content : List ℕ) → All IsByte content → IsShown (form_text form content)
  unfolding is_clean
  form_shown form e content h =
      let p = and_parts (list_all is_printable form.start && list_all ends_clean form.pieces) (list_all is_printable form.close && list_all ends_clean form.rest) e in
      let q = and_parts (list_all is_printable form.start) (list_all ends_clean form.pieces) p.0 in
      let r = and_parts (list_all is_printable form.close) (list_all ends_clean form.rest) p.1 in
      let after = drop form.least content in
      let end = pieces_text form.rest content in
      joined form.start (pieces_text form.pieces content ++ (tail_text form.tail after ++ (form.close ++ end))) (ascii form.start q.0)
      (joined (pieces_text form.pieces content) (tail_text form.tail after ++ (form.close ++ end)) (pieces_shown form.pieces q.1 content)
      (joined (tail_text form.tail after) (form.close ++ end) (tail_shown form.tail after (All-drop IsByte form.least content h))
      (joined form.close end (ascii form.close r.0) (pieces_shown form.rest r.1 content))))

  pub table_shown : TableShown
  unfolding table_text
  table_shown display_only kind sub_kind content h = by (form_of display_only kind sub_kind content) refl
    where
      by : (o : Option Form) → form_of display_only kind sub_kind content ≡ o → IsShown (text_in o content)
      by None e = none
      by (Some form) e =
          form_shown form (found (matches display_only kind sub_kind content) is_clean forms form e table_clean).0 content h
