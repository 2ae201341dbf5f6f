-- Nodes of files that were read from names.
use Rattle.std.proofs.Common.{◌≡◌, ℕ, zero, suc, ◌+◌, Bool, true, false, true≢false, cond, leb, ◌&&◌, List, [], ◌∷◌, ◌++◌, length, take, drop, refl, ap, sym, ◌∙◌, arith}
use Rattle.std.specs.Prelude.{Option, Some, None}
use Rattle.std.specs.List.{list_all, position_or_len}
use Rattle.std.specs.Str.{IsUtf8, all_scalars, chars, is_utf8}
use Rattle.std.proofs.lemmas.Str.{chars-append, chars-encodes, encode_ascii, encodes-chars, IsUtf8-append, IsUtf8-from_is_utf8, is_utf8-from_IsUtf8}
use borrow.Author.Tests.{eqb-true}
use lib.Utf8.{encode, encodes, scalar}
use Rattle.uefi_node_reader.specs.TableReading.{first_of}
use Rattle.std.proofs.lemmas.Bool.{and_parts}
use Rattle.uefi_device_nodes.specs.Nodes.{Node, node_with}
use Rattle.uefi_node_reader.specs.FieldReading.{read_if}
use Rattle.uefi_node_reader.specs.FileNodes.{node_of_file, rooted_data}
use Rattle.uefi_node_reader.specs.NamedFiles.{begins_name, ends_name, is_name, is_name_char, name_bytes, name_data, name_read}

-- a backslash before a text
root : encode 92 ≡ 92 ∷ []
root = encode_ascii 92 (omega arith)

root_bytes : encodes (92 ∷ []) ≡ 92 ∷ []
root_bytes = ap (λ (x : List ℕ). x ++ []) root

root_utf8 : IsUtf8 (92 ∷ [])
root_utf8 = (92 ∷ [], (refl, root_bytes))

root_chars : chars (92 ∷ []) ≡ 92 ∷ []
root_chars = ap chars (sym root_bytes) ∙ chars-encodes (92 ∷ []) refl

chars_root : (n : List ℕ) → chars (92 ∷ n) ≡ 92 ∷ chars n
chars_root n = chars-append (92 ∷ []) n root_utf8 ∙ ap (λ (x : List ℕ). x ++ chars n) root_chars

after_first : (n : List ℕ) → IsUtf8 (92 ∷ n) → IsUtf8 n
after_first n u =
    let same : 92 ∷ chars n ≡ u.0 = sym (chars_root n) ∙ ap chars (sym u.1.1) ∙ chars-encodes u.0 u.1.0 in
    let bytes : 92 ∷ encodes (chars n) ≡ 92 ∷ n = ap (λ (x : List ℕ). x ++ encodes (chars n)) (sym root) ∙ ap encodes same ∙ u.1.1 in (
      chars n,
      ((and_parts (scalar 92) (all_scalars (chars n)) (ap all_scalars same ∙ u.1.0)).1, ap (drop 1) bytes),
    )

utf8_root : (n : List ℕ) → is_utf8 (92 ∷ n) ≡ is_utf8 n
utf8_root n = by (is_utf8 n) refl (is_utf8 (92 ∷ n)) refl
  where
    by : (a : Bool) → is_utf8 n ≡ a → (b : Bool) → is_utf8 (92 ∷ n) ≡ b → is_utf8 (92 ∷ n) ≡ is_utf8 n
    by true e true f = f ∙ sym e
    by true e false f = absurd (true≢false (sym (is_utf8-from_IsUtf8 (92 ∷ n)
        (IsUtf8-append (92 ∷ []) n root_utf8 (IsUtf8-from_is_utf8 n e))) ∙ f))
    by false e true f = absurd (true≢false (sym (is_utf8-from_IsUtf8 n (after_first n (IsUtf8-from_is_utf8 (92 ∷ n) f))) ∙ e))
    by false e false f = f ∙ sym e

-- the name after the first backslash
module _ (text n : List ℕ) (is : n ≡ name_bytes text) where
  abbrev pub fits : Bool
  fits = leb (length (rooted_data n)) 0xfffb

  abbrev pub has_chars : Bool
  has_chars = list_all is_name_char (chars n)

  whole : 92 ∷ n ≡ name_bytes (92 ∷ text)
  whole = ap (λ (m : List ℕ). 92 ∷ m) is ∙ ap (λ (k : ℕ). take k (92 ∷ text)) {x = suc (position_or_len ends_name text)} {y = 1 + position_or_len ends_name text} (omega arith)

  left : drop (position_or_len ends_name text) text ≡ drop (1 + position_or_len ends_name text) (92 ∷ text)
  left = ap (λ (k : ℕ). drop k (92 ∷ text)) {x = suc (position_or_len ends_name text)} {y = 1 + position_or_len ends_name text} (omega arith)

  reads : read_if (is_utf8 n && (has_chars && fits)) (node_of_file (rooted_data n)) (drop (position_or_len ends_name text) text)
      ≡ name_read (92 ∷ text)
  reads = (λ i. read_if (sym (utf8_root n) i && is_name (sym (chars_root n) i)) (node_with 4 4 (name_data (sym (chars_root n) i))) (drop (position_or_len ends_name text) text))
      ∙ (λ i. read_if (is_utf8 (whole i) && is_name (chars (whole i))) (node_with 4 4 (name_data (chars (whole i)))) (left i))

  -- a character that no name has
  pub root_none : false ≡ is_utf8 n && has_chars → None ≡ name_read (92 ∷ text)
  root_none e = by (is_utf8 n) has_chars e ∙ reads
    where
      by : (a b : Bool) → false ≡ a && b → None ≡ read_if (a && (b && fits)) (node_of_file (rooted_data n)) (drop (position_or_len ends_name text) text)
      by true true f = cc
      by true false f = refl
      by false b f = refl

  -- what was made of the data
  module _ (all : is_utf8 n && has_chars ≡ true) where
    parts : (is_utf8 n ≡ true) × (has_chars ≡ true)
    parts = and_parts (is_utf8 n) has_chars all

    found : read_if fits (node_of_file (rooted_data n)) (drop (position_or_len ends_name text) text) ≡ name_read (92 ∷ text)
    found = (λ i. read_if (sym parts.0 i && (sym parts.1 i && fits)) (node_of_file (rooted_data n)) (drop (position_or_len ends_name text) text)) ∙ reads

    pub root_long : ◌≡◌ {A = Option (List ℕ)} None (cond fits (Some (rooted_data n)) None) → None ≡ name_read (92 ∷ text)
    root_long e = by fits e ∙ found
      where
        by : (t : Bool) → ◌≡◌ {A = Option (List ℕ)} None (cond t (Some (rooted_data n)) None)
            → None ≡ read_if t (node_of_file (rooted_data n)) (drop (position_or_len ends_name text) text)
        by true f = cc
        by false f = refl

    pub root_some : (content rest : List ℕ) → Some content ≡ cond fits (Some (rooted_data n)) None → rest ≡ drop (position_or_len ends_name text) text
        → Some (node_of_file content, rest) ≡ name_read (92 ∷ text)
    root_some content rest e after = by fits e ∙ found
      where
        by : (t : Bool) → Some content ≡ cond t (Some (rooted_data n)) None
            → Some (node_of_file content, rest) ≡ read_if t (node_of_file (rooted_data n)) (drop (position_or_len ends_name text) text)
        by true f = let same : content ≡ rooted_data n = cc in λ i. Some (node_of_file (same i), after i)
        by false f = cc

-- a text that begins with no backslash
first_unit : (name : List ℕ) → begins_name name ≡ true → (rest : List ℕ) → encodes name ≡ rest → first_of rest ≡ 92
first_unit [] b rest e = cc
first_unit (c ∷ cs) b rest e =
    ap first_of (sym e) ∙ ap (λ (x : ℕ). first_of (encodes (x ∷ cs))) (eqb-true c 92 b)
    ∙ ap (λ (x : List ℕ). first_of (x ++ encodes cs)) root

first_kept : (k : ℕ) (text : List ℕ) → first_of (take k text) ≡ 92 → first_of text ≡ 92
first_kept zero text e = absurd (omega (arith, e))
first_kept (suc k) [] e = e
first_kept (suc k) (c ∷ cs) e = e

pub other_none : (text : List ℕ) → (first_of text ≡ 92 → ⊥) → None ≡ name_read text
other_none text other = by (is_utf8 name) refl (begins_name (chars name)) refl
  where
    name : List ℕ
    name = name_bytes text

    others : Bool
    others = list_all is_name_char (chars name) && leb (length (name_data (chars name))) 0xfffb

    made : Bool → Option (Node × List ℕ)
    made t = read_if t (node_with 4 4 (name_data (chars name))) (drop (position_or_len ends_name text) text)

    by : (a : Bool) → is_utf8 name ≡ a → (b : Bool) → begins_name (chars name) ≡ b → None ≡ name_read text
    by false e b f = ap (λ (t : Bool). made (t && (begins_name (chars name) && others))) (sym e)
    by true e false f = (λ i. made (sym e i && (sym f i && others)))
    by true e true f =
        let u = IsUtf8-from_is_utf8 name e in
        absurd (other (first_kept (position_or_len ends_name text) text (first_unit (chars name) f name (encodes-chars name u))))
