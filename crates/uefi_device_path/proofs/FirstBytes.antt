-- The text of a node begins with nothing that is passed over before one.
use Rattle.std.proofs.Common.{◌≡◌, ℕ, suc, ◌+◌, ◌-◌, Bool, true, false, cond, List, [], ◌∷◌, take, drop, refl, ap, sym, ◌∙◌, arith, true≢false}
use Rattle.std.specs.Prelude.{Option, Some, None, codes, length, nat_le, nat_lt, option_and_then, ◌==◌, ◌&&◌, not}
use Rattle.std.specs.List.{list_all, position_or_len}
use Rattle.std.specs.Str.{chars, chars_after, is_utf8}
use Rattle.std.proofs.lemmas.Str.{chars-nil}
use Rattle.std.proofs.lemmas.Bool.{and_parts, not-true}
use Rattle.std.proofs.lemmas.Bool.Decides.{nat_tests}
use borrow.Author.Tests.{eqb-true}
use Rattle.uefi_device_nodes.specs.Rows.{Form}
use Rattle.uefi_device_nodes.specs.Table.{forms, group_forms}
use Rattle.uefi_device_nodes.specs.Nodes.{Node, node_with}
use Rattle.uefi_device_path.proofs.AroundNodes.{is_clear, is_passed}
use Rattle.uefi_node_reader.specs.FieldReading.{◌>>=◌, either_read, read_if}
use Rattle.uefi_node_reader.specs.NamedFiles.{begins_name, ends_name, is_name, is_name_char, name_bytes, name_data, name_read, node_read}
use Rattle.uefi_node_reader.specs.PlainNodes.{plain_read, types_read}
use Rattle.uefi_node_reader.specs.TableReading.{blank, forms_read, is_exact, kept, pieces_put, rest_read}
use Rattle.uefi_node_reader.specs.WordReading.{after}

-- the test for a literal that begins with another byte
abbrev begins_clear : List ℕ → Bool
begins_clear [] = false
begins_clear (c ∷ cs) = not (is_passed c)

-- each form of the table does
table_clear : list_all (λ form. begins_clear form.start) forms ≡ true
unfolding group_forms
table_clear = refl

module _ (c : ℕ) (cs : List ℕ) (passed : is_passed c ≡ true) where
  -- another byte is not this one
  is_other : (d : ℕ) → not (is_passed d) ≡ true → (d == c) ≡ false
  is_other d e = by (d == c) refl
    where
      by : (b : Bool) → (d == c) ≡ b → b ≡ false
      by true p = absurd (true≢false (sym passed ∙ ap is_passed (sym (eqb-true d c p)) ∙ not-true (is_passed d) e))
      by false p = refl

  no_literal : (literal : List ℕ) → begins_clear literal ≡ true → after literal (c ∷ cs) ≡ None
  no_literal [] e = absurd (true≢false (sym e))
  no_literal (d ∷ ds) e = ap (λ (b : Bool). cond b (after ds cs) None) (is_other d e)

  -- so no form of the table is read
  no_form : (all : List Form) (place : ℕ) (others : List Form) → list_all (λ form. begins_clear form.start) others ≡ true
      → forms_read all place others (c ∷ cs) ≡ None
  no_form all place [] e = refl
  no_form all place (form ∷ others) e =
      let parts = and_parts (begins_clear form.start) (list_all (λ other. begins_clear other.start) others) e in
      ap (λ (o : Option (List ℕ × List ℕ)). either_read (kept all place form o) (forms_read all (place + 1) others (c ∷ cs)))
      (by (is_exact form.mode) (no_literal form.start parts.0))
      ∙ no_form all (place + 1) others parts.1
    where
      body : Option (List ℕ) → Option (List ℕ × List ℕ)
      body o = option_and_then (λ (t : List ℕ). pieces_put form.pieces (blank form) t >>= rest_read form) o

      by : (b : Bool) → after form.start (c ∷ cs) ≡ None → cond b (body (after form.start (c ∷ cs))) None ≡ None
      by true p = ap body p
      by false p = refl

  no_plain : plain_read (c ∷ cs) ≡ None
  no_plain = ap (λ (o : Option (List ℕ)). option_and_then types_read o) (no_literal (codes "Path(") refl)

  -- and no name, whose first character would be this byte
  small : nat_lt c 128 ≡ true
  small = grind (arith, nat_tests)

  no_backslash : (c == 92) ≡ false
  no_backslash = by (c == 92) refl
    where
      by : (b : Bool) → (c == 92) ≡ b → b ≡ false
      by true p = absurd (true≢false (sym passed ∙ ap is_passed (eqb-true c 92 p)))
      by false p = refl

  first_char : (xs : List ℕ) → begins_name (chars (c ∷ xs)) ≡ false
  unfolding chars
  first_char xs = ap (λ (b : Bool). begins_name (chars_after (cond b 0 (cond (nat_lt c 224) 1 (cond (nat_lt c 240) 2 3)))
      (cond b c (cond (nat_lt c 224) (c - 192) (cond (nat_lt c 240) (c - 224) (c - 240)))) xs)) small ∙ by xs
    where
      by : (xs : List ℕ) → begins_name (chars_after 0 c xs) ≡ false
      by [] = no_backslash
      by (x ∷ xs) = no_backslash

  no_name : name_read (c ∷ cs) ≡ None
  no_name = none (is_utf8 (name_bytes (c ∷ cs))) (is_name (chars (name_bytes (c ∷ cs)))) (no_is_name (by (not (ends_name c))))
    where
      more : ℕ
      more = position_or_len ends_name cs

      by : (b : Bool) → begins_name (chars (take (cond b (1 + more) 0) (c ∷ cs))) ≡ false
      by true =
          let one : 1 + more ≡ suc more = omega arith in
          ap (λ (n : ℕ). begins_name (chars (take n (c ∷ cs)))) one ∙ first_char (take more cs)
      by false = ap begins_name chars-nil

      no_is_name : begins_name (chars (name_bytes (c ∷ cs))) ≡ false → is_name (chars (name_bytes (c ∷ cs))) ≡ false
      no_is_name e = ap (λ (b : Bool). b && (list_all is_name_char (chars (name_bytes (c ∷ cs)))
          && nat_le (length (name_data (chars (name_bytes (c ∷ cs))))) 0xfffb)) e

      none : (a b : Bool) → b ≡ false
          → read_if (a && b) (node_with 4 4 (name_data (chars (name_bytes (c ∷ cs))))) (drop (position_or_len ends_name (c ∷ cs)) (c ∷ cs)) ≡ None
      none a true e = absurd (true≢false e)
      none true false e = refl
      none false false e = refl

  no_node : node_read (c ∷ cs) ≡ None
  unfolding node_read
  no_node = λ i. either_read (no_form forms 0 forms table_clear i) (either_read (no_plain i) (no_name i))

-- a text that is read as a node begins otherwise
pub node_clear : (text : List ℕ) (read : Node × List ℕ) → node_read text ≡ Some read → is_clear text ≡ true
node_clear [] read e = refl
node_clear (c ∷ cs) read e = by (is_passed c) refl
  where
    by : (b : Bool) → is_passed c ≡ b → not b ≡ true
    by true p = absurd (no (sym (no_node c cs p) ∙ e))
      where
        no : None ≡ Some read → ⊥
        no q = cc
    by false p = refl
