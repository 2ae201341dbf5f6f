-- The first 56 bytes of its data tell in which form of the table a node is printed.
use Rattle.std.proofs.Common.{◌≡◌, ℕ, ◌+◌, ◌≤◌, min, take, Bool, true, false, cond, eqb, leb, ltb, ◌&&◌, List, [], ◌∷◌, length, refl, ap, arith}
use Rattle.std.specs.Prelude.{Some}
use Rattle.std.specs.List.{list_all}
use Rattle.std.proofs.lemmas.Bool.{and_parts, le-leb, leb-false, leb-true, lt-leb, ltb-true}
use Rattle.std.proofs.lemmas.List.{get_or-take, length-take}
use Rattle.uefi_device_nodes.specs.Rows.{Form, find_form, has_bytes, is_used, matches}
use Rattle.uefi_device_nodes.specs.Table.{forms, group_forms, has_form, is_found}
use Rattle.uefi_device_nodes.specs.Nodes.{node_with}
use Rattle.uefi_node_reader.specs.TableReading.{are_within, form_place, prints}

-- the test for a form that these bytes tell from others
abbrev is_short : Form → Bool
is_short form = leb (form.least + form.more) 56 && are_within 56 form.when

table_short : list_all is_short forms ≡ true
unfolding group_forms
table_short = refl

module _ (content : List ℕ) where
  bytes_same : (bytes : List (ℕ × ℕ)) → are_within 56 bytes ≡ true → has_bytes bytes (take 56 content) ≡ has_bytes bytes content
  bytes_same [] e = refl
  bytes_same (b ∷ bs) e =
      let p = and_parts (ltb b.0 56) (are_within 56 bs) e in
      let first = get_or-take 56 content b.0 0 (ltb-true b.0 56 p.0) in
      (λ i. eqb (first i) b.1 && bytes_same bs p.1 i)

  least_same : (least : ℕ) → least ≤ 56 → leb least (length (take 56 content)) ≡ leb least (length content)
  least_same least small = by (leb least (length content)) refl
    where
      size : length (take 56 content) ≡ min 56 (length content)
      size = length-take 56 content

      by : (t : Bool) → leb least (length content) ≡ t → leb least (length (take 56 content)) ≡ t
      by true e = le-leb least (length (take 56 content)) (let l = leb-true least (length content) e in omega (arith, l, small, size))
      by false e = lt-leb least (length (take 56 content)) (let l = leb-false least (length content) e in omega (arith, l, size))

  module _ (kind sub_kind : ℕ) where
    same : (form : Form) → is_short form ≡ true → matches false kind sub_kind (take 56 content) form ≡ matches false kind sub_kind content form
    same form e =
        let p = and_parts (leb (form.least + form.more) 56) (are_within 56 form.when) e in
        (λ i. (eqb form.kind kind && (eqb form.sub_kind sub_kind && is_used false form.mode))
        && (least_same (form.least + form.more) (leb-true (form.least + form.more) 56 p.0) i && bytes_same form.when p.1 i))

    places : (all : List Form) → list_all is_short all ≡ true
        → form_place (matches false kind sub_kind (take 56 content)) all ≡ form_place (matches false kind sub_kind content) all
    places [] e = refl
    places (form ∷ all) e =
        let p = and_parts (is_short form) (list_all is_short all) e in
        (λ i. cond (same form p.0 i) 0 (places all p.1 i + 1))

    finds : (all : List Form) → list_all is_short all ≡ true
        → find_form (matches false kind sub_kind (take 56 content)) all ≡ find_form (matches false kind sub_kind content) all
    finds [] e = refl
    finds (form ∷ all) e =
        let p = and_parts (is_short form) (list_all is_short all) e in
        (λ i. cond (same form p.0 i) (Some form) (finds all p.1 i))

-- where the form stands in the table
pub place_shown : (kind sub_kind : ℕ) (content : List ℕ)
    → form_place (prints (node_with kind sub_kind (take 56 content))) forms ≡ form_place (prints (node_with kind sub_kind content)) forms
place_shown kind sub_kind content = places content kind sub_kind forms table_short

-- which form it is
pub form_same : (kind sub_kind : ℕ) (content : List ℕ)
    → find_form (prints (node_with kind sub_kind (take 56 content))) forms ≡ find_form (prints (node_with kind sub_kind content)) forms
form_same kind sub_kind content = finds content kind sub_kind forms table_short

-- whether there is one
pub form_shown : (kind sub_kind : ℕ) (content : List ℕ)
    → has_form false kind sub_kind (take 56 content) ≡ has_form false kind sub_kind content
unfolding has_form
form_shown kind sub_kind content = ap is_found (finds content kind sub_kind forms table_short)
