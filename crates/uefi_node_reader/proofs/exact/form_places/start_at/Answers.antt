use Rattle.std.proofs.Common.{◌≡◌, ℕ, zero, suc, ◌+◌, ◌-◌, ◌<◌, ◌≤◌, List, [], ◌∷◌, ◌++◌, get_or, length, map, refl, sym, ap, ◌∙◌, arith}
use Rattle.std.specs.Prelude.{Some}
use Rattle.std.proofs.lemmas.List.{length-map}
use Rattle.uefi_device_nodes.specs.Rows.{Form, as_form}
use Rattle.uefi_device_nodes.specs.Table.{forms, forms_from, group_forms}
use Rattle.uefi_device_nodes.specs.declared.node_table.rows.RowOf.{RowOf}
use Rattle.uefi_device_nodes.specs.declared.node_table.parts.Bytes.{Bytes as PackedBytes}
use Rattle.uefi_device_nodes.specs.declared.node_table.parts.Pieces.{Pieces}
use Rattle.uefi_device_nodes.specs.declared.node_table.parts.Text.{Text as PackedText}
use Rattle.uefi_device_nodes.proofs.Groups.{next_group}
use Rattle.uefi_node_reader.specs.NearNames.{start_at}
use Rattle.uefi_node_reader.proofs.exact.form_places.start_at.Goals as goal

-- the start of one of two lists of forms
within : (xs ys : List Form) (n : ℕ) → n < length xs → start_at (xs ++ ys) n ≡ start_at xs n
within [] ys n l = absurd (omega (arith, l))
within (x ∷ xs) ys zero l = refl
within (x ∷ xs) ys (suc n) l = within xs ys n (omega (arith, l))

past : (xs ys : List Form) (n : ℕ) → length xs ≤ n → start_at (xs ++ ys) n ≡ start_at ys (n - length xs)
past [] ys n l = ap (start_at ys) {x = n} {y = n - 0} (omega arith)
past (x ∷ xs) ys zero l = absurd (omega (arith, l))
past (x ∷ xs) ys (suc n) l = past xs ys n (omega (arith, l))
    ∙ ap (start_at ys) {x = n - length xs} {y = suc n - length (x ∷ xs)} (omega arith)

-- the start of a row
abbrev Row : Type 0
Row = RowOf ℕ PackedText PackedBytes Pieces

start_in : (rows : List Row) (n : ℕ) (d : Row) → n < length rows → start_at (map as_form rows) n ≡ Some (as_form (get_or rows n d)).start
start_in [] n d l = absurd (omega (arith, l))
start_in (r ∷ rs) zero d l = refl
start_in (r ∷ rs) (suc n) d l = start_in rs n d (omega (arith, l))

pub returns-then-left-rows : goal.returns-then-left-rows
returns-then-left-rows c =
    let rows = c.group-rows.result.now in
    let size = length-map rows as_form in
    let all : start_at (group_forms c.loop-index.index) c.loop-index.left ≡ start_at forms c.args.place =
    sym (ap (λ (l : List Form). start_at l c.loop-index.left) (next_group c.loop-index.index c.loop-index-test.true)
    ∙ within (group_forms c.loop-index.index) (forms_from (c.loop-index.index + 1) (15 - (c.loop-index.index + 1))) c.loop-index.left
    (omega (arith, size, ap length c.group-rows.ensures.forms, c.if-left-rows.true))) ∙ c.loop-index.invariant in
    ap (λ (s : List ℕ). Some s) c.as_str.ensures ∙ sym (start_in rows c.loop-index.left _ c.if-left-rows.true)
    ∙ ap (λ (l : List Form). start_at l c.loop-index.left) c.group-rows.ensures.forms ∙ all

pub loop-index-preserved : goal.loop-index-preserved
loop-index-preserved c =
    let rows = c.group-rows.result.now in
    let size = length-map rows as_form in
    let many : length (group_forms c.loop-index.index) ≡ length rows = sym (ap length c.group-rows.ensures.forms) ∙ size in
    let others : List Form = forms_from (c.loop-index.index + 1) (15 - (c.loop-index.index + 1)) in
    ap (λ (n : ℕ). start_at others (c.loop-index.left - n)) (sym many)
    ∙ sym (ap (λ (l : List Form). start_at l c.loop-index.left) (next_group c.loop-index.index c.loop-index-test.true)
    ∙ past (group_forms c.loop-index.index) others c.loop-index.left (omega (arith, many, c.if-left-rows.false)))
    ∙ c.loop-index.invariant
