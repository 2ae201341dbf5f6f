use Rattle.std.proofs.Common.{◌≡◌, true, false, eqb, leb, ◌&&◌, List, ℕ, length, sym, ap, ◌∙◌, arith}
use Rattle.std.specs.Prelude.{Option, Some}
use Rattle.std.proofs.lemmas.Bool.Decides.{nat_tests}
use Rattle.uefi_device_nodes.specs.Rows.{Form, as_form}
use Rattle.uefi_device_nodes.specs.Table.{forms}
use Rattle.uefi_device_nodes.specs.Nodes.{Node, node_with}
use Rattle.uefi_node_reader.specs.FieldReading.{read_if}
use Rattle.uefi_node_reader.specs.TableReading.{form_place, form_read, kept, prints}
use Rattle.uefi_node_reader.specs.ParsedNodeViews.{text_node_data, parsed_node}
use Rattle.uefi_node_reader.proofs.FormsByFirstBytes.{place_shown}
use Rattle.uefi_node_reader.proofs.ParsedNodes.{fitting_fits, kept-fitting}
use Rattle.uefi_node_reader.proofs.exact.table_reader.read_kept.Goals as goal

pub returns-in_err-node : goal.returns-in_err-node
returns-in_err-node g c =
    let form : Form = as_form c.args.row.now in
    rw c.from_residual.ensures (ap (λ (o : Option (List ℕ × List ℕ)). kept forms c.args.place form o) (rw c.in_err-node.was at c.read_row.ensures.data)
    ∙ kept-fitting forms c.args.place form (form_read form (g.T.Text.bytes c.args.text)))

pub returns-then-form_place-place : goal.returns-then-form_place-place
unfolding parsed_node
returns-then-form_place-place g c =
    let form : Form = as_form c.args.row.now in
    let bytes : List ℕ = text_node_data c.in_ok-node.node in
    let node : Node = node_with form.kind form.sub_kind bytes in
    let place : c.form_place.result ≡ form_place (prints node) forms = c.form_place.ensures
    ∙ ap (λ (l : List ℕ). form_place (prints (node_with form.kind form.sub_kind l)) forms) c.head.ensures ∙ place_shown form.kind form.sub_kind bytes in
    let other : false ≡ eqb c.form_place.result c.args.place = grind (arith, nat_tests) in
    (λ i. read_if (other i && leb (length bytes) 0xfffb) node (g.T.Text.bytes c.in_ok-node.rest))
    ∙ ap (λ (n : ℕ). read_if (eqb n c.args.place && leb (length bytes) 0xfffb) node (g.T.Text.bytes c.in_ok-node.rest)) place
    ∙ ap (λ (o : Option (List ℕ × List ℕ)). kept forms c.args.place form o) (rw c.in_ok-node.was at c.read_row.ensures.data)
    ∙ kept-fitting forms c.args.place form (form_read form (g.T.Text.bytes c.args.text))

pub returns : goal.returns
unfolding parsed_node
returns g c =
    let form : Form = as_form c.args.row.now in
    let read = c.in_ok-node.node in
    let bytes : List ℕ = text_node_data read in
    let node : Node = node_with form.kind form.sub_kind bytes in
    let types = (rw c.in_ok-node.was at c.read_row.ensures.types) in
    let place : c.form_place.result ≡ form_place (prints node) forms = c.form_place.ensures
    ∙ ap (λ (l : List ℕ). form_place (prints (node_with form.kind form.sub_kind l)) forms) c.head.ensures ∙ place_shown form.kind form.sub_kind bytes in
    let same : true ≡ eqb c.form_place.result c.args.place = grind (arith, nat_tests) in
    let fits : true ≡ leb (length bytes) 0xfffb =
    sym (fitting_fits (form_read form (g.T.Text.bytes c.args.text)) (bytes, g.T.Text.bytes c.in_ok-node.rest) (rw c.in_ok-node.was at c.read_row.ensures.data)) in
    (λ i. Some (node_with (types.0 i) (types.1 i) bytes, (g.T.Text.bytes c.in_ok-node.rest)))
    ∙ (λ i. read_if (same i && fits i) node (g.T.Text.bytes c.in_ok-node.rest))
    ∙ ap (λ (n : ℕ). read_if (eqb n c.args.place && leb (length bytes) 0xfffb) node (g.T.Text.bytes c.in_ok-node.rest)) place
    ∙ ap (λ (o : Option (List ℕ × List ℕ)). kept forms c.args.place form o) (rw c.in_ok-node.was at c.read_row.ensures.data)
    ∙ kept-fitting forms c.args.place form (form_read form (g.T.Text.bytes c.args.text))
