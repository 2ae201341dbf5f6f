use Rattle.std.proofs.Common.{◌≡◌, ℕ, List, length, take, drop, sym, ap, ◌∙◌, arith}
use Rattle.std.specs.Prelude.{Option, Some, option_and_then}
use Rattle.std.specs.List.{list_all}
use Rattle.std.proofs.lemmas.List.{length-take-le}
use Rattle.uefi_device_nodes.specs.Rows.{Form, as_form, is_within}
use Rattle.uefi_node_reader.specs.TableReading.{followed, pieces_put}
use Rattle.uefi_node_reader.specs.ParsedNodeViews.{text_node_data}
use Rattle.uefi_node_reader.specs.WordReading.{after}
use Rattle.uefi_node_reader.proofs.RestReads.{rest_none, rest_some}
use Rattle.uefi_node_reader.proofs.exact.table_reader.finish_row.Goals as goal

pub returns-in_err-node-clause-data : goal.returns-in_err-node-clause-data
returns-in_err-node-clause-data g c =
    let form : Form = as_form c.args.row.now in
    let fixed : List ℕ = take form.least c.args.fixed in
    let size : length fixed ≡ form.least = length-take-le form.least c.args.fixed (omega (arith, c.requires.small, c.with_tail.auto.fixed_bytes)) in
    let within = ap (λ (n : ℕ). list_all (is_within n) form.rest) size ∙ c.requires.within in
    rw c.from_residual.ensures (rest_none form fixed within (g.T.Text.bytes c.args.text) (rw (c.in_err-node.was, c.as_str.ensures) at c.with_tail.ensures.data))

pub returns-clause-data : goal.returns-clause-data
returns-clause-data g c =
    let form : Form = as_form c.args.row.now in
    let fixed : List ℕ = take form.least c.args.fixed in
    let size : length fixed ≡ form.least = length-take-le form.least c.args.fixed (omega (arith, c.requires.small, c.with_tail.auto.fixed_bytes)) in
    let within = ap (λ (n : ℕ). list_all (is_within n) form.rest) size ∙ c.requires.within in
    let node = c.in_ok-node.node in
    let all : List ℕ = text_node_data node in
    let ended : Some (g.T.Text.bytes c.in_ok-rest.rest) ≡ after form.close (g.T.Text.bytes c.in_ok-node.rest) =
    (rw c.in_ok-rest.was at c.after.ensures) ∙ ap (λ (l : List ℕ). after l (g.T.Text.bytes c.in_ok-node.rest)) c.as_bytes.ensures.value in
    (rw c.as_slice.ensures at c.with_fields.ensures.data)
    ∙ ap (λ (o : Option (List ℕ)). option_and_then (λ (rest : List ℕ). option_and_then (followed (drop node.fixed all)) (pieces_put form.rest (take node.fixed all) rest)) o) ended
    ∙ rest_some form fixed within (g.T.Text.bytes c.args.text) all (g.T.Text.bytes c.in_ok-node.rest) (rw (c.in_ok-node.was, c.as_str.ensures) at c.with_tail.ensures.data)
    node.fixed ((rw c.in_ok-node.was at c.with_tail.ensures.fixed) ∙ sym size)
