use Rattle.std.proofs.Common.{◌≡◌, ◌++◌, ℕ, List, drop, length, take, ap, sym, ◌∙◌, arith}
use Rattle.std.specs.Prelude.{Option, option_and_then}
use Rattle.std.specs.Option.{option_map}
use Rattle.std.specs.Result.{result_ok}
use Rattle.std.proofs.lemmas.Grind.{common_steps}
use Rattle.std.proofs.lemmas.List.{take_at}
use Rattle.uefi_device_nodes.specs.Rows.{Form, as_form}
use Rattle.uefi_node_reader.specs.ParsedNodes.{fitting}
use Rattle.uefi_node_reader.specs.Notations.{exact, head_in}
use Rattle.uefi_node_reader.specs.TableReading.{rest_read}
use Rattle.uefi_node_reader.proofs.Literals.{read_ok}
use Rattle.uefi_node_reader.proofs.PieceReads.{form_exact}
use Rattle.uefi_node_reader.proofs.exact.table_reader.read_row.Goals as goal

pub returns-in_err-rest-clause-data : goal.returns-in_err-rest-clause-data
returns-in_err-rest-clause-data g c =
    let form : Form = as_form c.args.row.now in
    let head : option_map (λ x. (c.read_head.new.content, g.T.Text.bytes x)) c.ok.result ≡ result_ok (head_in exact form (g.T.Text.bytes c.args.text)) =
    rw c.ok.ensures.value (read_ok (λ x. (c.read_head.new.content, g.T.Text.bytes x)) c.read_head.result _ c.read_head.ensures) in
    rw c.from_residual.ensures (ap (λ (o : Option (List ℕ × List ℕ)). fitting (option_and_then (rest_read form) o)) (rw c.in_err-rest.was at head)
    ∙ ap fitting (form_exact form (g.T.Text.bytes c.args.text) (sym c.is_exact.ensures ∙ c.if-not-is_exact.false)))

pub returns-clause-data : goal.returns-clause-data
returns-clause-data g c =
    let form : Form = as_form c.args.row.now in
    let content : List ℕ = c.read_head.new.content in
    let size : length content ≡ form.least = grind (arith, common_steps) in
    let whole : take form.least (content ++ drop form.least c.fixed_part-fixed.result) ≡ content =
    take_at content (drop form.least c.fixed_part-fixed.result) form.least size in
    let head : option_map (λ x. (content, g.T.Text.bytes x)) c.ok.result ≡ result_ok (head_in exact form (g.T.Text.bytes c.args.text)) =
    rw c.ok.ensures.value (read_ok (λ x. (content, g.T.Text.bytes x)) c.read_head.result _ c.read_head.ensures) in
    c.finish_row.ensures.data ∙ ap (λ (l : List ℕ). fitting (rest_read form (l, g.T.Text.bytes c.in_ok-rest.rest))) whole
    ∙ ap (λ (o : Option (List ℕ × List ℕ)). fitting (option_and_then (rest_read form) o)) (rw c.in_ok-rest.was at head)
    ∙ ap fitting (form_exact form (g.T.Text.bytes c.args.text) (sym c.is_exact.ensures ∙ c.if-not-is_exact.false))
