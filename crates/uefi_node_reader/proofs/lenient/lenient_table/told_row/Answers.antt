use Rattle.std.proofs.Common.{◌≡◌, ◌++◌, List, ℕ, ap, ◌∙◌, drop, length, take, arith}
use Rattle.std.proofs.lemmas.Grind.{common_steps}
use Rattle.std.proofs.lemmas.List.{take_at}
use Rattle.uefi_device_nodes.specs.Rows.{Form, as_form}
use Rattle.uefi_node_reader.specs.LenientCalls.{told_in}
use Rattle.uefi_node_reader.specs.Stops.{rest_end, stop_of}
use Rattle.uefi_node_reader.specs.TableReading.{rest_read}
use Rattle.uefi_node_reader.specs.ParsedNodes.{fitting}
use Rattle.uefi_node_reader.specs.ParsedNodeViews.{parsed_node}
use Rattle.uefi_node_reader.proofs.LenientLaws.{told_by, untold_by}
use Rattle.uefi_node_reader.proofs.ToldForms.{told_in-fitting}
use Rattle.uefi_node_reader.proofs.lenient.lenient_table.told_row.Goals as goal

pub returns-in-Some : goal.returns-in-Some
returns-in-Some g c =
    let form : Form = as_form c.args.row.now in
    let read : List ℕ × List ℕ = (c.read_head.new.content, g.T.Text.bytes c.in_ok-rest.rest) in
    let size : length c.read_head.new.content ≡ form.least = grind (arith, common_steps) in
    let whole : take form.least (c.read_head.new.content ++ drop form.least c.fixed_part-fixed.result) ≡ c.read_head.new.content =
    take_at c.read_head.new.content (drop form.least c.fixed_part-fixed.result) form.least size in
    told_by form (g.T.Text.bytes c.args.text) read (rw c.in_ok-rest.was at c.read_head.ensures) (parsed_node c.in-Some.node)
    (rw c.in-Some.is at c.told.ensures
    ∙ ap (told_in form) (c.finish_row.ensures.data ∙ ap (λ (l : List ℕ). fitting (rest_read form (l, read.1))) whole) ∙ told_in-fitting form (rest_read form read))

pub returns-in-None : goal.returns-in-None
returns-in-None g c =
    let form : Form = as_form c.args.row.now in
    let read : List ℕ × List ℕ = (c.read_head.new.content, g.T.Text.bytes c.in_ok-rest.rest) in
    let size : length c.read_head.new.content ≡ form.least = grind (arith, common_steps) in
    let whole : take form.least (c.read_head.new.content ++ drop form.least c.fixed_part-fixed.result) ≡ c.read_head.new.content =
    take_at c.read_head.new.content (drop form.least c.fixed_part-fixed.result) form.least size in
    untold_by form (g.T.Text.bytes c.args.text) read (rw c.in_ok-rest.was at c.read_head.ensures) c.stop_of.result
    (rw c.in-None.is at c.told.ensures
    ∙ ap (told_in form) (c.finish_row.ensures.data ∙ ap (λ (l : List ℕ). fitting (rest_read form (l, read.1))) whole) ∙ told_in-fitting form (rest_read form read))
    (c.stop_of.ensures ∙ ap stop_of (c.rest_end.ensures ∙ ap (λ (s : List ℕ). rest_end form.tail s read.1) c.as_bytes.ensures.value))
