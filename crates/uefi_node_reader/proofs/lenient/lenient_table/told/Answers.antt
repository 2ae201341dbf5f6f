use Rattle.std.proofs.Common.{◌≡◌, true, false, cond, ◌&&◌, sym, ◌∙◌}
use Rattle.std.specs.Prelude.{None, Some}
use Rattle.uefi_device_nodes.specs.Rows.{Form, as_form}
use Rattle.uefi_device_nodes.specs.Nodes.{Node, node_with}
use Rattle.uefi_node_reader.specs.CompleteTexts.{tells}
use Rattle.uefi_node_reader.specs.ParsedNodeViews.{text_node_data, parsed_node}
use Rattle.uefi_node_reader.proofs.lenient.lenient_table.told.Goals as goal

pub returns-then-not-tells : goal.returns-then-not-tells
unfolding parsed_node
returns-then-not-tells g c =
    let form : Form = as_form c.args.row.now in
    let read = c.in_ok-node.node in
    let node : Node = node_with form.kind form.sub_kind (text_node_data read) in
    let types = (rw c.in_ok-node.was at c.requires.types) in
    let not_told : false ≡ tells form node = sym c.if-not-tells.true ∙ c.tells.ensures ∙ (λ i. tells form (node_with (types.0 i) (types.1 i) (text_node_data read))) in
    rw c.in_ok-node.was (λ i. cond ((sym c.if-not-is_empty.false ∙ c.is_empty.ensures) i && not_told i) (Some node) None)

pub returns : goal.returns
unfolding parsed_node
returns g c =
    let form : Form = as_form c.args.row.now in
    let read = c.in_ok-node.node in
    let node : Node = node_with form.kind form.sub_kind (text_node_data read) in
    let types = (rw c.in_ok-node.was at c.requires.types) in
    let is_told : true ≡ tells form node = sym c.if-not-tells.false ∙ c.tells.ensures ∙ (λ i. tells form (node_with (types.0 i) (types.1 i) (text_node_data read))) in
    rw c.in_ok-node.was ((λ i. Some (node_with (types.0 i) (types.1 i) (text_node_data read)))
    ∙ (λ i. cond ((sym c.if-not-is_empty.false ∙ c.is_empty.ensures) i && is_told i) (Some node) None))
