-- No form of another type prints a node.
use Rattle.std.proofs.Common.{map, false, ◌∙◌, sym}
use Rattle.std.proofs.lemmas.Bool.{not-true}
use Rattle.std.proofs.lemmas.List.{length-map}
use Rattle.uefi_device_nodes.specs.Rows.{as_form, matches}
use Rattle.uefi_device_nodes.proofs.Groups.{other_kind}
use Rattle.uefi_node_reader.proofs.Groups.{no_place}
use Rattle.uefi_node_reader.proofs.exact.table_reader.PrintedNodeFormTest.passes_over.Goals as goal

pub returns : goal.returns
returns c = λ other.
    let node = c.args.self.now in
    let forms = map as_form c.args.rows.now in
    no_place (matches false node.kind node.sub_kind node.content.now) forms
    (other_kind false node.kind node.sub_kind node.content.now forms c.requires (sym c.begin_with_kind.ensures ∙ not-true c.begin_with_kind.result other))
    ∙ length-map c.args.rows.now as_form
