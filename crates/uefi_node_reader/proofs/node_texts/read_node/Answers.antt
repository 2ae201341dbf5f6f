use Rattle.std.proofs.Common.{◌≡◌, List, ℕ, sym, ◌∙◌}
use Rattle.std.specs.Prelude.{Option, Some, None}
use Rattle.uefi_device_nodes.specs.Nodes.{Node}
use Rattle.uefi_device_nodes.specs.Table.{forms}
use Rattle.uefi_node_reader.specs.FieldReading.{either_read}
use Rattle.uefi_node_reader.specs.NamedFiles.{name_read, node_read}
use Rattle.uefi_node_reader.specs.PlainNodes.{plain_read}
use Rattle.uefi_node_reader.specs.TableReading.{table_read}
use Rattle.uefi_node_reader.proofs.FileNodes.{other_none}
use Rattle.uefi_node_reader.proofs.NodeLaws.{name_first}
use Rattle.uefi_node_reader.proofs.node_texts.read_node.Goals as goal

-- what is read of a call, if the text is no name
of_call : (table plain name : Option (Node × List ℕ)) → None ≡ name → either_read table plain ≡ either_read table (either_read plain name)
of_call None None name e = e
of_call None (Some x) name e = λ i. Some x
of_call (Some x) plain name e = λ i. Some x

pub returns-in_err-node : goal.returns-in_err-node
unfolding node_read
returns-in_err-node g c =
    let text : List ℕ = g.T.Text.bytes c.args.text in
    rw c.from_residual.ensures (rw c.in_err-node.was at c.call.ensures
    ∙ of_call (table_read forms text) (plain_read text) (name_read text) (other_none text (λ h. c.if-first_of-ne92.true (c.first_of.ensures ∙ h))))

pub returns-then-first_of-ne92 : goal.returns-then-first_of-ne92
unfolding node_read
returns-then-first_of-ne92 g c =
    let text : List ℕ = g.T.Text.bytes c.args.text in
    rw c.in_ok-node.was at c.call.ensures
    ∙ of_call (table_read forms text) (plain_read text) (name_read text) (other_none text (λ h. c.if-first_of-ne92.true (c.first_of.ensures ∙ h)))

pub returns-in_err-node-2 : goal.returns-in_err-node-2
returns-in_err-node-2 g c =
    rw c.from_residual-in_err-node-2.ensures (rw c.in_err-node-2.was at c.name.ensures
    ∙ name_first (g.T.Text.bytes c.args.text) (sym c.first_of.ensures ∙ c.if-first_of-ne92.false))

pub returns : goal.returns
returns g c =
    rw c.in_ok-node-2.was at c.name.ensures
    ∙ name_first (g.T.Text.bytes c.args.text) (sym c.first_of.ensures ∙ c.if-first_of-ne92.false)
