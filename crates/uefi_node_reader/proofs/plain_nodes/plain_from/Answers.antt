use Rattle.std.proofs.Common.{◌≡◌, Bool, List, ℕ, sym, ap, ◌∙◌}
use Rattle.std.specs.Prelude.{Option, Some, option_and_then}
use Rattle.uefi_device_nodes.specs.Nodes.{Node, node_with}
use Rattle.uefi_node_reader.specs.FieldReading.{comma_read, read_if}
use Rattle.uefi_node_reader.specs.PlainNodes.{is_plain}
use Rattle.uefi_node_reader.specs.ParsedNodeViews.{text_node_data, parsed_node}
use Rattle.uefi_node_reader.proofs.PlainNodes.{none_fits, some_fits}
use Rattle.uefi_node_reader.proofs.plain_nodes.plain_from.Goals as goal

pub returns-in_err-node : goal.returns-in_err-node
returns-in_err-node g c =
    rw c.from_residual.ensures (none_fits c.args.device_type c.args.sub_type (comma_read (g.T.Text.bytes c.args.text)) (rw c.in_err-node.was at c.with_tail.ensures.data))

pub returns-in_err-rest : goal.returns-in_err-rest
returns-in_err-rest g c =
    let read = some_fits c.args.device_type c.args.sub_type (comma_read (g.T.Text.bytes c.args.text)) (text_node_data c.in_ok-node.node) (g.T.Text.bytes c.in_ok-node.rest)
    (rw c.in_ok-node.was at c.with_tail.ensures.data) in
    rw c.from_residual-in_err-rest.ensures (ap (λ (o : Option (List ℕ)). option_and_then (λ (left : List ℕ).
    read_if (is_plain (node_with c.args.device_type c.args.sub_type (text_node_data c.in_ok-node.node)))
    (node_with c.args.device_type c.args.sub_type (text_node_data c.in_ok-node.node)) left) o) (rw c.in_err-rest.was at c.after.ensures) ∙ read)

pub returns-then-not-is_plain : goal.returns-then-not-is_plain
unfolding parsed_node
returns-then-not-is_plain g c =
    let types = (rw c.in_ok-node.was at c.with_tail.ensures.types) in
    let bytes : List ℕ = text_node_data c.in_ok-node.node in
    let node : Node = node_with c.args.device_type c.args.sub_type bytes in
    let same : parsed_node c.in_ok-node.node ≡ node = (λ i. node_with (types.0 i) (types.1 i) bytes) in
    let read = some_fits c.args.device_type c.args.sub_type (comma_read (g.T.Text.bytes c.args.text)) bytes (g.T.Text.bytes c.in_ok-node.rest)
    (rw c.in_ok-node.was at c.with_tail.ensures.data) in
    ap (λ (t : Bool). read_if t node (g.T.Text.bytes c.in_ok-rest.rest)) (sym c.if-not-is_plain.true ∙ c.is_plain.ensures ∙ ap is_plain same)
    ∙ ap (λ (o : Option (List ℕ)). option_and_then (λ (left : List ℕ). read_if (is_plain node) node left) o) (rw c.in_ok-rest.was at c.after.ensures)
    ∙ read

pub returns : goal.returns
unfolding parsed_node
returns g c =
    let types = (rw c.in_ok-node.was at c.with_tail.ensures.types) in
    let bytes : List ℕ = text_node_data c.in_ok-node.node in
    let node : Node = node_with c.args.device_type c.args.sub_type bytes in
    let same : parsed_node c.in_ok-node.node ≡ node = (λ i. node_with (types.0 i) (types.1 i) bytes) in
    let read = some_fits c.args.device_type c.args.sub_type (comma_read (g.T.Text.bytes c.args.text)) bytes (g.T.Text.bytes c.in_ok-node.rest)
    (rw c.in_ok-node.was at c.with_tail.ensures.data) in
    ap (λ (n : Node). Some (n, (g.T.Text.bytes c.in_ok-rest.rest))) same
    ∙ ap (λ (t : Bool). read_if t node (g.T.Text.bytes c.in_ok-rest.rest)) (sym c.if-not-is_plain.false ∙ c.is_plain.ensures ∙ ap is_plain same)
    ∙ ap (λ (o : Option (List ℕ)). option_and_then (λ (left : List ℕ). read_if (is_plain node) node left) o) (rw c.in_ok-rest.was at c.after.ensures)
    ∙ read
