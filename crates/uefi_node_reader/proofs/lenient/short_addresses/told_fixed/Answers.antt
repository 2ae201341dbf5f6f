use Rattle.std.proofs.Common.{◌≡◌, ℕ, Bool, true, false, cond, ◌&&◌, List, take, sym, ap, ◌∙◌}
use Rattle.std.specs.Prelude.{Option, Some, None, option_and_then}
use Rattle.uefi_device_nodes.specs.Rows.{Form, as_form, find_form}
use Rattle.uefi_device_nodes.specs.Table.{forms}
use Rattle.uefi_device_nodes.specs.Nodes.{Node, node_with}
use Rattle.uefi_node_reader.specs.CompleteTexts.{tells}
use Rattle.uefi_node_reader.specs.ParsedNodeViews.{parsed_node}
use Rattle.uefi_node_reader.specs.ShortAddresses.{is_fixed}
use Rattle.uefi_node_reader.specs.TableReading.{prints}
use Rattle.uefi_node_reader.proofs.FormsByFirstBytes.{form_same}
use Rattle.uefi_node_reader.proofs.ToldNodes.{by_parts}
use Rattle.uefi_node_reader.proofs.lenient.short_addresses.told_fixed.Goals.{then-not-is_fixed-via-then-not-is_fixed, then-not-is_fixed-via-else-not-is_fixed+then-not-tells}
use Rattle.uefi_node_reader.proofs.lenient.short_addresses.told_fixed.Goals as goal

-- the form of a node is found by its first bytes
form_by : (node : Node) (kind sub_kind : ℕ) (head : List ℕ) (o : Option Form) → kind ≡ node.device_type → sub_kind ≡ node.sub_type
    → head ≡ take 56 node.content → o ≡ find_form (prints (node_with kind sub_kind head)) forms → o ≡ find_form (prints node) forms
form_by node kind sub_kind head o k s h e =
    by_parts node kind sub_kind head o k s h e ∙ form_same node.device_type node.sub_type node.content

-- a node, if it is told in a form that was found
abbrev in_form : Node → Option Form → Option Node
in_form node o = option_and_then (λ (form : Form). cond (is_fixed form.tail && tells form node) (Some node) None) o

pub returns-in_err-row : goal.returns-in_err-row
returns-in_err-row g c =
    let node : Node = parsed_node c.args.node in
    rw c.from_residual.ensures (ap (in_form node) (form_by node c.types-kind.result.0 c.types-kind.result.1 c.head.result.now None
    c.types-kind.ensures.device_type c.types-kind.ensures.sub_type c.head.ensures (rw c.in_err-row.was at c.form_of.ensures)))

pub returns-then-not-is_fixed : goal.returns-then-not-is_fixed
returns-then-not-is_fixed g c =
    let node : Node = parsed_node c.args.node in
    let form : Form = as_form c.in_ok-row.row.now in
    let found : Some form ≡ find_form (prints node) forms =
    form_by node c.types-kind.result.0 c.types-kind.result.1 c.head.result.now (Some form)
    c.types-kind.ensures.device_type c.types-kind.ensures.sub_type c.head.ensures (rw c.in_ok-row.was at c.form_of.ensures) in
    let no : false ≡ is_fixed form.tail && tells form node = elim c.then-not-is_fixed.branch [
      | then-not-is_fixed-via-then-not-is_fixed w ↦
          ap (λ (t : Bool). t && tells form node) (sym w.if-not-is_fixed.true ∙ c.is_fixed.ensures)
      | then-not-is_fixed-via-else-not-is_fixed+then-not-tells w ↦
          (λ i. (sym w.if-not-is_fixed.false ∙ c.is_fixed.ensures) i && (sym w.if-not-tells.true ∙ w.tells.ensures) i)
    ] in
    ap (λ (t : Bool). cond t (Some node) None) no ∙ ap (in_form node) found

pub returns : goal.returns
returns g c =
    let node : Node = parsed_node c.args.node in
    let form : Form = as_form c.in_ok-row.row.now in
    let found : Some form ≡ find_form (prints node) forms =
    form_by node c.types-kind.result.0 c.types-kind.result.1 c.head.result.now (Some form)
    c.types-kind.ensures.device_type c.types-kind.ensures.sub_type c.head.ensures (rw c.in_ok-row.was at c.form_of.ensures) in
    let yes : true ≡ is_fixed form.tail && tells form node =
    (λ i. (sym c.if-not-is_fixed.false ∙ c.is_fixed.ensures) i && (sym c.if-not-tells.false ∙ c.tells.ensures) i) in
    ap (λ (t : Bool). cond t (Some node) None) yes ∙ ap (in_form node) found
