use Rattle.std.proofs.Common.{true, false, List, ℕ, length, take, refl, sym, ap, ◌∙◌, arith}
use Rattle.std.specs.Prelude.{Some, None}
use Rattle.std.proofs.lemmas.List.{length-take-le}
use Rattle.uefi_device_nodes.specs.Rows.{Form, as_form}
use Rattle.uefi_device_nodes.specs.Nodes.{Node}
use Rattle.uefi_node_reader.specs.CompleteTexts.{tells_fixed, tells_tail}
use Rattle.uefi_node_reader.specs.ParsedNodeViews.{parsed_node}
use Rattle.uefi_node_reader.proofs.ToldNodes.{ShownIn, by_parts, shown_in, shown_not, tells_is, tells_none, tells_other}
use Rattle.uefi_node_reader.proofs.lenient.complete_texts.tells.Goals as goal

pub returns-in_default : goal.returns-in_default
returns-in_default g c =
    let node : Node = parsed_node c.args.node.now in
    tells_none (as_form c.args.read.now) node (shown_not node (by_parts node c.types-kind.result.0 c.types-kind.result.1
    c.head-head.result.now None c.types-kind.ensures.device_type c.types-kind.ensures.sub_type c.head-head.ensures
    (rw c.in_default.is at c.form_of.ensures)))

pub returns-then-not-is_exact : goal.returns-then-not-is_exact
returns-then-not-is_exact g c =
    let node : Node = parsed_node c.args.node.now in
    let form : Form = as_form c.in-Some.row.now in
    let shown : ShownIn node form = shown_in node form (by_parts node c.types-kind.result.0 c.types-kind.result.1
    c.head-head.result.now (Some form) c.types-kind.ensures.device_type c.types-kind.ensures.sub_type c.head-head.ensures
    (rw c.in-Some.is at c.form_of.ensures)) in
    tells_other (as_form c.args.read.now) node form shown.chosen (sym c.is_exact.ensures ∙ c.if-not-is_exact.true)

pub slice_bounds-tells_fixed-end : goal.slice_bounds-tells_fixed-end
slice_bounds-tells_fixed-end g c =
    let node : Node = parsed_node c.args.node.now in
    let form : Form = as_form c.in-Some.row.now in
    let shown : ShownIn node form = shown_in node form (by_parts node c.types-kind.result.0 c.types-kind.result.1
    c.head-head.result.now (Some form) c.types-kind.ensures.device_type c.types-kind.ensures.sub_type c.head-head.ensures
    (rw c.in-Some.is at c.form_of.ensures)) in
    sym (length-take-le form.least c.head-head.result.now (omega (arith, shown.within, ap length c.head-head.ensures)))

pub tells_fixed-requires-clause-sound : goal.tells_fixed-requires-clause-sound
tells_fixed-requires-clause-sound g c =
    let node : Node = parsed_node c.args.node.now in
    let form : Form = as_form c.in-Some.row.now in
    (shown_in node form (by_parts node c.types-kind.result.0 c.types-kind.result.1
    c.head-head.result.now (Some form) c.types-kind.ensures.device_type c.types-kind.ensures.sub_type c.head-head.ensures
    (rw c.in-Some.is at c.form_of.ensures))).sounds

pub tells_fixed-requires-clause-filled : goal.tells_fixed-requires-clause-filled
tells_fixed-requires-clause-filled g c =
    let node : Node = parsed_node c.args.node.now in
    let form : Form = as_form c.in-Some.row.now in
    (shown_in node form (by_parts node c.types-kind.result.0 c.types-kind.result.1
    c.head-head.result.now (Some form) c.types-kind.ensures.device_type c.types-kind.ensures.sub_type c.head-head.ensures
    (rw c.in-Some.is at c.form_of.ensures))).fills

pub tells_fixed-requires-clause-size : goal.tells_fixed-requires-clause-size
tells_fixed-requires-clause-size g c =
    let node : Node = parsed_node c.args.node.now in
    let form : Form = as_form c.in-Some.row.now in
    let shown : ShownIn node form = shown_in node form (by_parts node c.types-kind.result.0 c.types-kind.result.1
    c.head-head.result.now (Some form) c.types-kind.ensures.device_type c.types-kind.ensures.sub_type c.head-head.ensures
    (rw c.in-Some.is at c.form_of.ensures)) in
    length-take-le form.least c.head-head.result.now (omega (arith, shown.within, ap length c.head-head.ensures))

pub returns-then-tells_fixed : goal.returns-then-tells_fixed
returns-then-tells_fixed g c =
    let node : Node = parsed_node c.args.node.now in
    let read : Form = as_form c.args.read.now in
    let form : Form = as_form c.in-Some.row.now in
    let shown : ShownIn node form = shown_in node form (by_parts node c.types-kind.result.0 c.types-kind.result.1
    c.head-head.result.now (Some form) c.types-kind.ensures.device_type c.types-kind.ensures.sub_type c.head-head.ensures
    (rw c.in-Some.is at c.form_of.ensures)) in
    tells_is read node form shown (sym c.is_exact.ensures ∙ c.if-not-is_exact.false) (omega (arith, c.data_len-len.ensures.count, c.data_len-len.ensures.fits)) true c.tells_tail.result
    (sym c.if-tells_fixed.true ∙ c.tells_fixed.ensures
    ∙ ap (λ (l : List ℕ). tells_fixed form (take form.least l)) c.head-head.ensures)
    (c.tells_tail.ensures ∙ ap (tells_tail read form.least form.tail form.close) c.data_len-len.ensures.count)

pub returns-else-tells_fixed : goal.returns-else-tells_fixed
returns-else-tells_fixed g c =
    let node : Node = parsed_node c.args.node.now in
    let read : Form = as_form c.args.read.now in
    let form : Form = as_form c.in-Some.row.now in
    let shown : ShownIn node form = shown_in node form (by_parts node c.types-kind.result.0 c.types-kind.result.1
    c.head-head.result.now (Some form) c.types-kind.ensures.device_type c.types-kind.ensures.sub_type c.head-head.ensures
    (rw c.in-Some.is at c.form_of.ensures)) in
    c.if-tells_fixed.false ∙ tells_is read node form shown (sym c.is_exact.ensures ∙ c.if-not-is_exact.false)
    (omega (arith, c.data_len-len.ensures.count, c.data_len-len.ensures.fits)) false
    (tells_tail read form.least form.tail form.close (length node.content))
    (sym c.if-tells_fixed.false ∙ c.tells_fixed.ensures
    ∙ ap (λ (l : List ℕ). tells_fixed form (take form.least l)) c.head-head.ensures) refl
