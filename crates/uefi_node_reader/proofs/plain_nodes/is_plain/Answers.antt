use Rattle.std.proofs.Common.{◌≡◌, Bool, true, false, eqb, not, ◌&&◌, ◌||◌, List, ℕ, refl, sym, ap, ◌∙◌, arith}
use Rattle.uefi_device_nodes.specs.Nodes.{Node}
use Rattle.uefi_device_nodes.specs.Table.{has_form}
use Rattle.uefi_node_reader.specs.ParsedNodeViews.{parsed_node}
use Rattle.uefi_node_reader.proofs.PlainNodes.{plain_shown}
use Rattle.uefi_node_reader.proofs.plain_nodes.is_plain.Goals as goal

no : (x : Bool) → false ≡ x && false
no true = refl
no false = refl

yes : (x : Bool) → x ≡ x && true
yes true = refl
yes false = refl

pub returns-then-has_form : goal.returns-then-has_form
returns-then-has_form g c =
    let node : Node = parsed_node c.args.node.now in
    let kind : ℕ = c.types-device_type.result.0 in
    let sub_kind : ℕ = c.types-device_type.result.1 in
    no (not (eqb kind 0x7f)) ∙ (λ i. not (eqb kind 0x7f) && (not (sym c.if-is_file.false i || sym c.if-has_form.true i) && true))
    ∙ plain_shown node kind sub_kind c.types-device_type.ensures.device_type c.types-device_type.ensures.sub_type
    c.is_file.result c.has_form.result (c.is_file.ensures node.content c.data_len.ensures.count)
    (c.has_form.ensures ∙ ap (λ (l : List ℕ). has_form false kind sub_kind l) c.head.ensures)
    (omega (arith, c.data_len.ensures.fits, c.data_len.ensures.count))

pub returns : goal.returns
returns g c =
    let node : Node = parsed_node c.args.node.now in
    let kind : ℕ = c.types-device_type.result.0 in
    let sub_kind : ℕ = c.types-device_type.result.1 in
    yes (not (eqb kind 0x7f)) ∙ (λ i. not (eqb kind 0x7f) && (not (sym c.if-is_file.false i || sym c.if-has_form.false i) && true))
    ∙ plain_shown node kind sub_kind c.types-device_type.ensures.device_type c.types-device_type.ensures.sub_type
    c.is_file.result c.has_form.result (c.is_file.ensures node.content c.data_len.ensures.count)
    (c.has_form.ensures ∙ ap (λ (l : List ℕ). has_form false kind sub_kind l) c.head.ensures)
    (omega (arith, c.data_len.ensures.fits, c.data_len.ensures.count))
