-- The node stands at the place, and what follows it at the next one. A path that begins there begins with it.
use Rattle.std.proofs.Common.{◌≡◌, ◌+◌, ◌<◌, ◌*◌, ◌/◌, ◌%◌, ◌++◌, ◌∙◌, Some, ap, arith, drop, length, length-drop, rules, sym}
use Rattle.std.proofs.lemmas.Grind.{common_steps}
use Rattle.std.proofs.lemmas.List.{nil_from_length}
use Rattle.uefi_device_path.specs.NodeFaults.{node_fault}
use Rattle.uefi_device_path.specs.NodeViews.{node_of}
use Rattle.uefi_device_path.specs.Nodes.{IsInner, end_entire, node_bytes}
use Rattle.uefi_device_path.specs.NodeError.TheVariants.{Missing}
use Rattle.nardcorbel.specs.DevicePaths.{node_in}
use Rattle.uefi_device_path.proofs.Splits.{path_step}
use Rattle.nardcorbel.proofs.NodeOffsets.{left_from, never_faulty, node_stands, none_before_end}
use Rattle.nardcorbel.proofs.device_paths.reading.nard_device_path_next_node.Goals as goal

pub returns-in_default-clause-path : goal.returns-in_default-clause-path
returns-in_default-clause-path c = λ nodes begins _.
    let bytes = c.args.bytes.now in
    let place = c.args.place.now in
    let beyond : length bytes < place = grind (arith, common_steps) in
    let none = nil_from_length (drop place bytes) (omega (arith, length-drop place bytes)) in
    absurd (never_faulty (drop place bytes) nodes Missing begins (ap node_fault none))

pub returns-in-Err-clause-path : goal.returns-in-Err-clause-path
returns-in-Err-clause-path c = λ nodes begins _.
    let bytes = c.args.bytes.now in
    let place = c.args.place.now in
    let is = left_from bytes c.in-Some.rest.now place c.in-Some.ensures.lookup.0.2 in
    let fault : node_fault (drop place bytes) ≡ Some c.in-Err.cause = ap node_fault (sym is) ∙ sym c.in-Err.ensures.refusal in
    absurd (never_faulty (drop place bytes) nodes c.in-Err.cause begins fault)

pub returns-then-is_end_entire-clause-last : goal.returns-then-is_end_entire-clause-last
returns-then-is_end_entire-clause-last c = λ _ nodes begins.
    let bytes = c.args.bytes.now in
    let place = c.args.place.now in
    let is = left_from bytes c.in-Some.rest.now place c.in-Some.ensures.lookup.0.2 in
    let ends : node_of c.in-Ok.found ≡ end_entire = c.is_end_entire.ensures.0 c.if-is_end_entire.true in
    none_before_end (drop place bytes) c.in-Ok.field-0-1.now nodes
    (sym is ∙ c.in-Ok.ensures.ok ∙ ap (λ n. node_bytes n ++ c.in-Ok.field-0-1.now) ends) begins

pub returns-else-is_end_entire-clause-node : goal.returns-else-is_end_entire-clause-node
returns-else-is_end_entire-clause-node c = λ _.
    let bytes = c.args.bytes.now in
    let place = c.args.place.now in
    let is = left_from bytes c.in-Some.rest.now place c.in-Some.ensures.lookup.0.2 in
    let low : c.sub_type.result.0 < 256 = grind (arith, common_steps, c.sub_type.type_inv) in
    let kind : (c.from.result * 256 + c.from-in-Ok.result) / 256 ≡ c.device_type.result.0 = omega (arith, low, c.from.ensures, c.from-in-Ok.ensures) in
    let sub_kind : (c.from.result * 256 + c.from-in-Ok.result) % 256 ≡ c.sub_type.result.0 = omega (arith, low, c.from.ensures, c.from-in-Ok.ensures) in
    node_stands bytes c.in-Some.rest.now c.in-Ok.field-0-1.now place (node_of c.in-Ok.found) _ _ (length c.data-size.result.now)
    is c.in-Ok.ensures.ok (kind ∙ c.device_type.ensures) (sub_kind ∙ c.sub_type.ensures) (ap length c.data-size.ensures)

pub returns-else-is_end_entire-clause-next : goal.returns-else-is_end_entire-clause-next
returns-else-is_end_entire-clause-next c = λ _ nodes begins.
    let bytes = c.args.bytes.now in
    let place = c.args.place.now in
    let shown = node_in bytes (record {
      node_type = c.from.result * 256 + c.from-in-Ok.result;
      data_offset = place + 4;
      data_size = length c.data-size.result.now;
    }) in
    let left = drop (place + 4 + length c.data-size.result.now) bytes in
    let is = left_from bytes c.in-Some.rest.now place c.in-Some.ensures.lookup.0.2 in
    let low : c.sub_type.result.0 < 256 = grind (arith, common_steps, c.sub_type.type_inv) in
    let kind : (c.from.result * 256 + c.from-in-Ok.result) / 256 ≡ c.device_type.result.0 = omega (arith, low, c.from.ensures, c.from-in-Ok.ensures) in
    let sub_kind : (c.from.result * 256 + c.from-in-Ok.result) % 256 ≡ c.sub_type.result.0 = omega (arith, low, c.from.ensures, c.from-in-Ok.ensures) in
    let stands : drop place bytes ≡ node_bytes shown ++ left =
    node_stands bytes c.in-Some.rest.now c.in-Ok.field-0-1.now place (node_of c.in-Ok.found) _ _ (length c.data-size.result.now)
    is c.in-Ok.ensures.ok (kind ∙ c.device_type.ensures) (sub_kind ∙ c.sub_type.ensures) (ap length c.data-size.ensures) in
    let inner : IsInner shown = search rules in
    (path_step (drop place bytes) left shown nodes begins stands inner.not_end).1
