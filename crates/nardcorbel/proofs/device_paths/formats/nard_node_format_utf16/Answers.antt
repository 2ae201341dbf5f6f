-- The node that was read is the one that the bytes begin with, and its text is shorter than its room.
use Rattle.std.proofs.Common.{◌≡◌, ◌∙◌, ap, sym, false, None, arith}
use Rattle.std.proofs.lemmas.Grind.{common_steps}
use Rattle.std.proofs.lemmas.List.Elements.{All-from_get_or}
use Rattle.uefi_text.specs.Packed.{IsByte}
use Rattle.uefi_device_path.proofs.Splits.{first-node_bytes}
use Rattle.uefi_device_path.proofs.TextRoom.{node_texts_fit}
use Rattle.uefi_device_path.specs.NodeFaults.{node_fault}
use Rattle.uefi_device_path.specs.NodeTexts.{node_text}
use Rattle.uefi_device_path.specs.Nodes.{first_node}
use Rattle.uefi_device_path.specs.NodeViews.{node_of}
use Rattle.nardcorbel.specs.Reading.{read_node}
use Rattle.nardcorbel.proofs.TextCapacities.{node_has_room}
use Rattle.nardcorbel.proofs.CallOutputs.{text_shown}
use Rattle.nardcorbel.proofs.device_paths.formats.nard_node_format_utf16.Goals as goal

pub returns-in-Specified-clause-shows : goal.returns-in-Specified-clause-shows
unfolding read_node
returns-in-Specified-clause-shows c =
    let first : first_node c.args.bytes.now ≡ node_of c.in-Ok.found =
    ap first_node c.in-Ok.ensures.ok ∙ first-node_bytes (node_of c.in-Ok.found) c.in-Ok.field-0-1.now in
    let none : node_fault c.args.bytes.now ≡ None = sym c.in-Ok.ensures.refusal in
    rw (sym c.printed_form.ensures ∙ c.in-Some.is, c.in-Specified.is, none, first, ← c.display-text.ensures)
    (text_shown _ c.args.buffer.now _ _ c.args.len.now c.args.fault.now _ _ _ (grind (arith, common_steps)) c.write_units.ensures.len c.write_units.ensures.buffer c.report.ensures.shows)

pub returns-in-Err-clause-room_is_enough : goal.returns-in-Err-clause-room_is_enough
unfolding read_node
returns-in-Err-clause-room_is_enough c = λ room same.
    let fault = sym c.in-Err.ensures.refusal in
    node_has_room (node_text false false) (node_texts_fit false false)
    c.args.bytes.now c.args.buffer.now (All-from_get_or IsByte c.args.bytes.now 0 (λ k within. omega (arith, c.type_inv.bytes k))) room
    (rw fault (sym c.refuse.ensures.reason ∙ same))

pub returns-in-Specified-clause-room_is_enough : goal.returns-in-Specified-clause-room_is_enough
unfolding read_node
returns-in-Specified-clause-room_is_enough c = λ room same.
    let display_only = c.in-Specified.display_only in
    let shortcuts = c.in-Specified.allow_shortcuts in
    let first : first_node c.args.bytes.now ≡ node_of c.in-Ok.found =
    ap first_node c.in-Ok.ensures.ok ∙ first-node_bytes (node_of c.in-Ok.found) c.in-Ok.field-0-1.now in
    let none : node_fault c.args.bytes.now ≡ None = sym c.in-Ok.ensures.refusal in
    let shown = text_shown _ c.args.buffer.now _ _ c.args.len.now c.args.fault.now _ _ _ (grind (arith, common_steps)) c.write_units.ensures.len c.write_units.ensures.buffer c.report.ensures.shows in
    node_has_room (node_text display_only shortcuts) (node_texts_fit display_only shortcuts)
    c.args.bytes.now c.args.buffer.now (All-from_get_or IsByte c.args.bytes.now 0 (λ k within. omega (arith, c.type_inv.bytes k))) room
    (rw (none, first, ← c.display-text.ensures) (sym shown.reason ∙ same))
