-- The text of a path is shorter than its room, in every style.
use Rattle.std.proofs.Common.{◌∙◌, sym, false, arith}
use Rattle.std.proofs.lemmas.Grind.{common_steps}
use Rattle.std.proofs.lemmas.List.Elements.{All-from_get_or}
use Rattle.uefi_text.specs.Packed.{IsByte}
use Rattle.uefi_device_path.proofs.TextRoom.{libefivar_texts_fit, path_texts_fit}
use Rattle.uefi_device_path.specs.PathTexts.{libefivar_text, nodes_text}
use Rattle.nardcorbel.proofs.TextCapacities.{path_has_room}
use Rattle.nardcorbel.proofs.CallOutputs.{text_shown}
use Rattle.nardcorbel.proofs.device_paths.formats.nard_device_path_format_utf16.Goals as goal

pub returns-in-Err-clause-room_is_enough : goal.returns-in-Err-clause-room_is_enough
returns-in-Err-clause-room_is_enough c = λ room same.
    path_has_room (nodes_text false false) (path_texts_fit false false)
    c.args.bytes.now c.args.buffer.now (All-from_get_or IsByte c.args.bytes.now 0 (λ k within. omega (arith, c.type_inv.bytes k))) room
    (rw c.in-Err.ensures.err (sym c.refuse.ensures.reason ∙ same))

pub returns-in-Specified-clause-room_is_enough : goal.returns-in-Specified-clause-room_is_enough
returns-in-Specified-clause-room_is_enough c = λ room same.
    let display_only = c.in-Specified.display_only in
    let shortcuts = c.in-Specified.allow_shortcuts in
    let shown = text_shown _ c.args.buffer.now _ _ c.args.len.now c.args.fault.now _ _ _ (grind (arith, common_steps)) c.write_text.ensures.len c.write_text.ensures.buffer c.report.ensures.shows in
    path_has_room (nodes_text display_only shortcuts) (path_texts_fit display_only shortcuts)
    c.args.bytes.now c.args.buffer.now (All-from_get_or IsByte c.args.bytes.now 0 (λ k within. omega (arith, c.type_inv.bytes k))) room
    (rw c.in-Ok.ensures.ok (sym shown.reason ∙ same))

pub returns-in-Libefivar-clause-room_is_enough : goal.returns-in-Libefivar-clause-room_is_enough
returns-in-Libefivar-clause-room_is_enough c = λ room same.
    let shown = text_shown _ c.args.buffer.now _ _ c.args.len.now c.args.fault.now _ _ _ (grind (arith, common_steps))
    c.write_libefivar_text.ensures.len c.write_libefivar_text.ensures.buffer c.report-in-Libefivar.ensures.shows in
    path_has_room libefivar_text libefivar_texts_fit
    c.args.bytes.now c.args.buffer.now (All-from_get_or IsByte c.args.bytes.now 0 (λ k within. omega (arith, c.type_inv.bytes k))) room
    (rw c.in-Ok.ensures.ok (sym shown.reason ∙ same))
