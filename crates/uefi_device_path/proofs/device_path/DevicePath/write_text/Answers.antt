use Rattle.std.proofs.Common.{arith}
use Rattle.std.proofs.lemmas.Grind.{common_steps}
use Rattle.std.specs.Prelude.{List, ℕ}
use Rattle.uefi_text.specs.UnitTexts.{utf16_units}
use Rattle.uefi_device_path.specs.PathTexts.{nodes_text}
use Rattle.uefi_device_path.specs.Views.{nodes_of}
use Rattle.uefi_device_path.proofs.TextRoom.{most_is_enough}
use Rattle.uefi_device_path.proofs.device_path.DevicePath.write_text.Goals as goal

pub write_bounded_units-requires : goal.write_bounded_units-requires
unfolding nodes_of
write_bounded_units-requires c = λ room.
    let path = c.args.self.now in
    let text : List ℕ = utf16_units (nodes_text c.args.display_only.0 c.args.allow_shortcuts.0 (nodes_of path)) in
    let fits = most_is_enough path.bytes.now text c.args.buffer.now c.most_units-most.result path.is_path c.most_units-most.ensures.bytes
    (c.text_lengths.ensures.paths c.args.display_only.0 c.args.allow_shortcuts.0 (nodes_of path)) c.most_units-most.ensures.most (grind (arith, common_steps)) room in
    rw c.display.ensures fits
