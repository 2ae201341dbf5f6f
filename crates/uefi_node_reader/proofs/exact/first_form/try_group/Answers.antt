use Rattle.uefi_device_nodes.specs.Rows.{as_form}
use Rattle.uefi_device_nodes.proofs.Lists.{all_at}
use Rattle.uefi_node_reader.specs.TableReading.{is_filled, is_sound}
use Rattle.uefi_node_reader.proofs.exact.first_form.try_group.Goals as goal

pub attempt-requires-clause-sound : goal.attempt-requires-clause-sound
attempt-requires-clause-sound g c =
    all_at as_form is_sound c.args.rows.now c.loop-place.place _ c.loop-place-test.true c.requires.sound

pub attempt-requires-clause-filled : goal.attempt-requires-clause-filled
attempt-requires-clause-filled g c =
    all_at as_form is_filled c.args.rows.now c.loop-place.place _ c.loop-place-test.true c.requires.filled
