use Rattle.uefi_device_nodes.specs.Rows.{as_form}
use Rattle.uefi_device_nodes.proofs.Lists.{all_at}
use Rattle.uefi_node_reader.specs.TableReading.{is_filled, is_sound}
use Rattle.uefi_node_reader.proofs.libefivar.exact_group.Goals as goal

pub exact_told-requires-clause-sound : goal.exact_told-requires-clause-sound
exact_told-requires-clause-sound g c =
    all_at as_form is_sound c.args.rows.now c.loop-row.row-index _ c.loop-row-test.true c.requires.sound

pub exact_told-requires-clause-filled : goal.exact_told-requires-clause-filled
exact_told-requires-clause-filled g c =
    all_at as_form is_filled c.args.rows.now c.loop-row.row-index _ c.loop-row-test.true c.requires.filled
