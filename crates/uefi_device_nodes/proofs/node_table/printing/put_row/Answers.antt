use Rattle.std.proofs.Common.{length}
use Rattle.uefi_device_nodes.specs.Rows.{as_form}
use Rattle.uefi_device_nodes.proofs.Forms.{parts_text, wider_pieces, wider_rest}
use Rattle.uefi_text.proofs.Puts.{puts_five}
use Rattle.uefi_device_nodes.proofs.node_table.printing.put_row.Goals as goal

pub put_pieces-requires : goal.put_pieces-requires
put_pieces-requires g c = rw c.as_slice.ensures (wider_pieces (as_form c.args.row.now) (length c.args.content.now) c.requires.long c.requires.laid_out)

pub put_pieces-requires-2 : goal.put_pieces-requires-2
put_pieces-requires-2 g c = rw c.as_slice-2.ensures (wider_rest (as_form c.args.row.now) (length c.args.content.now) c.requires.long c.requires.laid_out)

pub returns : goal.returns
returns g c = puts_five _ _ _ _ _ _ _ _ _ _ _ _ _
    (rw c.as_str.ensures at c.put_str.ensures) (rw c.as_slice.ensures at c.put_pieces.ensures) (rw c.from.ensures at c.put_tail.ensures)
    (rw c.as_str-2.ensures at c.put_str-2.ensures) (rw c.as_slice-2.ensures at c.put_pieces-2.ensures)
    (parts_text (as_form c.args.row.now) c.args.content.now)
