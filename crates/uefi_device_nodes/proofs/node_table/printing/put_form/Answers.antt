use Rattle.std.proofs.Common.{sym}
use Rattle.uefi_device_nodes.specs.Rows.{as_form, is_laid_out, matches}
use Rattle.uefi_device_nodes.specs.Table.{forms}
use Rattle.uefi_device_nodes.proofs.Forms.{found, long_enough}
use Rattle.uefi_device_nodes.proofs.Groups.{table_laid_out}
use Rattle.uefi_device_nodes.proofs.node_table.printing.put_form.Goals as goal

pub put_row-requires-clause-laid_out : goal.put_row-requires-clause-laid_out
put_row-requires-clause-laid_out g c =
    (found (matches c.args.display_only c.args.kind c.args.sub_kind c.args.content.now) is_laid_out forms (as_form c.in-Some.row.now)
    (sym c.in-Some.ensures) table_laid_out).0

pub put_row-requires-clause-long : goal.put_row-requires-clause-long
put_row-requires-clause-long g c =
    long_enough c.args.display_only c.args.kind c.args.sub_kind c.args.content.now (as_form c.in-Some.row.now)
    (found (matches c.args.display_only c.args.kind c.args.sub_kind c.args.content.now) is_laid_out forms (as_form c.in-Some.row.now)
    (sym c.in-Some.ensures) table_laid_out).1
