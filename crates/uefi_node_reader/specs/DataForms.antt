-- How a text encodes data.
use Rattle.std.specs.Prelude.{Option, Some, None}
use Rattle.uefi_device_nodes.specs.declared.node_table.rows.Tail.{Tail}
use Rattle.uefi_device_nodes.specs.declared.node_table.rows.Tail.TheVariants as tail
use Rattle.uefi_node_reader.specs.declared.exact.data_form.DataForm.{DataForm}
use Rattle.uefi_node_reader.specs.declared.exact.data_form.DataForm.TheVariants.{Nothing, Bytes, Text, Utf16, Name, Padded, Ids, Repeated, Uid}

-- the tail of a form that encodes data in this way, or none for the string of `_UID`
abbrev pub coded_tail : DataForm → Option Tail
coded_tail Nothing = Some tail.Nothing
coded_tail Bytes = Some tail.Bytes
coded_tail Text = Some tail.Text
coded_tail Utf16 = Some tail.Utf16
coded_tail Name = Some tail.Name
coded_tail Padded = Some tail.Padded
coded_tail Ids = Some tail.Ids
coded_tail (Repeated items) = Some (tail.Repeated items)
coded_tail Uid = None
