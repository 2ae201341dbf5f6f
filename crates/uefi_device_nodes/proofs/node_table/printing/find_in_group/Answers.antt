-- Forms of another type are none of a node's.
use Rattle.std.proofs.Common.{map, sym}
use Rattle.uefi_device_nodes.specs.Rows.{as_form}
use Rattle.uefi_device_nodes.proofs.Groups.{other_kind}
use Rattle.uefi_device_nodes.proofs.node_table.printing.find_in_group.Goals as goal

pub returns-then-not-begin_with_kind : goal.returns-then-not-begin_with_kind
returns-then-not-begin_with_kind c =
    sym (other_kind c.args.display_only c.args.kind c.args.sub_kind c.args.content.now (map as_form c.args.rows.now)
    c.requires (sym c.if-not-begin_with_kind.ensures))
