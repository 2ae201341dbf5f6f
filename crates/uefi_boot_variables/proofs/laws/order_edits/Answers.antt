use Rattle.uefi_boot_variables.proofs.OrderLists.{gone, others_stay, others_keep_order, put_where_asked}
use Rattle.uefi_boot_variables.proofs.laws.order_edits.Goals as goal

pub returns : goal.returns
returns c = record { gone = gone; others = others_stay; order = others_keep_order; place = put_where_asked }
