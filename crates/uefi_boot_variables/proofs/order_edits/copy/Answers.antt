use Rattle.std.proofs.Common.{arith}
use Rattle.uefi_boot_variables.proofs.OrderLists.{once_each-short}
use Rattle.uefi_boot_variables.specs.Views.{numbers_of}
use Rattle.uefi_boot_variables.proofs.order_edits.copy.Goals.{else-places-len-via-then-places-len+else-places-different_len, else-places-len-via-else-places-len}
use Rattle.uefi_boot_variables.proofs.order_edits.copy.Goals as goal

pub fill-requires : goal.fill-requires
fill-requires c = elim c.else-places-len.branch [
  | else-places-len-via-then-places-len+else-places-different_len w ↦ omega arith
  | else-places-len-via-else-places-len w ↦ omega (arith, once_each-short (numbers_of c.args.order.now))
]
