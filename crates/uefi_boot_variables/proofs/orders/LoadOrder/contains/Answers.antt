use Rattle.std.proofs.Common.{eqb}
use Rattle.uefi_text.proofs.Scanning.{is_some-position}
use Rattle.uefi_boot_variables.proofs.OrderLists.{stands_is_contains}
use Rattle.uefi_boot_variables.specs.Views.{numbers_of}
use Rattle.uefi_boot_variables.proofs.orders.LoadOrder.contains.Goals as goal

pub returns : goal.returns
returns c =
    rw (c.is_some.ensures, c.position.ensures, is_some-position (λ other. eqb other c.args.number) (numbers_of c.args.self.now))
    (stands_is_contains c.args.number (numbers_of c.args.self.now))
