use Rattle.std.proofs.Common.{◌≡◌, length}
use Rattle.uefi_text.specs.Views.{items_left}
use Rattle.uefi_boot_variables.specs.Present.{present_options}
use Rattle.uefi_boot_variables.proofs.present.PresentOptionsIterator.next.Given as goal

-- nothing that comes was passed over
abbrev pub invariant-numbers : goal.invariant-numbers
invariant-numbers l =
    present_options l.self.variables.now (items_left l.self.order)
    ≡ present_options l.initial.self.variables.now (items_left l.initial.self.order)

-- the numbers that are left
abbrev pub decreases-numbers : goal.decreases-numbers
decreases-numbers l = length (items_left l.self.order)
