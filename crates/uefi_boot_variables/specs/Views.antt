-- What a borrowed value shows. Other crates see these words alone, and no field.
use Rattle.std.specs.Prelude.{ℕ, List, length, take}
use Rattle.std.specs.Borrow.{GName}
use Rattle.uefi_text.specs.Views.{items_left, items_of}
use Rattle.uefi_boot_variables.specs.Present.{present_options}
use Rattle.uefi_boot_variables.specs.declared.present.PresentOptions.{PresentOptions}
use Rattle.uefi_boot_variables.specs.declared.orders.LoadOrder.{LoadOrder}
use Rattle.uefi_boot_variables.specs.declared.order_buffer.OrderBuffer.{OrderBuffer}

-- the numbers of an order
unfoldable pub numbers_of : LoadOrder → List ℕ
numbers_of order = items_of order.numbers

-- the numbers of an order that is edited in the caller's memory
unfoldable pub numbers_in : OrderBuffer → List ℕ
numbers_in buffer = take buffer.len buffer.places.now

-- the content of all places of the caller's memory
unfoldable pub order_places : OrderBuffer → List ℕ
order_places buffer = buffer.places.now

-- the number of places in the caller's memory
abbrev pub room_of : OrderBuffer → ℕ
room_of buffer = length (order_places buffer)

-- the slice that the caller gave
unfoldable pub memory_of : OrderBuffer → GName
memory_of buffer = buffer.places.ghost_name

-- the remaining options whose variables exist
unfoldable pub options_left : PresentOptions → List (ℕ × List ℕ)
options_left options = present_options options.variables.now (items_left options.order)
