-- The items are the units of the bytes that they take.
use Rattle.std.proofs.Common.{◌∙◌, ◌<◌, ◌^◌, ap, get_or, position, subst}
use Rattle.uefi_text.specs.Views.{items_of}
use Rattle.uefi_text.proofs.PackedStrings.{units_of_front}
use Rattle.uefi_text.proofs.unaligned_slice.UnalignedSlice+u16.find_first.Goals as goal

pub returns-clause-place : goal.returns-clause-place
unfolding items_of
returns-clause-place g c =
    let slice = c.args.self.now in
    c.find_first_packed.ensures.place ∙ ap (position g.C.Class.holds) (units_of_front slice.len slice.bytes.now slice.in_bytes)

pub returns-clause-units : goal.returns-clause-units
unfolding items_of
returns-clause-units g c k =
    let slice = c.args.self.now in
    subst (λ items. get_or items k 0 < 2 ^ 16) (units_of_front slice.len slice.bytes.now slice.in_bytes) (c.find_first_packed.ensures.units k)
