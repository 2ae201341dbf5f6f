-- Places for the items of a packed slice.
use Rattle.std.proofs.Common.{◌≡◌, ◌∙◌, ℕ, ◌*◌, ◌≤◌, ap, length, subst, sym}
use Rattle.uefi_text.specs.Views.{items_of}
use Rattle.uefi_text.specs.declared.unaligned_slice.UnalignedSlice.{UnalignedSlice}
use Rattle.uefi_text.specs.Packed.{packed_items}
use Rattle.uefi_text.proofs.Packing.{length-packed_items}

module _ {T : Type 0} {P : _} (slice : UnalignedSlice T P) (places : ℕ) (as_many : places ≡ length (items_of slice)) where
  same-len : places ≡ slice.len
  unfolding items_of
  same-len = as_many ∙ length-packed_items P.SIZE slice.len slice.bytes.now

  -- the bytes have room for as many places as there are items
  pub places-fit : places * P.SIZE ≤ length slice.bytes.now
  places-fit = subst (λ n. n * P.SIZE ≤ length slice.bytes.now) (sym same-len) slice.in_bytes

  -- and the items for these places are those of the slice
  pub items-in_places : packed_items P.SIZE places slice.bytes.now ≡ items_of slice
  unfolding items_of
  items-in_places = ap (λ n. packed_items P.SIZE n slice.bytes.now) same-len
