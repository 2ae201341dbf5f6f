-- What a borrowed value shows. Other crates see these words alone, and no field.
use Rattle.std.specs.Prelude.{ℕ, List}
use Rattle.uefi_text.specs.Packed.{packed_items}
use Rattle.uefi_text.specs.Units.{without_nul}
use Rattle.uefi_text.specs.declared.counted_reads.CountedReader.{CountedReader}
use Rattle.uefi_text.specs.declared.strings.latin1.CStr8.{CStr8}
use Rattle.uefi_text.specs.declared.strings.strs.CStr16.{CStr16}
use Rattle.uefi_text.specs.declared.strings.strs.Char16Slice.{Char16Slice}
use Rattle.uefi_text.specs.declared.strings.strs.CStr16Iter.{CStr16Iter}
use Rattle.uefi_text.specs.declared.unaligned_slice.UnalignedSlice.{UnalignedSlice}
use Rattle.uefi_text.specs.declared.unaligned_slice.UnalignedSliceIter.{UnalignedSliceIter}
use Rattle.uefi_text.specs.declared.unaligned_slice.UnalignedSliceIntoIter.{UnalignedSliceIntoIter}

-- the bytes of a borrowed Latin-1 string, its NUL included
unfoldable pub bytes_of : CStr8 → List ℕ
bytes_of string = string.bytes.now

-- the text of a borrowed string, without its NUL
unfoldable pub text_of : CStr16 → List ℕ
text_of string = without_nul string.units.now

-- the code units of adjacent characters
unfoldable pub units_of : Char16Slice → List ℕ
units_of part = part.units.now

-- the code units of the remaining characters
unfoldable pub units_left : CStr16Iter → List ℕ
units_left iter = iter.units.now

-- the units that a reader reads
unfoldable pub read_units : CountedReader → List ℕ
read_units reader = reader.units.now

-- the number of units that the reader has read
unfoldable pub read_count : CountedReader → ℕ
read_count reader = reader.count.number

module _ {T : Type 0} {P : _} where
  -- the numbers of the items of a packed slice
  unfoldable pub items_of : UnalignedSlice T P → List ℕ
  items_of slice = packed_items P.SIZE slice.len slice.bytes.now

  -- the numbers of the remaining items
  unfoldable pub items_left : UnalignedSliceIter T P → List ℕ
  items_left iter = items_of iter.rest

  -- the numbers of the remaining items of a slice's owning iterator
  unfoldable pub into_iter_items_left : UnalignedSliceIntoIter T P → List ℕ
  into_iter_items_left iter = items_left iter.items
