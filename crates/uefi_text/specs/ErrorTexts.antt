-- What is printed of each error. An index is in decimal.
use Rattle.std.specs.Prelude.{ℕ, List, ◌++◌, codes}
use Rattle.std.specs.Fmt.{decimal}
use Rattle.uefi_text.specs.declared.errors.FromSliceUntilNulError.{FromSliceUntilNulError}
use Rattle.uefi_text.specs.declared.errors.FromSliceUntilNulError.TheVariants as until_nul
use Rattle.uefi_text.specs.declared.errors.FromSliceWithNulError.{FromSliceWithNulError}
use Rattle.uefi_text.specs.declared.errors.FromSliceWithNulError.TheVariants as with_nul
use Rattle.uefi_text.specs.declared.errors.UnalignedCStr16Error.{UnalignedCStr16Error}
use Rattle.uefi_text.specs.declared.errors.UnalignedCStr16Error.TheVariants as unaligned
use Rattle.uefi_text.specs.declared.errors.FromStrWithBufError.{FromStrWithBufError}
use Rattle.uefi_text.specs.declared.errors.FromStrWithBufError.TheVariants as with_buf
use Rattle.uefi_text.specs.declared.errors.FromStrError.{FromStrError}
use Rattle.uefi_text.specs.declared.errors.FromStrError.TheVariants as from_str

-- what is printed of a surrogate or of a character above U+FFFF, at this index
abbrev pub invalid_char_text : ℕ → List ℕ
invalid_char_text place = codes "invalid character at index " ++ decimal place

-- what is printed of a NUL with more after it, at this index
abbrev pub interior_nul_text : ℕ → List ℕ
interior_nul_text place = codes "interior null character at index " ++ decimal place

-- the text of an error for units up to their NUL
abbrev pub from_slice_until_nul_error_text : FromSliceUntilNulError → List ℕ
from_slice_until_nul_error_text (until_nul.InvalidChar place) = invalid_char_text place
from_slice_until_nul_error_text until_nul.NoNul = codes "no nul character"
from_slice_until_nul_error_text until_nul.OutOfMemory = codes "out of memory"

-- the text of an error for units that are not exactly one string
abbrev pub from_slice_with_nul_error_text : FromSliceWithNulError → List ℕ
from_slice_with_nul_error_text (with_nul.InvalidChar place) = invalid_char_text place
from_slice_with_nul_error_text (with_nul.InteriorNul place) = interior_nul_text place
from_slice_with_nul_error_text with_nul.NotNulTerminated = codes "not null-terminated"
from_slice_with_nul_error_text with_nul.NotAligned = codes "slice is not aligned to a 16-bit boundary"
from_slice_with_nul_error_text with_nul.OutOfMemory = codes "out of memory"

-- the text of an error for packed units that are not a string in a buffer
abbrev pub unaligned_cstr16_error_text : UnalignedCStr16Error → List ℕ
unaligned_cstr16_error_text (unaligned.InvalidChar place) = invalid_char_text place
unaligned_cstr16_error_text (unaligned.InteriorNul place) = interior_nul_text place
unaligned_cstr16_error_text unaligned.NotNulTerminated = codes "not null-terminated"
unaligned_cstr16_error_text unaligned.BufferTooSmall = codes "buffer too small"

-- the text of an error for a Rust text that is not a string in a buffer
abbrev pub from_str_with_buf_error_text : FromStrWithBufError → List ℕ
from_str_with_buf_error_text (with_buf.InvalidChar place) = invalid_char_text place
from_str_with_buf_error_text (with_buf.InteriorNul place) = interior_nul_text place
from_str_with_buf_error_text with_buf.BufferTooSmall = codes "buffer too small"

-- the text of an error for a Rust text that is not a string
abbrev pub from_str_error_text : FromStrError → List ℕ
from_str_error_text from_str.InvalidChar = codes "UCS-2 Conversion Error: Invalid character"
from_str_error_text from_str.InteriorNul = codes "UCS-2 Conversion Error: Interior null terminator"
from_str_error_text from_str.OutOfMemory = codes "UCS-2 Conversion Error: Out of memory"
