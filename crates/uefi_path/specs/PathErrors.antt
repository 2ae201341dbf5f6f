-- What is printed of the refusals of a path. The value of a character is in decimal.
use Rattle.std.specs.Prelude.{ℕ, List, ◌++◌, codes}
use Rattle.std.specs.Fmt.{decimal}
use Rattle.uefi_path.specs.declared.normal.NormalizeError.{NormalizeError}
use Rattle.uefi_path.specs.declared.normal.NormalizeError.TheVariants.{Invalid, OutOfMemory}
use Rattle.uefi_path.specs.declared.path_in_buf.NormalWriteError.{NormalWriteError}
use Rattle.uefi_path.specs.declared.path_in_buf.NormalWriteError.TheVariants as write
use Rattle.uefi_path.specs.declared.validation.PathError.{PathError}
use Rattle.uefi_path.specs.declared.validation.PathError.TheVariants.{ClimbsAboveRoot, Empty, EmptyComponent, IllegalChar}

-- the text of an error for a refused path
abbrev pub path_error_text : PathError → List ℕ
path_error_text Empty = codes "path is empty"
path_error_text EmptyComponent = codes "path contains an empty component"
path_error_text (IllegalChar character) =
    codes "path contains an illegal character (value " ++ decimal character ++ codes ")"
path_error_text ClimbsAboveRoot = codes "path climbs above the root"

-- the text of an error for a path without a normal path
abbrev pub normalize_error_text : NormalizeError → List ℕ
normalize_error_text (Invalid error) = path_error_text error
normalize_error_text OutOfMemory = codes "out of memory"

-- the text of an error for a normal path that is not written into a buffer
abbrev pub normal_write_error_text : NormalWriteError → List ℕ
normal_write_error_text (write.Invalid error) = path_error_text error
normal_write_error_text (write.BufferTooSmall needed) =
    codes "buffer too small: the normal path needs " ++ decimal needed ++ codes " units"
