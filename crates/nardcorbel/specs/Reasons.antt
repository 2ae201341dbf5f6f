-- The numbers that a caller in C sees: reasons of refusals, and orders. The header names each.
use Rattle.std.specs.Prelude.{ℕ, ℤ, ◌==◌, if◌then◌else◌, pos, negsuc, Option, Some, None}
use Rattle.std.specs.declared.cmp.Ordering.{Ordering}
use Rattle.std.specs.declared.cmp.Ordering.TheVariants.{Less, Equal, Greater}
use Rattle.uefi_text.specs.declared.errors.FromSliceWithNulError.{FromSliceWithNulError}
use Rattle.uefi_text.specs.declared.errors.FromSliceWithNulError.TheVariants as with_nul
use Rattle.uefi_fat.specs.declared.long_names.FatNameError.{FatNameError}
use Rattle.uefi_fat.specs.declared.long_names.FatNameError.TheVariants as fat_name
use Rattle.uefi_path.specs.declared.validation.PathError.{PathError}
use Rattle.uefi_path.specs.declared.validation.PathError.TheVariants.{Empty, EmptyComponent, IllegalChar, ClimbsAboveRoot}
use Rattle.uefi_device_path.specs.NodeError.{NodeError}
use Rattle.uefi_device_path.specs.NodeError.TheVariants as node
use Rattle.uefi_device_path.specs.declared.errors.FilePathCause.{FilePathCause}
use Rattle.uefi_device_path.specs.declared.errors.FilePathCause.TheVariants as file
use Rattle.uefi_device_path.specs.declared.errors.LoadOptionCause.{LoadOptionCause}
use Rattle.uefi_device_path.specs.declared.errors.LoadOptionCause.TheVariants as option
use Rattle.nardcorbel.specs.declared.reasons.TheConstants.{OK, NO_NUL, INVALID_CHAR, INTERIOR_NUL, ODD_BYTES, PATH_EMPTY, EMPTY_COMPONENT, ILLEGAL_CHAR, CLIMBS_ABOVE_ROOT, NO_END_NODE, TRUNCATED_HEADER, UNKNOWN_END, LENGTH_BELOW_HEADER, END_WITH_DATA, NODE_BEYOND_END, OPTION_TOO_SHORT, DESCRIPTION_WITHOUT_END, LIST_BEYOND_END, EMPTY_LIST, NAME_EMPTY, NAME_TOO_LONG}

-- the reason why units are no string; neither memory nor a place in memory is ever the reason
abbrev pub with_nul_reason : FromSliceWithNulError → ℕ
with_nul_reason (with_nul.InvalidChar place) = INVALID_CHAR
with_nul_reason (with_nul.InteriorNul place) = INTERIOR_NUL
with_nul_reason with_nul.NotNulTerminated = NO_NUL
with_nul_reason with_nul.NotAligned = NO_NUL
with_nul_reason with_nul.OutOfMemory = NO_NUL

-- the reason why a text is no string, by its first character that none holds
abbrev pub character_reason : Option ℕ → ℕ
character_reason None = OK
character_reason (Some character) = if character == 0 then INTERIOR_NUL else INVALID_CHAR

-- the reason why a path is refused
abbrev pub path_reason : PathError → ℕ
path_reason Empty = PATH_EMPTY
path_reason EmptyComponent = EMPTY_COMPONENT
path_reason (IllegalChar character) = ILLEGAL_CHAR
path_reason ClimbsAboveRoot = CLIMBS_ABOVE_ROOT

-- the character for which a path is refused, and 0 for other reasons
abbrev pub refused_character : Option PathError → ℕ
refused_character None = 0
refused_character (Some Empty) = 0
refused_character (Some EmptyComponent) = 0
refused_character (Some (IllegalChar character)) = character
refused_character (Some ClimbsAboveRoot) = 0

-- the reason why a file on a FAT volume can not have a name
abbrev pub fat_name_reason : FatNameError → ℕ
fat_name_reason fat_name.Empty = NAME_EMPTY
fat_name_reason fat_name.TooLong = NAME_TOO_LONG
fat_name_reason (fat_name.IllegalChar character) = ILLEGAL_CHAR

-- the character for which such a name is refused, and 0 for other reasons
abbrev pub refused_fat_character : Option FatNameError → ℕ
refused_fat_character None = 0
refused_fat_character (Some fat_name.Empty) = 0
refused_fat_character (Some fat_name.TooLong) = 0
refused_fat_character (Some (fat_name.IllegalChar character)) = character

-- the number of an order
abbrev pub order_number : Ordering → ℤ
order_number Less = negsuc 0
order_number Equal = pos 0
order_number Greater = pos 1

-- the reason why no node of a device path stands at a place
abbrev pub node_reason : NodeError → ℕ
node_reason node.Missing = NO_END_NODE
node_reason node.TruncatedHeader = TRUNCATED_HEADER
node_reason node.UnknownEnd = UNKNOWN_END
node_reason node.LengthBelowHeader = LENGTH_BELOW_HEADER
node_reason node.EndWithData = END_WITH_DATA
node_reason node.BeyondEnd = NODE_BEYOND_END

-- the reason why bytes are no load option
abbrev pub option_reason : LoadOptionCause → ℕ
option_reason option.TooShort = OPTION_TOO_SHORT
option_reason option.DescriptionWithoutEnd = DESCRIPTION_WITHOUT_END
option_reason option.ListBeyondEnd = LIST_BEYOND_END
option_reason option.EmptyList = EMPTY_LIST
option_reason (option.FilePathList cause) = node_reason cause

-- the reason why a node that names a file has no name; memory is never the reason
abbrev pub name_reason : FilePathCause → ℕ
name_reason file.HalfUnit = ODD_BYTES
name_reason (file.Text error) = with_nul_reason error
name_reason file.OutOfMemory = ODD_BYTES
