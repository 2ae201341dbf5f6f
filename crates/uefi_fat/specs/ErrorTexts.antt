-- What is printed of the refusals of a name. The value of a character is in decimal.
use Rattle.std.specs.Prelude.{ℕ, List, ◌++◌, codes}
use Rattle.std.specs.Fmt.{decimal}
use Rattle.uefi_fat.specs.declared.long_names.FatNameError.{FatNameError}
use Rattle.uefi_fat.specs.declared.long_names.FatNameError.TheVariants.{Empty, IllegalChar, TooLong}

-- the text of an error for a refused name
abbrev pub fat_name_error_text : FatNameError → List ℕ
fat_name_error_text Empty = codes "name contains only spaces and dots"
fat_name_error_text TooLong = codes "name is longer than 255 characters"
fat_name_error_text (IllegalChar character) =
    codes "name contains an illegal character (value " ++ decimal character ++ codes ")"
