-- What is left of a text to cut into pieces, if anything is.
use Rattle.std.specs.Prelude.{ℕ, List, [], Option, Some, None, length}
use Rattle.std.specs.List.{slice_split}
use Rattle.uefi_text.specs.Views.{units_of}
use Rattle.uefi_text.specs.declared.strings.strs.Char16Slice.{Char16Slice}
use Rattle.uefi_path.specs.Separators.{is_separator, with_separators}

-- the pieces that are left
abbrev pub pieces_left : Option Char16Slice → List (List ℕ)
pieces_left None = []
pieces_left (Some text) = slice_split is_separator (units_of text)

-- the same, where slashes separate them too
abbrev pub slashed_left : Option Char16Slice → List (List ℕ)
slashed_left None = []
slashed_left (Some text) = slice_split is_separator (with_separators (units_of text))

-- and how many units these are
abbrev pub are_left : Option Char16Slice → ℕ
are_left None = 0
are_left (Some text) = length (units_of text)
