-- What a borrowed value shows. Other crates see these words alone, and no field.
use Rattle.std.specs.Prelude.{ℕ, List, [], Option, Some, None, drop}
use Rattle.std.specs.List.{slice_split}
use Rattle.uefi_text.specs.Views.{read_count, read_units, text_of, units_of}
use Rattle.uefi_path.specs.Separators.{is_separator}
use Rattle.uefi_path.specs.declared.path.Path.{Path}
use Rattle.uefi_path.specs.declared.splitting.components.Components.{Components}
use Rattle.uefi_path.specs.declared.splitting.components.Rest.{Rest}
use Rattle.uefi_path.specs.declared.counted_units.CountedUnits.{CountedUnits}

-- the text of a path
unfoldable pub path_text : Path → List ℕ
path_text path = text_of path.string

-- the units that are left to cut
abbrev pub uncut_units : Rest → List ℕ
uncut_units rest = drop rest.start (units_of rest.text)

-- the pieces of what is left to cut, if anything is
abbrev pub pieces_of_rest : Option Rest → List (List ℕ)
pieces_of_rest None = []
pieces_of_rest (Some rest) = slice_split is_separator (uncut_units rest)

-- the remaining components
unfoldable pub components_left : Components → List (List ℕ)
components_left components = pieces_of_rest components.rest

-- the text whose units are read
unfoldable pub counted_text : CountedUnits → List ℕ
counted_text units = read_units units.reader

-- the number of units that were read
unfoldable pub reads_of : CountedUnits → ℕ
reads_of units = read_count units.reader
