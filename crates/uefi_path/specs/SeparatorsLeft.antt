-- The separators of units that are still to come.
use Rattle.std.specs.Prelude.{ℕ, List, ◌++◌, drop}
use Rattle.uefi_path.specs.Separators.{places_from}
use Rattle.uefi_path.specs.declared.splitting.separators.Separators.{Separators}

-- their places
abbrev pub places_left : Separators → List ℕ
places_left separators =
    separators.known.now ++ places_from separators.start (drop separators.start separators.units.now)
