-- The beginnings of a path, the path itself first.
use Rattle.std.specs.Prelude.{◌≡◌, ◌≢◌, ℕ, List, [], ◌∷◌, length}
use Rattle.uefi_path.specs.Components.{components_of}
use Rattle.uefi_path.specs.CutPieces.{pieces_left}
use Rattle.uefi_path.specs.Separators.{canonical}
use Rattle.uefi_path.specs.SuccessiveParents.{prefixes, shorter_prefixes}
use Rattle.uefi_path.specs.declared.ancestors.Ancestors.{Ancestors}

-- pieces, joined: all of them, all but the last, and so on down to the first alone
abbrev pub beginnings : List (List ℕ) → List (List ℕ)
beginnings pieces = prefixes (length pieces) pieces

-- the remaining ancestors of a path
unfoldable pub ancestors_left : Ancestors → List (List ℕ)
ancestors_left ancestors = beginnings (pieces_left ancestors.rest)

-- a path that has components begins with its canonical text and with its shorter prefixes
abbrev pub BeginningsArePrefixes : Type 0
BeginningsArePrefixes = (text : List ℕ) → components_of text ≢ []
    → beginnings (components_of text) ≡ canonical text ∷ shorter_prefixes text
