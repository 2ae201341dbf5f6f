-- The components of a path, each with the place where it begins in the text.
use Rattle.std.specs.Prelude.{◌≡◌, ◌≤◌, ℕ, ◌+◌, List, [], ◌∷◌, drop, length, map}
use Rattle.uefi_text.specs.declared.strings.strs.Char16Slice.{Char16Slice}
use Rattle.uefi_text.specs.Views.{units_of}
use Rattle.uefi_path.specs.Components.{joined}
use Rattle.uefi_path.specs.Views.{components_left}
use Rattle.uefi_path.specs.declared.splitting.component_indices.ComponentIndices.{ComponentIndices}

-- an item: the place and the units of the component
abbrev pub indexed_units : ℕ × Char16Slice → ℕ × List ℕ
indexed_units item = (item.0, units_of item.1)

-- pieces with their places, where the first begins at `place` and one unit stands between two of them
abbrev pub placed_from : ℕ → List (List ℕ) → List (ℕ × List ℕ)
placed_from place [] = []
placed_from place (piece ∷ pieces) = (place, piece) ∷ placed_from (place + length piece + 1) pieces

-- the remaining components
unfoldable pub indices_left : ComponentIndices → List (ℕ × List ℕ)
indices_left indices = placed_from indices.place (components_left indices.components)

-- from each place on, the text is the component there and the later components, joined
abbrev pub BeginAtPlaces : List ℕ → List (ℕ × List ℕ) → Type 0
BeginAtPlaces text [] = Unit {0}
BeginAtPlaces text ((place, piece) ∷ after) =
    (place ≤ length text)
    × ((drop place text ≡ joined (piece ∷ map (λ item. item.1) after)) × BeginAtPlaces text after)
