-- What a path is once its last component was removed.
use Rattle.std.specs.Prelude.{◌≡◌, ℕ, List, ◌∷◌, ◌++◌}
use Rattle.uefi_path.specs.Components.{IsPiece}
use Rattle.uefi_path.specs.Separators.{separator}

-- the old path was this path, a separator and the removed component
pub record IsPopped (old new : List ℕ) : Type 0 where
  pub component : List ℕ
  pub whole : old ≡ new ++ separator ∷ component
  pub piece : IsPiece component
