-- Where the component begins for which a path is refused.
use Rattle.std.specs.Prelude.{◌≡◌, ◌≤◌, ◌⊎◌, ℕ, List, [], ◌∷◌, ◌++◌, Some, None, drop, length}
use Rattle.uefi_path.specs.Components.{components_of, joined}
use Rattle.uefi_path.specs.Verdicts.{first_fault, verdict}
use Rattle.uefi_path.specs.declared.validation.PathError.{PathError}
use Rattle.uefi_path.specs.declared.splitting.fault_places.PathFault.{PathFault}

-- the component that begins at a place is the first at fault: those before it are accepted, and with it
-- they are refused for this error
pub record IsFirstFault (text : List ℕ) (place : ℕ) (error : PathError) : Type 0 where
  pub before : List (List ℕ)
  pub component : List ℕ
  pub after : List (List ℕ)
  pub components : components_of text ≡ before ++ component ∷ after
  pub accepted : first_fault before 0 ≡ None
  pub refused : first_fault (before ++ component ∷ []) 0 ≡ Some error
  pub within : place ≤ length text
  pub begins : drop place text ≡ joined (component ∷ after)

-- why and where a path is refused: the empty text has no component, and is refused at its start
pub record IsRefusedAt (text : List ℕ) (fault : PathFault) : Type 0 where
  pub error : verdict text ≡ Some fault.error
  pub place : ((text ≡ []) × (fault.place ≡ 0)) ⊎ IsFirstFault text fault.place fault.error
