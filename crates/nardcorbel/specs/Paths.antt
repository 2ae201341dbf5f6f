-- Where paths are at fault.
use Rattle.std.specs.Prelude.{◌≡◌, ℕ, List, length, Option, Some, None}
use Rattle.uefi_path.specs.FaultPlaces.{IsRefusedAt}
use Rattle.uefi_path.specs.Verdicts.{verdict}
use Rattle.uefi_path.specs.declared.validation.PathError.{PathError}
use Rattle.nardcorbel.specs.Reasons.{path_reason, refused_character}
use Rattle.nardcorbel.specs.declared.reasons.TheConstants.{OK}

-- the verdict on a path as a reason
abbrev pub verdict_reason : Option PathError → ℕ
verdict_reason None = OK
verdict_reason (Some error) = path_reason error

-- the numbers that are reported of a path, by the verdict on it: the length of its text, or where its
-- fault is
abbrev pub AreOfVerdict : Option PathError → List ℕ → ℕ → ℕ → ℕ → ℕ → Type 0
AreOfVerdict None text before wrong len fault = (len ≡ length text) × (fault ≡ wrong)
AreOfVerdict (Some error) text before wrong len fault =
    (len ≡ before) × IsRefusedAt text (record { error = error; place = fault })

-- a caller sees the verdict on a path, where the path is at fault, and the character for which it is
pub record ShowsVerdict (text : List ℕ) (before wrong returned len fault refused : ℕ) : Type 0 where
  pub reason : returned ≡ verdict_reason (verdict text)
  pub numbers : AreOfVerdict (verdict text) text before wrong len fault
  pub character : refused ≡ refused_character (verdict text)
